-- The rows that a scan has read so far.
use Rattle.std.specs.Prelude.{◌≡◌, ◌<◌, ℕ, zero, suc, List, [], ◌∷◌, ◌++◌, Option, None, length, map, take, get_or}
use Rattle.std.proofs.Common.{refl, sym, ap, subst, ◌∙◌, append_assoc, append-nil, arith}
use Rattle.std.proofs.lemmas.List.{map-append}
use Rattle.sk_rows.specs.declared.value.Value.{Value}
use Rattle.sk_model.specs.declared.label.Label.{Label}
use Rattle.sk_model.specs.declared.call.EngineFault.{EngineFault}
use Rattle.sk_model.specs.declared.call.EngineFault.TheVariants as fault
use Rattle.sk_model.specs.declared.call.EngineReply.TheVariants.{Found, Rows}
use Rattle.sk_model.specs.Database.{RowOf, KeyedRows}
use Rattle.sk_chain.specs.Chained.{Chained}
use Rattle.sk_chain.specs.Promise.{refused}
use Rattle.sk_chain.specs.Reading.{Sight, Sees, Waits, found}
use Rattle.sk_engine.specs.Rows.{row_in, sighted, reading}
use Rattle.sk_mem.specs.Chains.{Answers}
use Rattle.sk_mem.specs.Scanning.{row_listed, sight_rows, rows_seen, wait_or, waits_for, busy_or}

pub none_first : (x : Sight) (o : Option Label) → wait_or x o ≡ None → (wait_or x None ≡ None) × (o ≡ None)
none_first (Sees v) o e = (refl, e)
none_first (Waits by) o e = cc

-- a refusal of one row is that of the scan
refused_first : (x : Sight) (o : Option Label) (rows : KeyedRows) (f : EngineFault) → Answers (refused f) (sighted x) → Answers (refused f) (busy_or (wait_or x o) (Rows rows))
refused_first (Waits by) o rows f g = g
refused_first (Sees v) o rows fault.NoMemory g = tt
refused_first (Sees v) o rows (fault.Old a b) g = cc
refused_first (Sees v) o rows (fault.Busy by) g = cc
refused_first (Sees v) o rows (fault.Conflict by why) g = cc
refused_first (Sees v) o rows fault.Device g = cc

skipped : (x : Sight) (o : Option Label) → wait_or x None ≡ None → wait_or x o ≡ o
skipped (Sees v) o e = refl
skipped (Waits by) o e = cc

module _ (tx : Label) (s : ℕ) where
  pub refused_at : (es : List (Value × Chained)) (n : ℕ) (d : Value × Chained) (rows : KeyedRows) (f : EngineFault) → n < length es → d ≡ get_or es n d → waits_for tx s (take n es) ≡ None
      → Answers (refused f) (reading d.1 tx s) → Answers (refused f) (busy_or (waits_for tx s es) (Rows rows))
  refused_at [] n d rows f l e w g = absurd (omega arith)
  refused_at (x ∷ es) zero d rows f l e w g = refused_first (found x.1 tx s) (waits_for tx s es) rows f (subst (λ (y : Value × Chained). Answers (refused f) (reading y.1 tx s)) e g)
  refused_at (x ∷ es) (suc n) d rows f l e w g =
      let less : n < length es = omega arith in
      let both : (wait_or (found x.1 tx s) None ≡ None) × (waits_for tx s (take n es) ≡ None) = none_first (found x.1 tx s) (waits_for tx s (take n es)) w in
      subst (λ o. Answers (refused f) (busy_or o (Rows rows))) (sym (skipped (found x.1 tx s) (waits_for tx s es) both.0)) (refused_at es n d rows f less e both.1 g)

  seen_one : (key : Value) (x : Sight) (row : Option RowOf) → Found row ≡ sighted x → sight_rows key x ≡ row_listed key row
  seen_one key (Sees v) row e = let is : row ≡ row_in v = cc in ap (row_listed key) (sym is)
  seen_one key (Waits by) row e = cc

  free_one : (x : Sight) (row : Option RowOf) → Found row ≡ sighted x → wait_or x None ≡ None
  free_one (Sees v) row e = refl
  free_one (Waits by) row e = cc

  -- one more row
  pub rows_more : (es : List (Value × Chained)) (d : Value × Chained) (row : Option RowOf) → Found row ≡ reading d.1 tx s → rows_seen tx s (es ++ d ∷ []) ≡ rows_seen tx s es ++ row_listed d.0 row
  rows_more [] d row e = append-nil (sight_rows d.0 (found d.1 tx s)) ∙ seen_one d.0 (found d.1 tx s) row e
  rows_more (x ∷ es) d row e =
      ap (λ rows. sight_rows x.0 (found x.1 tx s) ++ rows) (rows_more es d row e)
      ∙ sym (append_assoc (sight_rows x.0 (found x.1 tx s)) (rows_seen tx s es) (row_listed d.0 row))

  pub waits_more : (es : List (Value × Chained)) (d : Value × Chained) (row : Option RowOf) → Found row ≡ reading d.1 tx s → waits_for tx s es ≡ None → waits_for tx s (es ++ d ∷ []) ≡ None
  waits_more [] d row e w = free_one (found d.1 tx s) row e
  waits_more (x ∷ es) d row e w =
      let both : (wait_or (found x.1 tx s) None ≡ None) × (waits_for tx s es ≡ None) = none_first (found x.1 tx s) (waits_for tx s es) w in
      skipped (found x.1 tx s) (waits_for tx s (es ++ d ∷ [])) both.0 ∙ waits_more es d row e both.1

  -- the same of items that stand for them
  pub rows_more_of : {A : Type 0} (ys : List A) (v : A → Value × Chained) (y : A) (row : Option RowOf) → Found row ≡ reading (v y).1 tx s → rows_seen tx s (map v (ys ++ y ∷ [])) ≡ rows_seen tx s (map v ys) ++ row_listed (v y).0 row
  rows_more_of ys v y row e = ap (rows_seen tx s) (map-append v ys (y ∷ [])) ∙ rows_more (map v ys) (v y) row e

  pub waits_more_of : {A : Type 0} (ys : List A) (v : A → Value × Chained) (y : A) (row : Option RowOf) → Found row ≡ reading (v y).1 tx s → waits_for tx s (map v ys) ≡ None → waits_for tx s (map v (ys ++ y ∷ [])) ≡ None
  waits_more_of ys v y row e w = ap (waits_for tx s) (map-append v ys (y ∷ [])) ∙ waits_more (map v ys) (v y) row e w
