-- The labels of the records of a session count, so its last record is the newest.
use Rattle.std.specs.Prelude.{◌≡◌, ◌⊎◌, ℕ, zero, suc, ◌+◌, ◌-◌, ◌<◌, ◌≤◌, List, [], ◌∷◌, ◌++◌, Option, Some, None, IfSome, length, map, slice_get}
use Rattle.std.specs.Option.{option_copied}
use Rattle.std.proofs.Common.{Bor, sym, ap, subst, ◌∙◌, inl, inr, ⊎_elim, arith}
use Rattle.sk_rows.specs.declared.table.Table.{Table}
use Rattle.sk_model.specs.declared.call.Entry.{Entry}
use Rattle.sk_model.specs.declared.label.Label.{Label}
use Rattle.sk_model.specs.declared.record.Record.{Record}
use Rattle.sk_model.specs.declared.record.Ending.TheVariants as ending
use Rattle.sk_model.specs.Engine.{EngineTable}
use Rattle.sk_model.specs.Talks.{Talk}
use Rattle.sk_model.proofs.Lists.{Each}
use Rattle.sk_linked.specs.Traces.{In}
use Rattle.sk_linked.proofs.Members.{each_in}
use Rattle.sk_mem.specs.declared.engine.MemEngine.{MemEngine}
use Rattle.sk_store.specs.declared.engine.StoreEngine.{StoreEngine}
use Rattle.sk_session.specs.declared.live.At.{At}
use Rattle.sk_session.specs.declared.live.At.TheVariants as at
use Rattle.sk_session.specs.declared.session.Session.{Session}
use Rattle.sk_session.specs.EachTalk.{EachHas, LastLive, HasTalks, SessionTalks, label_at}
use Rattle.sk_session.specs.Over.{HasOver, AreOver}
use Rattle.sk_kept.specs.Sessions.{Player}
use Rattle.sk_recorded.specs.Flushes.{Flush}
use Rattle.sk_run.specs.State.{RunState}
use Rattle.sk_run.specs.Told.{RunLine, AreTold}
use Rattle.sk_run.specs.Kept.{Beginning, HasKept, IsKept}
use Rattle.sk_run.specs.Over.{IsNewest, HasSome, last_in}
use Rattle.sk_run.proofs.Over.{in_slice, committed_last}
use Rattle.sk_run.proofs.Spoken.{snoc_front, over_same}

-- ---- of one session

-- the labels count from k on
abbrev Counts : ℕ → ℕ → List Record → Type 0
Counts number k [] = Unit {0}
Counts number k (r ∷ rs) = (r.label ≡ label_at number k) × Counts number (k + 1) rs

each_counts : (Has : Record → Talk → Type 0) (number k : ℕ) (rs : List Record) (ts : List Talk) → EachHas Has number k rs ts → Counts number k rs
each_counts Has number k [] ts h = tt
each_counts Has number k (r ∷ rs) [] h = absurd h
each_counts Has number k (r ∷ rs) (t ∷ ts) h = (h.0, each_counts Has number (k + 1) rs ts h.2)

before_last : (catalog : List Table) (number : ℕ) (records over : List Record) (label : Label) (talk : Talk) (talks : List Talk) → LastLive catalog number records talks label talk
    → (place : Record) × (records ≡ over ++ place ∷ []) × (place.ending ≡ ending.Open) → Counts number 1 over
before_last catalog number records over label talk talks l (place, are, is) = subst (Counts number 1) (snoc_front l.front over _ place (sym l.records_are ∙ are)) (each_counts _ number 1 l.front l.before l.each)

over_counts : (catalog : List Table) (number : ℕ) (records over : List Record) (there : At) (talks : List Talk) → HasTalks catalog number records there talks → HasOver over records there → Counts number 1 over
over_counts catalog number records over at.Outside talks h are = subst (Counts number 1) are (each_counts _ number 1 records talks h)
over_counts catalog number records over at.Ended talks h are = subst (Counts number 1) are (each_counts _ number 1 records talks h)
over_counts catalog number records over (at.Inside live) talks (talk, l, rest) are = before_last catalog number records over live.label talk talks l are
over_counts catalog number records over (at.Stepping live c) talks (talk, l, rest) are = before_last catalog number records over live.label talk talks l are
over_counts catalog number records over (at.Asking live doing) talks (talk, l, rest) are = before_last catalog number records over live.label talk talks l are

-- whoever is among them is of this session
counted_in : (number k : ℕ) (rs : List Record) (q : Record) → Counts number k rs → In q rs → q.label.session ≡ number
counted_in number k [] q c i = absurd i
counted_in number k (r ∷ rs) q c i = ⊎_elim (λ (e : q ≡ r). ap (λ (x : Record). x.label.session) e ∙ ap (λ l. l.session) c.0) (λ (rest : In q rs). counted_in number (k + 1) rs q c.1 rest) i

-- the last of them is as new as none
abbrev IsLast : ℕ → List Record → Record → Type 0
IsLast k rs r = (k ≤ r.label.k) × ((q : Record) → In q rs → (q ≡ r) ⊎ (q.label.k < r.label.k))

last_of : (number k : ℕ) (x : Record) (xs : List Record) (r : Record) → Counts number k (x ∷ xs) → slice_get (x ∷ xs) (length xs) ≡ Some r → IsLast k (x ∷ xs) r
last_of number k x [] r c e =
    let same : x ≡ r = cc in
    let at : r.label.k ≡ k = ap (λ (y : Record). y.label.k) (sym same) ∙ ap (λ l. l.k) c.0 in
    (omega (arith, at), λ q i. inl (⊎_elim (λ (h : q ≡ x). h ∙ same) (λ (n : In q []). absurd n) i))
last_of number k x (y ∷ ys) r c e =
    let rest : IsLast (k + 1) (y ∷ ys) r = last_of number (k + 1) y ys r c.1 e in
    let past : k + 1 ≤ r.label.k = rest.0 in
    (omega (arith, past), λ q i. ⊎_elim (λ (h : q ≡ x). let at : q.label.k ≡ k = ap (λ (z : Record). z.label.k) h ∙ ap (λ l. l.k) c.0 in inr (omega (arith, past, at))) (λ (n : In q (y ∷ ys)). rest.1 q n) i)

last_is : (number : ℕ) (rs : List Record) (r : Record) → Counts number 1 rs → In r rs → last_in rs ≡ Some r → IsLast 1 rs r
last_is number [] r c i e = absurd i
last_is number (x ∷ xs) r c i e = last_of number 1 x xs r c (subst (λ n. slice_get (x ∷ xs) n ≡ Some r) (omega arith) e)

-- ---- of all

-- a session has its number by its place
numbered_at : (k : ℕ) (lines : List RunLine) (ss : List Session) (s : Session) → AreTold k lines ss → In s ss → (i : ℕ) × (slice_get ss i ≡ Some s) × (s.number ≡ k + i)
numbered_at k lines [] s told i = absurd i
numbered_at k lines (x ∷ xs) s told i = ⊎_elim
    (λ (e : s ≡ x). (zero, ap (λ (y : Session). Some y) (sym e), ap (λ (y : Session). y.number) e ∙ told.0 ∙ omega arith))
    (λ (rest : In s xs). let found : (i : ℕ) × (slice_get xs i ≡ Some s) × (s.number ≡ (k + 1) + i) = numbered_at (k + 1) lines xs s told.2 rest in (suc found.0, found.1, found.2 ∙ omega arith))
    i

-- the session at a place has its number
number_at_place : (k : ℕ) (lines : List RunLine) (ss : List Session) (i : ℕ) (s : Session) → AreTold k lines ss → slice_get ss i ≡ Some s → s.number ≡ k + i
number_at_place k lines [] i s told e = absurd cc
number_at_place k lines (x ∷ xs) zero s told e = let same : x ≡ s = cc in ap (λ (y : Session). y.number) (sym same) ∙ told.0 ∙ omega arith
number_at_place k lines (x ∷ xs) (suc i) s told e = number_at_place (k + 1) lines xs i s told.2 e ∙ omega arith

talks_of : (catalog : List Table) (ps : List Player) (s : Session) → Each (λ (p : Player). SessionTalks catalog p.session p.talks) ps → In s (map (λ (p : Player). p.session) ps) → (talks : List Talk) × SessionTalks catalog s talks
talks_of catalog [] s all i = absurd i
talks_of catalog (p ∷ ps) s all i = ⊎_elim
    (λ (e : s ≡ p.session). (p.talks, subst (λ (y : Session). SessionTalks catalog y p.talks) (sym e) all.0))
    (λ (rest : In s (map (λ (q : Player). q.session) ps)). talks_of catalog ps s all.1 rest)
    i

module _ (mem : MemEngine → EngineTable → List Entry → Type 0) (store : StoreEngine → EngineTable → List Entry → Type 0) (x : RunState) where
  counts_of : (b : Beginning) (lines : List RunLine) (fs : List Flush) → HasKept mem store b lines fs x → (s : Session) (over : List Record) → In s x.sessions → AreOver over s → Counts s.number 1 over
  counts_of b lines fs k s over i are =
      let t : (talks : List Talk) × SessionTalks x.catalog s talks = talks_of x.catalog k.players s k.run.talks (subst (In s) k.sessions_are i) in
      over_counts x.catalog s.number s.records over s.at t.0 t.1.0 are

  -- whoever has the number is the session at its place
  is_session : (lines : List RunLine) (number : ℕ) (s t : Session) → AreTold 1 lines x.sessions → slice_get x.sessions (number - 1) ≡ Some s → In t x.sessions → t.number ≡ number → t ≡ s
  is_session lines number s t told at i has =
      let found : (j : ℕ) × (slice_get x.sessions j ≡ Some t) × (t.number ≡ 1 + j) = numbered_at 1 lines x.sessions t told i in
      let place : found.0 ≡ number - 1 = omega (arith, found.2, has) in
      let both : Some t ≡ Some s = sym found.1 ∙ ap (slice_get x.sessions) place ∙ at in
      same_of t s both
    where
      same_of : (u v : Session) → Some u ≡ Some v → u ≡ v
      same_of u v e = cc

  -- the last record of the session of a number, where it has committed
  pub newest_at : (number : ℕ) (s : Session) (r : Record) → IsKept mem store x → 1 ≤ number → slice_get x.sessions (number - 1) ≡ Some s → last_in s.records ≡ Some r → r.ending ≡ ending.Committed → IsNewest x number r
  newest_at number s r (b, lines, fs, k) some at last committed =
      let i : In s x.sessions = in_slice x.sessions (number - 1) s at in
      let had : HasSome s = each_in HasSome x.sessions s k.over i in
      let here : (last_in had.0 ≡ Some r) × In r had.0 = committed_last s.records had.0 s.at r had.1 last committed in
      let counts : Counts s.number 1 had.0 = counts_of b lines fs k s had.0 i had.1 in
      let newest : IsLast 1 had.0 r = last_is s.number had.0 r counts here.1 here.0 in
      let its : s.number ≡ number = number_at_place 1 lines x.sessions (number - 1) s k.told at ∙ omega (arith, some) in
      record {
        session = counted_in s.number 1 had.0 r counts here.1 ∙ its;
        counted = newest.0;
        newest = λ q p of.
            let mine : p.session ≡ s = is_session lines number s p.session k.told at p.among (sym (counted_in p.session.number 1 p.over q (counts_of b lines fs k p.session p.over p.among p.are_over) p.has) ∙ of) in
            newest.1 q (subst (In q) (over_same p.over had.0 s.records s.at (subst (AreOver p.over) mine p.are_over) had.1) p.has);
      }

  -- so is what is looked up
  pub last_newest : (number : ℕ) (s : Session) (found : Option (Bor Record)) → IsKept mem store x → 1 ≤ number → slice_get x.sessions (number - 1) ≡ Some s → option_copied found ≡ last_in s.records → IfSome found (λ r. r.now.ending ≡ ending.Committed → IsNewest x number r.now)
  last_newest number s None k some at last = tt
  last_newest number s (Some r) k some at last = λ committed. newest_at number s r.now k some at (sym last) committed
