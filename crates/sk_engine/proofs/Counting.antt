-- What a call does to the numbers that are used.
use Rattle.std.specs.Prelude.{◌≡◌, ℕ, List, [], ◌∷◌, Option, Some, None, Bool, true, false, cond, ◌&&◌, ◌||◌, IfSome}
use Rattle.std.proofs.Common.{refl, sym, ap, ◌∙◌}
use Rattle.std.specs.List.{list_any}
use Rattle.std.proofs.lemmas.Bool.{false≢true, and_parts}
use Rattle.sk_rows.specs.declared.value.Value.{Value}
use Rattle.sk_model.specs.declared.label.Label.{Label}
use Rattle.sk_model.specs.declared.commit.Write.{Write}
use Rattle.sk_model.specs.declared.call.EngineCall.TheVariants as call
use Rattle.sk_model.specs.Records.{same_label}
use Rattle.sk_model.specs.Engine.{EngineTable, Version, VersionState, Open, Closed, Stamped, Dropped, is_of, is_open, is_undecided, snapshot_of, write_at}
use Rattle.sk_model.specs.EngineReplies.{is_stamped_with, stamps}
use Rattle.sk_model.specs.EngineChanges.{restood, restand, put_version, change}
use Rattle.sk_model.proofs.Lists.{Each}
use Rattle.sk_engine.specs.declared.row_id.RowId.{RowId}
use Rattle.sk_engine.specs.Counts.{Used, Counts, Wrote}

-- whether a version of the row has this number
abbrev pub is_given : ℕ → Value → ℕ → Version → Bool
is_given t key n v = is_of t key v && is_stamped_with n v

undecided_unstamped : (n : ℕ) (st : VersionState) → is_undecided st ≡ true → stamps n st ≡ false
undecided_unstamped n Open e = refl
undecided_unstamped n (Closed f) e = refl
undecided_unstamped n (Stamped m) e = absurd (false≢true e)
undecided_unstamped n Dropped e = absurd (false≢true e)

and_off : (b c : Bool) → c ≡ false → (b && c) ≡ false
and_off true c e = e
and_off false c e = refl

-- versions that get a standing without this number
given_restood : (t : ℕ) (key : Value) (n : ℕ) (tx : Label) (st : VersionState) (v : Version) → stamps n st ≡ false → is_given t key n (restood tx st v) ≡ is_given t key n v
given_restood t key n tx st v off = go (same_label tx v.by && is_undecided v.standing) refl
  where
    go : (b : Bool) → (same_label tx v.by && is_undecided v.standing) ≡ b → is_given t key n (cond b (record v { standing = st }) v) ≡ is_given t key n v
    go true e = and_off (is_of t key v) (stamps n st) off ∙ sym (and_off (is_of t key v) (stamps n v.standing) (undecided_unstamped n v.standing (and_parts _ _ e).1))
    go false e = refl

pub given_restand : (t : ℕ) (key : Value) (n : ℕ) (tx : Label) (st : VersionState) → stamps n st ≡ false → (vs : List Version) → list_any (is_given t key n) (restand tx st vs) ≡ list_any (is_given t key n) vs
given_restand t key n tx st off [] = refl
given_restand t key n tx st off (v ∷ vs) = ap (λ b. b || list_any (is_given t key n) (restand tx st vs)) (given_restood t key n tx st v off) ∙ ap (λ b. is_given t key n v || b) (given_restand t key n tx st off vs)

open_unstamped : (n : ℕ) (st : VersionState) → is_open st ≡ true → stamps n st ≡ false
open_unstamped n Open e = refl
open_unstamped n (Closed f) e = absurd (false≢true e)
open_unstamped n (Stamped m) e = absurd (false≢true e)
open_unstamped n Dropped e = absurd (false≢true e)

put_step : (t : ℕ) (key : Value) (n : ℕ) (tx : Label) (s : ℕ) (w : Write) (v : Version) (vs : List Version) (b : Bool) → (is_of w.table w.key v && (same_label tx v.by && is_open v.standing)) ≡ b
    → list_any (is_given t key n) (put_version tx s w vs) ≡ list_any (is_given t key n) vs
    → list_any (is_given t key n) (cond b (record v { write = w } ∷ vs) (v ∷ put_version tx s w vs)) ≡ list_any (is_given t key n) (v ∷ vs)
put_step t key n tx s w v vs true e ih =
    let off : stamps n v.standing ≡ false = open_unstamped n v.standing (and_parts _ _ (and_parts _ _ e).1).1 in
    ap (λ b. b || list_any (is_given t key n) vs) (and_off (is_of t key (record v { write = w })) (stamps n v.standing) off ∙ sym (and_off (is_of t key v) (stamps n v.standing) off))
put_step t key n tx s w v vs false e ih = ap (λ b. is_given t key n v || b) ih

pub given_put : (t : ℕ) (key : Value) (n : ℕ) (tx : Label) (s : ℕ) (w : Write) (vs : List Version) → list_any (is_given t key n) (put_version tx s w vs) ≡ list_any (is_given t key n) vs
given_put t key n tx s w [] = ap (λ b. b || false) (and_off (is_of t key (record { by = tx; snapshot = s; write = w; standing = Open })) false refl)
given_put t key n tx s w (v ∷ vs) = put_step t key n tx s w v vs (is_of w.table w.key v && (same_label tx v.by && is_open v.standing)) refl (given_put t key n tx s w vs)

wrote_same : (vs xs : List Version) (u : Used) → ((t : ℕ) (key : Value) → list_any (is_given t key u.n) xs ≡ list_any (is_given t key u.n) vs) → IfSome u.wrote (Wrote vs u.n) → IfSome u.wrote (Wrote xs u.n)
wrote_same vs xs u same h = go u.wrote h
  where
    go : (o : Option (List RowId)) → IfSome o (Wrote vs u.n) → IfSome o (Wrote xs u.n)
    go None h = tt
    go (Some row_ids) h = record { ordered = h.ordered; rows = λ t key. h.rows t key ∙ sym (same t key) }

pub all_wrote_same : (vs xs : List Version) (us : List Used) → Each (λ (u : Used). (t : ℕ) (key : Value) → list_any (is_given t key u.n) xs ≡ list_any (is_given t key u.n) vs) us
    → Each (λ (u : Used). IfSome u.wrote (Wrote vs u.n)) us → Each (λ (u : Used). IfSome u.wrote (Wrote xs u.n)) us
all_wrote_same vs xs [] same h = tt
all_wrote_same vs xs (u ∷ us) same h = (wrote_same vs xs u same.0 h.0, all_wrote_same vs xs us same.1 h.1)

pub each_any : {X : Type 0} (P : X → Type 0) → ((x : X) → P x) → (xs : List X) → Each P xs
each_any P f [] = tt
each_any P f (x ∷ xs) = (f x, each_any P f xs)

module _ (h p : ℕ) (us : List Used) (e : EngineTable) (c : Counts h p us e) where
  pub counts_open : (tx : Label) (s : ℕ) → Counts h p us (change e (call.Open tx s))
  counts_open tx s = record { low = c.low; rising = c.rising; stamped = c.stamped; is_used = c.is_used; horizon = c.horizon; wrote = c.wrote }

  pub counts_put : (tx : Label) (t : ℕ) (key : Value) (row : Option (List Value)) → Counts h p us (change e (call.Put tx t key row))
  counts_put tx t key row = record {
    low = c.low;
    rising = c.rising;
    stamped = c.stamped;
    is_used = c.is_used;
    horizon = c.horizon;
    wrote = all_wrote_same e.versions (put_version tx (snapshot_of e tx) (write_at t key row) e.versions) us
        (each_any _ (λ u i k. given_put i k u.n tx (snapshot_of e tx) (write_at t key row) e.versions) us) c.wrote;
  }

  pub counts_close : (tx : Label) → Counts h p us (change e (call.Close tx))
  counts_close tx = record {
    low = c.low;
    rising = c.rising;
    stamped = c.stamped;
    is_used = c.is_used;
    horizon = c.horizon;
    wrote = all_wrote_same e.versions (restand tx (Closed e.greatest) e.versions) us (each_any _ (λ u i k. given_restand i k u.n tx (Closed e.greatest) refl e.versions) us) c.wrote;
  }

  pub counts_drop : (tx : Label) → Counts h p us (change e (call.DropTx tx))
  counts_drop tx = record {
    low = c.low;
    rising = c.rising;
    stamped = c.stamped;
    is_used = c.is_used;
    horizon = c.horizon;
    wrote = all_wrote_same e.versions (restand tx Dropped e.versions) us (each_any _ (λ u i k. given_restand i k u.n tx Dropped refl e.versions) us) c.wrote;
  }
