-- What a head shows when a version is written over it.
use Rattle.std.specs.Prelude.{◌≡◌, ℕ, ◌≤◌, ◌⊎◌, List, Option, Some, None, Result, Ok, Err, Bool, true, false, cond, nat_le, not}
use Rattle.std.proofs.Common.{refl, sym, ap, subst, ◌∙◌, inl, inr}
use Rattle.sk_rows.specs.declared.value.Value.{Value}
use Rattle.sk_rows.specs.declared.table.Column.{Column}
use Rattle.sk_model.specs.declared.label.Label.{Label}
use Rattle.sk_model.specs.declared.call.EngineFault.{EngineFault}
use Rattle.sk_model.specs.declared.call.EngineFault.TheVariants as fault
use Rattle.sk_model.specs.Database.{RowOf}
use Rattle.sk_model.specs.EngineReplies.{last_in}
use Rattle.sk_chain.specs.declared.version.Version.{Version}
use Rattle.sk_chain.specs.declared.version.Blocked.{Blocked}
use Rattle.sk_chain.specs.Chained.{Chained}
use Rattle.sk_chain.specs.Reading.{last_upto}
use Rattle.sk_chain.specs.Writing.{conflict, is_by, past_of, rival_or}
use Rattle.sk_chain.specs.Changing.{pushed}
use Rattle.sk_engine.specs.Rows.{row_in}
use Rattle.sk_undo.specs.Log.{AreWhole, IsFree, IsOlder, Log, filled, record_at, row_of, row_seen}
use Rattle.sk_undo.proofs.Seen.{filled_rows, filling}
use Rattle.sk_store.specs.declared.head.Head.{Head}
use Rattle.sk_store.specs.declared.head.Spot.{Spot}
use Rattle.sk_store.specs.declared.head.Holds.{Holds}
use Rattle.sk_store.specs.declared.head.Holds.TheVariants.{Settled, Pending, Dropped}
use Rattle.sk_store.specs.Cells.{Cells}
use Rattle.sk_store.specs.Heads.{bare, last_of, number_of, settled_number, top_of}
use Rattle.sk_store.specs.Shown.{Finds, HasRow, HoldsRow, IsCell, MayBe, RowShows, row_upto}
use Rattle.sk_store.specs.Writes.{IsRefusal, Left, RowPushed, Wrote}
use Rattle.sk_store.proofs.Readings.{holds_as}

-- ---- whom a write meets

pub past_bare : (s : ℕ) (o : Option Version) → past_of s o ≡ past_of s (bare o)
past_bare s None = refl
past_bare s (Some v) = refl

-- ---- over a version that is not stamped

module _ (told : Bool) (cells after : Cells) (columns : List Column) (key : Value) (h : Head) (c : Chained) (by : Label) (row : Option RowOf) (at : Option Spot)
    (shows : RowShows told cells columns key h c) (has : HasRow after at row) (may : MayBe columns key row) where
  pub over_shows : settled_number h.holds h.newest ≡ None → RowShows told after columns key (record h { cell = at; holds = Pending by None }) (pushed c by row)
  over_shows over = record {
    top = refl;
    last = shows.last;
    fit = shows.fit;
    holds = λ t. ((has, may), finds t h.holds refl);
  }
    where
      finds : told ≡ true → (x : Holds) → h.holds ≡ x → Finds c (row_seen h.undo h.older)
      finds t Dropped e = holds_as told cells columns key h c shows t Dropped e
      finds t (Pending other floor) e = (holds_as told cells columns key h c shows t (Pending other floor) e).1
      finds t Settled e =
          let k = holds_as told cells columns key h c shows t Settled e in
          absurd (let no : Some k.0.n ≡ None = sym (ap (λ z. settled_number z h.newest) e ∙ ap number_of k.2) ∙ over in cc)

  -- over the stamped version of this number, which is put into the log
  pub on_shows : (log : Log) (n place : ℕ) (old : Option RowOf) → settled_number h.holds h.newest ≡ Some n
      → ((from : Option ℕ) (s : ℕ) → row_seen log from s ≡ row_seen h.undo from s) → ((q : ℕ) → record_at log q ≡ record_at h.undo q)
      → AreWhole log → IsFree log place → IsOlder log h.older n
      → MayBe columns key old → (told ≡ true → (r : Option RowOf) → IsCell cells columns key h.cell r → old ≡ r)
      → RowShows told after columns key (record h { cell = at; holds = Pending by None; older = Some place; undo = filled log place h.older n old }) (pushed c by row)
  on_shows log n place old on seen same whole free older fits exact = record {
    top = refl;
    last = shows.last;
    fit = λ q. fit q (filled_rows log place h.older n old q whole free older);
    holds = λ t. ((has, may), λ s. finds t h.holds refl s);
  }
    where
      fit : (q : ℕ) → ((row_of (record_at (filled log place h.older n old) q) ≡ old) ⊎ (row_of (record_at (filled log place h.older n old) q) ≡ row_of (record_at log q))) → MayBe columns key (row_of (record_at (filled log place h.older n old) q))
      fit q (inl e) = subst (MayBe columns key) (sym e) fits
      fit q (inr e) = subst (MayBe columns key) (sym (e ∙ ap row_of (same q))) (shows.fit q)

      finds : told ≡ true → (x : Holds) → h.holds ≡ x → (s : ℕ) → row_in (last_upto s c.settled) ≡ row_seen (filled log place h.older n old) (Some place) s
      finds t Dropped e s = absurd (let no : None ≡ Some n = sym (ap (λ z. settled_number z h.newest) e) ∙ on in cc)
      finds t (Pending other floor) e s = absurd (let no : None ≡ Some n = sym (ap (λ z. settled_number z h.newest) e) ∙ on in cc)
      finds t Settled e s =
          let k = holds_as told cells columns key h c shows t Settled e in
          let number : Some k.0.n ≡ Some n = sym (ap (λ z. settled_number z h.newest) e ∙ ap number_of k.2) ∙ on in
          let is : k.0.n ≡ n = cc in
          k.4 s
          ∙ ap (λ m. cond (nat_le m s) k.1 (row_seen h.undo h.older s)) is
          ∙ ap (λ r. cond (nat_le n s) r (row_seen h.undo h.older s)) (sym (exact t k.1 k.3))
          ∙ ap (λ r. cond (nat_le n s) old r) (sym (seen h.older s))
          ∙ sym (filling log place h.older n old s whole free older)

-- ---- a log that reads the same

pub same_shows : (told : Bool) (cells : Cells) (columns : List Column) (key : Value) (h : Head) (c : Chained) (log : Log) → RowShows told cells columns key h c
    → ((from : Option ℕ) (s : ℕ) → row_seen log from s ≡ row_seen h.undo from s) → ((q : ℕ) → record_at log q ≡ record_at h.undo q)
    → RowShows told cells columns key (record h { undo = log }) c
same_shows told cells columns key h c log shows seen same = record {
  top = shows.top;
  last = shows.last;
  fit = λ q. subst (λ r. MayBe columns key (row_of r)) (sym (same q)) (shows.fit q);
  holds = λ t. holds h.holds (shows.holds t);
}
  where
    holds : (x : Holds) → HoldsRow cells columns key h c x → HoldsRow cells columns key (record h { undo = log }) c x
    holds Settled k = (k.0, k.1, k.2, k.3, λ s. k.4 s ∙ ap (λ r. cond (nat_le k.0.n s) k.1 r) (sym (seen h.older s)))
    holds (Pending by floor) k = (k.0, λ s. k.1 s ∙ sym (seen h.older s))
    holds Dropped k = λ s. k s ∙ sym (seen h.older s)

-- ---- a refusal

-- a write, said of heads that are the same
pub pushed_as : {S : Type 0} (has : S → Cells → Type 0) (told : Bool) (before now : ℕ) (new : S) (cells : Cells) (columns : List Column) (key : Value) (c : Chained) (by : Label) (s : ℕ) (row : Option RowOf) (result : Result Bool EngineFault)
    (o was n is : Head) → o ≡ was → is ≡ n → (RowShows told cells columns key o c → RowPushed has told before now new cells columns key o.cell n c by s row result) → RowShows told cells columns key was c → RowPushed has told before now new cells columns key was.cell is c by s row result
pushed_as has told before now new cells columns key c by s row result o was n is e f p r =
    subst (λ x. RowPushed has told before now new cells columns key was.cell x c by s row result) (sym f)
    (subst (λ x. RowPushed has told before now new cells columns key x.cell n c by s row result) e (p (subst (λ x. RowShows told cells columns key x c) (sym e) r)))
