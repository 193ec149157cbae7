-- What is read of one row is what its versions give.
use Rattle.std.specs.Prelude.{◌≡◌, ℕ, ◌≤◌, Option, Some, None, Result, Ok, Err, Bool, true, false, cond, nat_le, List, IfOk, IfErr}
use Rattle.std.proofs.Common.{refl, sym, ap, subst, ◌∙◌, inl, inr}
use Rattle.sk_rows.specs.declared.value.Value.{Value}
use Rattle.sk_rows.specs.declared.table.Column.{Column}
use Rattle.sk_model.specs.declared.label.Label.{Label}
use Rattle.sk_model.specs.Records.{same_label}
use Rattle.sk_model.specs.declared.call.EngineFault.{EngineFault}
use Rattle.sk_model.specs.declared.call.EngineFault.TheVariants as fault
use Rattle.sk_model.specs.declared.call.EngineReply.{EngineReply}
use Rattle.sk_model.specs.declared.call.EngineReply.TheVariants.{Found, Fault}
use Rattle.sk_model.specs.Database.{RowOf}
use Rattle.sk_chain.specs.declared.version.Version.{Version}
use Rattle.sk_chain.specs.Chained.{Chained}
use Rattle.sk_chain.specs.Promise.{replied}
use Rattle.sk_chain.specs.Reading.{found_over, is_closed_below, last_upto}
use Rattle.sk_engine.specs.Rows.{GivesReply, reading, row_in, sighted}
use Rattle.sk_undo.specs.Log.{Log, newest_for, record_at, row_of, row_seen, row_in as row_at}
use Rattle.sk_store.specs.declared.head.Head.{Head}
use Rattle.sk_store.specs.declared.head.Holds.{Holds}
use Rattle.sk_store.specs.declared.head.Holds.TheVariants.{Settled, Pending, Dropped}
use Rattle.sk_store.specs.declared.head.Stamp.{Stamp}
use Rattle.sk_store.specs.declared.head.Sight.{Sight}
use Rattle.sk_store.specs.declared.head.Sight.TheVariants.{Own, Stamped, Waits}
use Rattle.sk_store.specs.Cells.{Cells}
use Rattle.sk_store.specs.Heads.{bare, is_upto, number_of, settled_number, sight_of, top_of}
use Rattle.sk_store.specs.Reads.{IsRowOf}
use Rattle.sk_store.specs.Shown.{Finds, HoldsRow, IsCell, MayBe, RowShows, row_upto}
use Rattle.sk_store.specs.Writes.{IsRefusal}

-- what a sight gives: the own row, the stamped one, or whom to wait for
abbrev pub by_sight : Sight → Option RowOf → Option RowOf → EngineReply
by_sight Own own stamped = Found own
by_sight Stamped own stamped = Found stamped
by_sight (Waits by) own stamped = Fault (fault.Busy by)

found_is : (by : Label) (s : ℕ) (top st : Option Version) → sighted (found_over by s top st) ≡ by_sight (sight_of by s (bare top)) (row_in top) (row_in st)
found_is by s None st = refl
found_is by s (Some v) st = go (same_label by v.by) (is_closed_below s v.state)
  where
    go : (a b : Bool) → sighted (cond a (Rattle.sk_chain.specs.Reading.Sees (Some v)) (cond b (Rattle.sk_chain.specs.Reading.Waits v.by) (Rattle.sk_chain.specs.Reading.Sees st))) ≡ by_sight (cond a Own (cond b (Waits v.by) Stamped)) v.row (row_in st)
    go true b = refl
    go false true = refl
    go false false = refl

pub reading_is : (c : Chained) (holds : Holds) (by : Label) (s : ℕ) → bare c.top ≡ top_of holds → reading c by s ≡ by_sight (sight_of by s (top_of holds)) (row_in c.top) (row_in (last_upto s c.settled))
reading_is c holds by s e = found_is by s c.top (last_upto s c.settled) ∙ ap (λ t. by_sight (sight_of by s t) (row_in c.top) (row_in (last_upto s c.settled))) e

module _ (told : Bool) (cells : Cells) (columns : List Column) (key : Value) (h : Head) (c : Chained) (shows : RowShows told cells columns key h c) (is_told : told ≡ true) where
  pub holds_as : (x : Holds) → h.holds ≡ x → HoldsRow cells columns key h c x
  holds_as x e = subst (HoldsRow cells columns key h c) e (shows.holds is_told)

  pub own_here : (by : Label) (s : ℕ) → sight_of by s (top_of h.holds) ≡ Own → IsCell cells columns key h.cell (row_in c.top)
  own_here by s e = go h.holds refl
    where
      go : (x : Holds) → h.holds ≡ x → IsCell cells columns key h.cell (row_in c.top)
      go Settled f = absurd (let no : Stamped ≡ Own = sym (ap (λ z. sight_of by s (top_of z)) f) ∙ e in cc)
      go Dropped f = absurd (let no : Stamped ≡ Own = sym (ap (λ z. sight_of by s (top_of z)) f) ∙ e in cc)
      go (Pending other floor) f = (holds_as (Pending other floor) f).0

-- a row that was read as a reply
pub gives : (told : Bool) (before now : ℕ) (columns : List Column) (key : Value) (due : Option RowOf) (result : Result (Option RowOf) EngineFault)
    → (told ≡ true → IfOk result (λ r. r ≡ due)) → IfOk result (MayBe columns key) → IfErr result (IsRefusal before now)
    → GivesReply told before now (IsRowOf columns key (Found due) (replied Found result)) (Found due) (replied Found result)
gives true before now columns key due (Ok r) exact fits caused = inr (inl (ap Found (sym (exact refl))))
gives false before now columns key due (Ok r) exact fits caused = inr (inr (refl, fits))
gives told before now columns key due (Err (fault.Old a b)) exact fits caused = absurd caused
gives told before now columns key due (Err (fault.Busy by)) exact fits caused = absurd caused
gives told before now columns key due (Err (fault.Conflict by why)) exact fits caused = absurd caused
gives told before now columns key due (Err fault.Device) exact fits caused = inl (refl, caused)
gives told before now columns key due (Err fault.NoMemory) exact fits caused = tt

-- another due reply that is the same
pub gives_as : (told : Bool) (before now : ℕ) (columns : List Column) (key : Value) (due is : EngineReply) (reply : Option EngineReply) → is ≡ due
    → GivesReply told before now (IsRowOf columns key due reply) due reply → GivesReply told before now (IsRowOf columns key is reply) is reply
gives_as told before now columns key due is reply e g = subst (λ d. GivesReply told before now (IsRowOf columns key d reply) d reply) (sym e) g

-- ---- what each sight reads

module _ (told : Bool) (cells : Cells) (columns : List Column) (key : Value) (h : Head) (c : Chained) (by : Label) (s before now : ℕ) (shows : RowShows told cells columns key h c) where
  abbrev Reads : Result (Option RowOf) EngineFault → Type 0
  Reads result = GivesReply told before now (IsRowOf columns key (reading c by s) (replied Found result)) (reading c by s) (replied Found result)

  reads_as : (x : Sight) → sight_of by s (top_of h.holds) ≡ x → reading c by s ≡ by_sight x (row_in c.top) (row_in (last_upto s c.settled))
  reads_as x e = reading_is c h.holds by s shows.top ∙ ap (λ z. by_sight z (row_in c.top) (row_in (last_upto s c.settled))) e

  pub stamped_reads : (result : Result (Option RowOf) EngineFault) → sight_of by s (top_of h.holds) ≡ Stamped → (told ≡ true → IfOk result (λ r. r ≡ row_in (last_upto s c.settled))) → IfOk result (MayBe columns key) → IfErr result (IsRefusal before now) → Reads result
  stamped_reads result e exact fits caused = gives_as told before now columns key (Found (row_in (last_upto s c.settled))) (reading c by s) (replied Found result) (reads_as Stamped e) (gives told before now columns key (row_in (last_upto s c.settled)) result exact fits caused)

  pub own_reads : (result : Result (Option RowOf) EngineFault) → sight_of by s (top_of h.holds) ≡ Own → (told ≡ true → IfOk result (λ r. r ≡ row_in c.top)) → IfOk result (MayBe columns key) → IfErr result (IsRefusal before now) → Reads result
  own_reads result e exact fits caused = gives_as told before now columns key (Found (row_in c.top)) (reading c by s) (replied Found result) (reads_as Own e) (gives told before now columns key (row_in c.top) result exact fits caused)

  pub waits_reads : (other : Label) → sight_of by s (top_of h.holds) ≡ Waits other → Reads (Err (fault.Busy other))
  waits_reads other e = inr (inl (reads_as (Waits other) e))
