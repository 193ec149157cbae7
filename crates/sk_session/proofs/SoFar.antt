-- What each move leaves of the facts of the live transaction; that a selection stands only where the storage engine is open, or is opened
-- next; and which moves ask for an opening.
use Rattle.std.specs.Prelude.{◌≡◌, ℕ, List, Option, Some, None, Bool, true, false, cond, slice_get}
use Rattle.std.proofs.Common.{refl, sym, subst, inl, inr}
use Rattle.sk_rows.specs.declared.table.Table.{Table}
use Rattle.sk_rows.specs.declared.value.Value.{Value}
use Rattle.sk_model.specs.declared.commit.Write.{Write}
use Rattle.sk_model.specs.declared.engine.EngineName.{EngineName}
use Rattle.sk_model.specs.declared.record.Record.{Record}
use Rattle.sk_model.specs.declared.record.Ending.{Ending}
use Rattle.sk_model.specs.declared.reply.Reply.{Reply}
use Rattle.sk_model.specs.declared.call.EngineFault.{EngineFault}
use Rattle.sk_model.specs.declared.call.EngineFault.TheVariants as fault
use Rattle.sk_model.specs.Database.{KeyedRows}
use Rattle.sk_model.specs.Replies.{Answer}
use Rattle.sk_commit.specs.declared.asking.Got.{Got}
use Rattle.sk_commit.specs.declared.asking.Wish.{Wish}
use Rattle.sk_session.specs.declared.live.Live.{Live}
use Rattle.sk_session.specs.declared.live.Job.{Job}
use Rattle.sk_session.specs.declared.live.Job.TheVariants as job
use Rattle.sk_session.specs.declared.live.At.{At}
use Rattle.sk_session.specs.declared.live.At.TheVariants as at
use Rattle.sk_session.specs.declared.live.Moved.{Moved}
use Rattle.sk_session.specs.Moving.{record_of, record_now, with_last, asks, finish, drops, first_opened, give_up, lose, starve, goes_well, closes, heard, hears, say, put_at, put_next, read_now, read_by, read_for, behind_open, answer_now, answer_by, rows_come, fault_at_read, commits, Either}
use Rattle.sk_session.specs.EachTalk.{Unselected, OrderlyJob, IsOrderly}
use Rattle.sk_session.specs.Facts.{Facts, facts_of, OpensAt}
use Rattle.sk_session.specs.SoFar.{so_far}

-- the facts of a live transaction so far
abbrev pub live_facts : Live → Facts
live_facts live = facts_of (record_now live)

-- A move, by an answer to what was waited for there, leaves these facts of the last transaction. Where Given holds it is in order, and an
-- opening that it asks for has its number from the answer.
pub record HasFacts (old : At) (got : Got) (Given : Type 0) (records : List Record) (f : Facts) (moved : Moved) : Type 0 where
  pub last : Record
  pub so_far_are : so_far moved.records moved.at ≡ with_last records last
  pub facts_are : facts_of last ≡ f
  pub orderly : Given → IsOrderly moved.at
  pub opens : Given → OpensAt old got moved.at

pub same_facts : {old : At} {got : Got} {Given : Type 0} {records : List Record} {f g : Facts} {moved : Moved} → f ≡ g → HasFacts old got Given records f moved → HasFacts old got Given records g moved
same_facts {old} {got} {Given} {records} {f} {g} {moved} is h = subst (λ x. HasFacts old got Given records x moved) is h

pub same_move : {old : At} {got : Got} {Given : Type 0} {records : List Record} {f : Facts} {moved now : Moved} → now ≡ moved → HasFacts old got Given records f moved → HasFacts old got Given records f now
same_move {old} {got} {Given} {records} {f} is h = subst (HasFacts old got Given records f) (sym is) h

module _ (old : At) (got : Got) (Given : Type 0) (records : List Record) where
  -- one of two moves
  pub either_has : (f : Facts) (x y moved : Moved) → Either x y moved → HasFacts old got Given records f x → HasFacts old got Given records f y → HasFacts old got Given records f moved
  either_has f x y moved (inl is) px py = subst (HasFacts old got Given records f) (sym is) px
  either_has f x y moved (inr is) px py = subst (HasFacts old got Given records f) (sym is) py

  pub asks_has : (live : Live) (doing : Job) (w : Wish) → (Given → OrderlyJob live doing) → (Given → OpensAt old got (at.Asking live doing)) → HasFacts old got Given records (live_facts live) (asks records live doing w)
  asks_has live doing w u o = record { last = record_now live; so_far_are = refl; facts_are = refl; orderly = u; opens = o }

  pub finish_has : (live : Live) (how : Ending) (r : Reply) (lost : Bool) → HasFacts old got Given records (live_facts live) (finish records live how r lost)
  finish_has live how r true = record { last = record_of live how r; so_far_are = refl; facts_are = refl; orderly = λ g. tt; opens = λ g. tt }
  finish_has live how r false = record { last = record_of live how r; so_far_are = refl; facts_are = refl; orderly = λ g. tt; opens = λ g. tt }

  pub drops_has : (live : Live) (o : Option EngineName) (how : Ending) (r : Reply) (lost : Bool) → HasFacts old got Given records (live_facts live) (drops records live o how r lost)
  drops_has live None how r lost = finish_has live how r lost
  drops_has live (Some e) how r lost = asks_has live (job.Leave e how r lost) _ (λ g. tt) (λ g. tt)

  pub give_up_has : (live : Live) (how : Ending) (r : Reply) (lost : Bool) → HasFacts old got Given records (live_facts live) (give_up records live how r lost)
  give_up_has live how r lost = drops_has live (first_opened live) how r lost

  pub lose_has : (live : Live) (how : Ending) (r : Reply) → HasFacts old got Given records (live_facts live) (lose records live how r)
  lose_has live how r = give_up_has live how r _

  pub starve_has : (live : Live) → HasFacts old got Given records (live_facts live) (starve records live)
  unfolding starve
  starve_has live = lose_has live _ _

  pub commits_has : (live : Live) (whole : Bool) (own : Option Reply) → HasFacts old got Given records (live_facts live) (commits records live whole own)
  commits_has live whole own = asks_has live (job.Commit _ whole own) _ (λ g. tt) (λ g. tt)

  closes_has : (live : Live) (r : Reply) (well : Bool) → HasFacts old got Given records (live_facts live) (closes records live r well)
  closes_has live r true = commits_has live true (Some r)
  closes_has live r false = give_up_has live _ r false

  module _ (live : Live) (u : Given → Unselected live) where
    hears_has : (r : Reply) → HasFacts old got Given records (live_facts live) (hears records live r)
    hears_has r = record { last = record_now (heard live r); so_far_are = refl; facts_are = refl; orderly = u; opens = λ g. tt }

    pub say_has : (r : Reply) → HasFacts old got Given records (live_facts live) (say records live r)
    unfolding say
    say_has r = by live.small
      where
        by : (small : Bool) → HasFacts old got Given records (live_facts live) (cond small (closes records live r (goes_well r)) (hears records live r))
        by true = closes_has live r (goes_well r)
        by false = hears_has r

    put_at_has : (e : EngineName) (writes : List Write) (done : ℕ) (r : Reply) (o : Option Write) → HasFacts old got Given records (live_facts live) (put_at records live e writes done r o)
    put_at_has e writes done r None = say_has r
    put_at_has e writes done r (Some w) = asks_has live (job.Put e writes done r) _ u (λ g. tt)

    pub put_next_has : (e : EngineName) (writes : List Write) (done : ℕ) (r : Reply) → HasFacts old got Given records (live_facts live) (put_next records live e writes done r)
    unfolding put_next
    put_next_has e writes done r = put_at_has e writes done r (slice_get writes done)

    read_by_has : (o : Option (EngineName × ℕ × Option Value)) → HasFacts old got Given records (live_facts live) (read_by records live o)
    read_by_has None = starve_has live
    read_by_has (Some r) = asks_has live (job.Read r.0 r.1 r.2) _ u (λ g. tt)

    -- its table is read
    pub read_for_has : (catalog : List Table) → HasFacts old got Given records (live_facts live) (read_for catalog records live)
    read_for_has catalog = read_by_has (read_now catalog live.statement)

    pub behind_open_has : (catalog : List Table) (begins : Bool) → HasFacts old got Given records (live_facts live) (behind_open catalog records live begins)
    behind_open_has catalog true = say_has _
    behind_open_has catalog false = read_for_has catalog

    answer_by_has : (e : EngineName) (o : Option Answer) → HasFacts old got Given records (live_facts live) (answer_by records live e o)
    answer_by_has e None = starve_has live
    answer_by_has e (Some a) = put_next_has e a.1 0 a.0

    -- its rows came
    pub rows_come_has : (catalog : List Table) (e : EngineName) (rows : KeyedRows) → HasFacts old got Given records (live_facts live) (rows_come catalog records live e rows)
    rows_come_has catalog e rows = answer_by_has e (answer_now catalog live.statement rows)

    pub fault_at_read_has : (e : EngineName) (f : EngineFault) → HasFacts old got Given records (live_facts live) (fault_at_read records live e f)
    fault_at_read_has e (fault.Busy by) = say_has _
    fault_at_read_has e (fault.Old snapshot horizon) = lose_has live _ _
    fault_at_read_has e (fault.Conflict by why) = lose_has live _ _
    fault_at_read_has e fault.Device = lose_has live _ _
    fault_at_read_has e fault.NoMemory = lose_has live _ _
