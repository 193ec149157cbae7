-- Each call of a session keeps it in order: a selection stands only where the storage engine is open, or is opened next.
use Rattle.std.specs.Prelude.{◌≡◌, ℕ, List, ◌⊎◌, Option, Some, None, Bool, true, false, Result, Ok, Err}
use Rattle.std.proofs.Common.{refl, sym, subst, inl, inr}
use Rattle.sk_rows.specs.declared.table.Table.{Table}
use Rattle.sk_rows.specs.declared.statement.Statement.{Statement}
use Rattle.sk_rows.specs.declared.statement.Statement.TheVariants as statement
use Rattle.sk_model.specs.declared.engine.EngineName.{EngineName}
use Rattle.sk_model.specs.declared.record.TxKind.{TxKind}
use Rattle.sk_model.specs.declared.record.Record.{Record}
use Rattle.sk_model.specs.declared.record.Ending.TheVariants as ending
use Rattle.sk_model.specs.declared.reply.ErrWord.{ErrWord}
use Rattle.sk_model.specs.declared.reply.Reply.TheVariants as reply
use Rattle.sk_model.specs.Talks.{Talk}
use Rattle.sk_commit.specs.declared.asking.Got.{Got}
use Rattle.sk_session.specs.declared.turn.Turn.{Turn}
use Rattle.sk_session.specs.declared.live.At.{At}
use Rattle.sk_session.specs.declared.live.At.TheVariants as at
use Rattle.sk_session.specs.declared.live.Moved.{Moved}
use Rattle.sk_session.specs.declared.session.Session.{Session}
use Rattle.sk_session.specs.Moving.{begins, label_after, judged_outside, OutsideTable, StartsOutside, start_ended, Either, TakesAt, StartsAt, leave_at}
use Rattle.sk_session.specs.Starting.{Starts, Takes, Leaves, moved_to}
use Rattle.sk_session.specs.EachTalk.{IsOrderly, HasTalks, SessionTalks, AnswerFits}
use Rattle.sk_session.proofs.SoFar.{same_move, give_up_has}
use Rattle.sk_session.proofs.Factual.{taken_has, before_of, inside_said, stepping_said, unasked}

-- ---- where no transaction is live

-- the session asks for nothing and has no transaction
abbrev pub Rests : List Record → Moved → Type 0
Rests records moved = (moved.records ≡ records) × ((moved.at ≡ at.Outside) ⊎ (moved.at ≡ at.Ended))

-- a transaction begins, or none does
abbrev pub BeginsOrRests : ℕ → List Record → Moved → Type 0
BeginsOrRests number records moved =
    ((kind : TxKind) × (small : Bool) × (s : Statement) × (moved ≡ begins records (label_after number records) kind small s)) ⊎ Rests records moved

module _ (number : ℕ) (records : List Record) where
  rests : (moved now : Moved) → now ≡ moved → Rests records moved → BeginsOrRests number records now
  rests moved now is r = inr (subst (Rests records) (sym is) r)

  begins_or : (kind : TxKind) (small : Bool) (s : Statement) (other moved : Moved) → Either (begins records (label_after number records) kind small s) other moved → Rests records other → BeginsOrRests number records moved
  begins_or kind small s other moved (inl is) r = inl (kind, small, s, is)
  begins_or kind small s other moved (inr is) r = rests other moved is r

  table_outside : (s : Statement) (j : Result EngineName ErrWord) (moved : Moved) → OutsideTable number records s j moved → BeginsOrRests number records moved
  table_outside s (Err word) moved is = rests _ moved is (refl, inl refl)
  table_outside s (Ok e) moved is = begins_or _ true s _ moved is (refl, inl refl)

  outside_moves : (catalog : List Table) (s : Option Statement) (moved : Moved) → StartsOutside catalog number records s moved → BeginsOrRests number records moved
  outside_moves catalog None moved is = rests _ moved is (refl, inl refl)
  outside_moves catalog (Some statement.Commit) moved is = rests _ moved is (refl, inl refl)
  outside_moves catalog (Some statement.Rollback) moved is = rests _ moved is (refl, inl refl)
  outside_moves catalog (Some (statement.Begin begun)) moved is = begins_or _ false _ _ moved is (refl, inr refl)
  outside_moves catalog (Some (statement.Insert table values)) moved is = table_outside _ (judged_outside catalog (statement.Insert table values)) moved is
  outside_moves catalog (Some (statement.Select table names c)) moved is = table_outside _ (judged_outside catalog (statement.Select table names c)) moved is
  outside_moves catalog (Some (statement.Update table sets c)) moved is = table_outside _ (judged_outside catalog (statement.Update table sets c)) moved is
  outside_moves catalog (Some (statement.Delete table c)) moved is = table_outside _ (judged_outside catalog (statement.Delete table c)) moved is

  ended_rests : (s : Option Statement) → Rests records (start_ended records s)
  ended_rests (Some statement.Commit) = (refl, inl refl)
  ended_rests (Some statement.Rollback) = (refl, inl refl)
  ended_rests _ = (refl, inr refl)

  -- what a statement comes to outside of a transaction, or behind one that was lost
  pub resting_moves : (catalog : List Table) (there : At) (s : Option Statement) (moved : Moved) → (there ≡ at.Outside) ⊎ (there ≡ at.Ended) → StartsAt catalog number records there s moved → BeginsOrRests number records moved
  resting_moves catalog at.Outside s moved is starts = outside_moves catalog s moved starts
  resting_moves catalog at.Ended s moved is starts = rests _ moved starts (ended_rests s)
  resting_moves catalog _ s moved (inl is) starts = absurd cc
  resting_moves catalog _ s moved (inr is) starts = absurd cc

  resting_orderly : (moved : Moved) → BeginsOrRests number records moved → IsOrderly moved.at
  unfolding begins
  resting_orderly moved (inl (kind, small, s, is)) = subst (λ (m : Moved). IsOrderly m.at) (sym is) (refl, refl)
  resting_orderly moved (inr (same, inl is)) = subst IsOrderly (sym is) tt
  resting_orderly moved (inr (same, inr is)) = subst IsOrderly (sym is) tt

-- ---- each call

start_orderly : (catalog : List Table) (number : ℕ) (records : List Record) (there : At) (s : Option Statement) (moved : Moved) (talks : List Talk) → StartsAt catalog number records there s moved → HasTalks catalog number records there talks → IsOrderly there → IsOrderly moved.at
start_orderly catalog number records at.Outside s moved talks starts h o = resting_orderly number records moved (resting_moves number records catalog at.Outside s moved (inl refl) starts)
start_orderly catalog number records at.Ended s moved talks starts h o = resting_orderly number records moved (resting_moves number records catalog at.Ended s moved (inr refl) starts)
start_orderly catalog number records (at.Inside live) s moved talks starts h o = (inside_said catalog records live s moved starts).orderly (o, h.2.first)
start_orderly catalog number records (at.Stepping live c) s moved talks starts h o = (same_move starts (stepping_said catalog records live c s)).orderly tt
start_orderly catalog number records (at.Asking live doing) s moved talks starts h o = subst (λ (m : Moved). IsOrderly m.at) (sym starts) o

pub starts_orderly : (catalog : List Table) (old : Session) (s : Option Statement) (new : Session) (turn : Turn) → Starts catalog old s new turn → (talks : List Talk) → SessionTalks catalog old talks → IsOrderly new.at
starts_orderly catalog old s new turn t talks h = start_orderly catalog old.number old.records old.at s (moved_to new turn) talks t.moves h.0 h.1

take_orderly : (catalog : List Table) (number : ℕ) (records : List Record) (there : At) (got : Got) (moved : Moved) (talks : List Talk) → TakesAt catalog records there got moved → HasTalks catalog number records there talks → IsOrderly there → AnswerFits there got → IsOrderly moved.at
take_orderly catalog number records (at.Asking live doing) got moved talks takes h o fits = (taken_has catalog records live got h.0 moved doing h.2 o fits takes).orderly (before_of catalog live doing h.0 h.2 o)
take_orderly catalog number records _ got moved talks takes h o fits = absurd fits

pub takes_orderly : (catalog : List Table) (old : Session) (got : Got) (new : Session) (turn : Turn) → Takes catalog old got new turn → (talks : List Talk) → SessionTalks catalog old talks → AnswerFits old.at got → IsOrderly new.at
takes_orderly catalog old got new turn t talks h fits = take_orderly catalog old.number old.records old.at got (moved_to new turn) talks t.moves h.0 h.1 fits

leave_orderly : (records : List Record) (there : At) → IsOrderly there → IsOrderly (leave_at records there).at
leave_orderly records at.Outside o = tt
leave_orderly records at.Ended o = tt
leave_orderly records (at.Inside live) o = (give_up_has at.Outside unasked (Unit {0}) records live ending.RolledBack reply.RolledBack false).orderly tt
leave_orderly records (at.Stepping live c) o = tt
leave_orderly records (at.Asking live doing) o = o

pub leaves_orderly : (old new : Session) (turn : Turn) → Leaves old new turn → IsOrderly old.at → IsOrderly new.at
leaves_orderly old new turn l o = subst (λ (m : Moved). IsOrderly m.at) (sym l.moves) (leave_orderly old.records old.at o)
