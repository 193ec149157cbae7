-- The facts of all records of a session: what each of its calls changes.
use Rattle.std.specs.Prelude.{◌≡◌, ℕ, List, [], ◌∷◌, ◌++◌, map, Option, Some, None, Bool, true, false, cond, length, if◌then◌else◌, nat_lt, slice_set, ◌-◌}
use Rattle.std.proofs.Common.{refl, sym, ap, subst, ◌∙◌, inl, inr}
use Rattle.std.proofs.lemmas.List.{map-append, map-set}
use Rattle.sk_rows.specs.declared.table.Table.{Table}
use Rattle.sk_rows.specs.declared.statement.Statement.{Statement}
use Rattle.sk_model.specs.declared.engine.EngineName.{EngineName}
use Rattle.sk_model.specs.declared.engine.EngineName.TheVariants.{Mem, Store}
use Rattle.sk_model.specs.declared.label.Label.{Label}
use Rattle.sk_model.specs.declared.record.Record.{Record}
use Rattle.sk_model.specs.declared.record.Ending.TheVariants as ending
use Rattle.sk_model.specs.declared.reply.Reply.TheVariants as reply
use Rattle.sk_model.specs.Talks.{Talk}
use Rattle.sk_commit.specs.declared.asking.Got.{Got}
use Rattle.sk_session.specs.declared.turn.Turn.{Turn}
use Rattle.sk_session.specs.declared.live.Live.{Live}
use Rattle.sk_session.specs.declared.live.Job.TheVariants as job
use Rattle.sk_session.specs.declared.live.At.{At}
use Rattle.sk_session.specs.declared.live.At.TheVariants as at
use Rattle.sk_session.specs.declared.live.Moved.{Moved}
use Rattle.sk_session.specs.declared.session.Session.{Session}
use Rattle.sk_session.specs.Moving.{record_now, with_last, record_begun, label_after, begun, begins, TakesAt, StartsAt, drops, first_opened, leave_at}
use Rattle.sk_session.specs.Starting.{Starts, Takes, Leaves, moved_to}
use Rattle.sk_session.specs.EachTalk.{LastLive, HasTalks, IsOrderly, AnswerFits, has_begun, IsBetween}
use Rattle.sk_session.specs.Facts.{Facts, facts_of, facts_taken, last_changed, BegunFacts, TakeFacts, StartFacts, LeaveFacts, OpensBy, OpensAt, TakeOpens, IsOpening, StartOpens}
use Rattle.sk_session.specs.SoFar.{so_far}
use Rattle.sk_session.proofs.SoFar.{live_facts, HasFacts, same_move, give_up_has}
use Rattle.sk_session.proofs.Factual.{taken_has, before_of, inside_said, stepping_said, unasked}
use Rattle.sk_session.proofs.Orderly.{BeginsOrRests, resting_moves}
use Rattle.sk_session.proofs.Recorded.{with_last_seam}

-- ---- the last record

-- the facts where the last record is this one
pub last_facts : (front : List Record) (open_record r : Record) → map facts_of (with_last (front ++ open_record ∷ []) r) ≡ map facts_of front ++ facts_of r ∷ []
last_facts front open_record r = ap (map facts_of) (with_last_seam front open_record r) ∙ map-append facts_of front (r ∷ [])

change_seam : (change : Facts → Facts) (fs : List Facts) (f : Facts) → last_changed change (fs ++ f ∷ []) ≡ fs ++ change f ∷ []
change_seam change [] f = refl
change_seam change (g ∷ []) f = refl
change_seam change (g ∷ h ∷ fs) f = ap (λ gs. g ∷ gs) (change_seam change (h ∷ fs) f)

-- two records of the same facts, as the last ones
same_last : (records : List Record) (r q : Record) → facts_of r ≡ facts_of q → map facts_of (with_last records r) ≡ map facts_of (with_last records q)
same_last records r q same = by (nat_lt 0 (length records))
  where
    by : (b : Bool) → map facts_of (if b then slice_set records (length records - 1) r else records) ≡ map facts_of (if b then slice_set records (length records - 1) q else records)
    by true = map-set facts_of records (length records - 1) r ∙ ap (slice_set (map facts_of records) (length records - 1)) same ∙ sym (map-set facts_of records (length records - 1) q)
    by false = refl

-- ---- an answer

module _ (catalog : List Table) (number : ℕ) (records : List Record) (got : Got) (moved : Moved) (talks : List Talk) where
  changed : (live : Live) (label : Label) (talk : Talk) (change : Facts → Facts) (last : Record) → LastLive catalog number records talks label talk → so_far moved.records moved.at ≡ with_last records last → facts_of last ≡ change (live_facts live)
      → map facts_of (so_far moved.records moved.at) ≡ last_changed change (map facts_of (with_last records (record_now live)))
  changed live label talk change last l are is =
      ap (map facts_of) are
      ∙ ap (λ rs. map facts_of (with_last rs last)) l.records_are
      ∙ last_facts l.front l.open_record last
      ∙ ap (λ f. map facts_of l.front ++ f ∷ []) is
      ∙ sym (change_seam change (map facts_of l.front) (live_facts live))
      ∙ ap (last_changed change) (sym (last_facts l.front l.open_record (record_now live)))
      ∙ ap (λ rs. last_changed change (map facts_of (with_last rs (record_now live)))) (sym l.records_are)

  answered : (there : At) → TakesAt catalog records there got moved → HasTalks catalog number records there talks → IsOrderly there → AnswerFits there got
      → map facts_of (so_far moved.records moved.at) ≡ last_changed (facts_taken there got) (map facts_of (so_far records there))
  answered (at.Asking live doing) takes h o fits =
      let k = taken_has catalog records live got h.0 moved doing h.2 o fits takes in
      changed live live.label h.0 (facts_taken (at.Asking live doing) got) k.last h.1 k.so_far_are k.facts_are
  answered _ takes h o fits = absurd fits

  opens : (there : At) → TakesAt catalog records there got moved → HasTalks catalog number records there talks → IsOrderly there → AnswerFits there got → OpensAt there got moved.at
  opens (at.Asking live doing) takes h o fits = (taken_has catalog records live got h.0 moved doing h.2 o fits takes).opens (before_of catalog live doing h.0 h.2 o)
  opens _ takes h o fits = absurd fits

pub take_facts : (catalog : List Table) (old : Session) (got : Got) (new : Session) (turn : Turn) → Takes catalog old got new turn → TakeFacts catalog old got new
take_facts catalog old got new turn t talks h fits = answered catalog old.number old.records got (moved_to new turn) talks old.at t.moves h.0 h.1 fits

pub take_opens : (catalog : List Table) (old : Session) (got : Got) (new : Session) (turn : Turn) → Takes catalog old got new turn → TakeOpens catalog old got new
take_opens catalog old got new turn t talks h fits = opens catalog old.number old.records got (moved_to new turn) talks old.at t.moves h.0 h.1 fits

-- ---- a statement

-- what a statement does to the facts
abbrev Starting : ℕ → List Record → At → List Record → At → Type 0
Starting number old there new now =
    cond (has_begun there now) (BegunFacts number old (map facts_of (so_far old there)) (map facts_of (so_far new now))) (map facts_of (so_far new now) ≡ map facts_of (so_far old there))

module _ (number : ℕ) (records : List Record) where
  outside_facts : (moved : Moved) → BeginsOrRests number records moved → Starting number records at.Outside moved.records moved.at
  unfolding begins
  outside_facts moved (inl (kind, small, s, is)) =
      subst (λ (m : Moved). Starting number records at.Outside m.records m.at) (sym is) (kind, last_facts records (record_begun (label_after number records) kind) (record_now (begun (label_after number records) kind small s)))
  outside_facts moved (inr (same, inl is)) = subst (λ rs. Starting number records at.Outside rs moved.at) (sym same) (subst (Starting number records at.Outside records) (sym is) refl)
  outside_facts moved (inr (same, inr is)) = subst (λ rs. Starting number records at.Outside rs moved.at) (sym same) (subst (Starting number records at.Outside records) (sym is) refl)

  ended_facts : (moved : Moved) → BeginsOrRests number records moved → Starting number records at.Ended moved.records moved.at
  unfolding begins
  ended_facts moved (inl (kind, small, s, is)) =
      subst (λ (m : Moved). Starting number records at.Ended m.records m.at) (sym is) (kind, last_facts records (record_begun (label_after number records) kind) (record_now (begun (label_after number records) kind small s)))
  ended_facts moved (inr (same, inl is)) = subst (λ rs. Starting number records at.Ended rs moved.at) (sym same) (subst (Starting number records at.Ended records) (sym is) refl)
  ended_facts moved (inr (same, inr is)) = subst (λ rs. Starting number records at.Ended rs moved.at) (sym same) (subst (Starting number records at.Ended records) (sym is) refl)

  still : (live : Live) (G : Type 0) (moved : Moved) → HasFacts at.Outside unasked G records (live_facts live) moved → map facts_of (so_far moved.records moved.at) ≡ map facts_of (with_last records (record_now live))
  still live G moved h = ap (map facts_of) h.so_far_are ∙ same_last records h.last (record_now live) h.facts_are

  said : (catalog : List Table) (there : At) (s : Option Statement) (moved : Moved) → StartsAt catalog number records there s moved → Starting number records there moved.records moved.at
  said catalog at.Outside s moved starts = outside_facts moved (resting_moves number records catalog at.Outside s moved (inl refl) starts)
  said catalog at.Ended s moved starts = ended_facts moved (resting_moves number records catalog at.Ended s moved (inr refl) starts)
  said catalog (at.Inside live) s moved starts = still live _ moved (inside_said catalog records live s moved starts)
  said catalog (at.Stepping live c) s moved starts = still live _ moved (same_move starts (stepping_said catalog records live c s))
  said catalog (at.Asking live doing) s moved starts = subst (λ (m : Moved). Starting number records (at.Asking live doing) m.records m.at) (sym starts) refl

pub start_facts : (catalog : List Table) (old : Session) (s : Option Statement) (new : Session) (turn : Turn) → Starts catalog old s new turn → StartFacts old new
start_facts catalog old s new turn t = said old.number old.records catalog old.at s (moved_to new turn) t.moves

-- no opening is asked for where no call was answered
none_opened : (there now : At) → OpensAt at.Outside unasked now → IsOpening now → now ≡ there
none_opened there (at.Asking live (job.Open e n)) o is = by e live.mem o
  where
    by : (x : EngineName) (mem : Option ℕ) → OpensBy at.Outside unasked mem x n → at.Asking live (job.Open e n) ≡ there
    by Mem mem (a, b, c, d) = absurd cc
    by Store None (a, b, c, d) = absurd cc
    by Store (Some m) (a, b, c, d, f) = absurd cc
none_opened there _ o is = absurd is

resting_opens : (number : ℕ) (records : List Record) (moved : Moved) → BeginsOrRests number records moved → OpensAt at.Outside unasked moved.at
unfolding begins
resting_opens number records moved (inl (kind, small, s, is)) = subst (λ (m : Moved). OpensAt at.Outside unasked m.at) (sym is) tt
resting_opens number records moved (inr (same, inl is)) = subst (OpensAt at.Outside unasked) (sym is) tt
resting_opens number records moved (inr (same, inr is)) = subst (OpensAt at.Outside unasked) (sym is) tt

said_opens : (catalog : List Table) (number : ℕ) (records : List Record) (there : At) (s : Option Statement) (moved : Moved) (talks : List Talk) → StartsAt catalog number records there s moved → HasTalks catalog number records there talks → IsOrderly there
    → IsOpening moved.at → moved.at ≡ there
said_opens catalog number records at.Outside s moved talks starts h o = none_opened at.Outside moved.at (resting_opens number records moved (resting_moves number records catalog at.Outside s moved (inl refl) starts))
said_opens catalog number records at.Ended s moved talks starts h o = none_opened at.Ended moved.at (resting_opens number records moved (resting_moves number records catalog at.Ended s moved (inr refl) starts))
said_opens catalog number records (at.Inside live) s moved talks starts h o = none_opened (at.Inside live) moved.at ((inside_said catalog records live s moved starts).opens (o, h.2.first))
said_opens catalog number records (at.Stepping live c) s moved talks starts h o = none_opened (at.Stepping live c) moved.at ((same_move starts (stepping_said catalog records live c s)).opens tt)
said_opens catalog number records (at.Asking live doing) s moved talks starts h o = λ is. ap (λ (m : Moved). m.at) starts

pub start_opens : (catalog : List Table) (old : Session) (s : Option Statement) (new : Session) (turn : Turn) → Starts catalog old s new turn → StartOpens catalog old new
start_opens catalog old s new turn t talks h = said_opens catalog old.number old.records old.at s (moved_to new turn) talks t.moves h.0 h.1

-- ---- the session is left

left_facts : (records : List Record) (there : At) → map facts_of (so_far (leave_at records there).records (leave_at records there).at) ≡ map facts_of (so_far records there)
left_facts records at.Outside = refl
left_facts records at.Ended = refl
left_facts records (at.Inside live) = still 0 records live (Unit {0}) _ (give_up_has at.Outside unasked (Unit {0}) records live ending.RolledBack reply.RolledBack false)
left_facts records (at.Stepping live c) = refl
left_facts records (at.Asking live doing) = refl

pub leave_facts : (old new : Session) (turn : Turn) → Leaves old new turn → LeaveFacts old new
leave_facts old new turn l = ap (λ (m : Moved). map facts_of (so_far m.records m.at)) l.moves ∙ left_facts old.records old.at

left_opens : (records : List Record) (there : At) (moved : Moved) → IsBetween there → moved ≡ leave_at records there → IsOpening moved.at → ⊥
left_opens records at.Outside moved between is o = subst (λ (m : Moved). IsOpening m.at) is o
left_opens records at.Ended moved between is o = subst (λ (m : Moved). IsOpening m.at) is o
left_opens records (at.Stepping live c) moved between is o = subst (λ (m : Moved). IsOpening m.at) is o
left_opens records (at.Asking live doing) moved between is o = between
left_opens records (at.Inside live) moved between is o = by (first_opened live) (subst (λ (m : Moved). IsOpening m.at) is o)
  where
    by : (e : Option EngineName) → IsOpening (drops records live e ending.RolledBack reply.RolledBack false).at → ⊥
    by None i = i
    by (Some e) i = i

-- between two lines it asks for no opening
pub leave_opens : (old new : Session) (turn : Turn) → IsBetween old.at → Leaves old new turn → IsOpening new.at → ⊥
leave_opens old new turn between l = left_opens old.records old.at (moved_to new turn) between l.moves
