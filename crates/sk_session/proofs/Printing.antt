-- What a session was answered, line by line, and what its records say of that.
use Rattle.std.specs.Prelude.{◌≡◌, ℕ, List, [], ◌∷◌, ◌++◌, Option, Some, None, Bool, true, false, Result, Ok, Err}
use Rattle.std.proofs.Common.{refl, sym, ap, subst, ◌∙◌, inl, inr, append-nil, append_assoc}
use Rattle.std.proofs.lemmas.List.Concat.{flat_map-append}
use Rattle.sk_rows.specs.declared.table.Table.{Table}
use Rattle.sk_rows.specs.declared.statement.Statement.{Statement}
use Rattle.sk_rows.specs.declared.statement.Statement.TheVariants as statement
use Rattle.sk_model.specs.declared.engine.EngineName.{EngineName}
use Rattle.sk_model.specs.declared.record.TxKind.{TxKind}
use Rattle.sk_model.specs.declared.record.Record.{Record}
use Rattle.sk_model.specs.declared.record.Said.{Said}
use Rattle.sk_model.specs.declared.reply.ErrWord.{ErrWord}
use Rattle.sk_model.specs.declared.reply.ErrWord.TheVariants as err
use Rattle.sk_model.specs.declared.reply.Reply.{Reply}
use Rattle.sk_model.specs.declared.reply.Reply.TheVariants as reply
use Rattle.sk_model.specs.Names.{columns_at}
use Rattle.sk_model.specs.Replies.{refusal_in}
use Rattle.sk_model.specs.Asking.{table_named}
use Rattle.sk_model.specs.Spoken.{Seat, Outside, Inside, Ended, uses_label}
use Rattle.sk_commit.specs.declared.asking.Got.{Got}
use Rattle.sk_session.specs.declared.turn.Turn.{Turn}
use Rattle.sk_session.specs.declared.turn.Turn.TheVariants as turn
use Rattle.sk_session.specs.declared.live.Live.{Live}
use Rattle.sk_session.specs.declared.live.At.{At}
use Rattle.sk_session.specs.declared.live.At.TheVariants as at
use Rattle.sk_session.specs.declared.live.Moved.{Moved}
use Rattle.sk_session.specs.declared.session.Session.{Session}
use Rattle.sk_session.specs.Moving.{record_now, with_last, record_begun, begins, label_after, judged_outside, judged_outside_at, judged_outside_in, OutsideTable, StartsOutside, start_ended, TakesAt, StartsAt, GoesAs, leave_at, engine_kind}
use Rattle.sk_session.specs.Starting.{Starts, Takes, Leaves, moved_to, fresh}
use Rattle.sk_session.specs.EachTalk.{AnswerFits}
use Rattle.sk_session.specs.SoFar.{so_far}
use Rattle.sk_session.specs.Printed.{said_in, said_so_far, seat_at, seat_outside, seat_after, Adds, Line, Prints, IsClear, IsPlain, IsHeard, HasPrinted, LineDone, UnderWay, Speaking, StartPrints, TakePrints, LeavePrints}
use Rattle.sk_session.proofs.Recorded.{with_last_seam}
use Rattle.sk_session.proofs.Used.{word_unlabelled}
use Rattle.sk_session.proofs.Lines.{Goes, Spoke, Waiting, Does}
use Rattle.sk_session.proofs.Replying.{take_to}
use Rattle.sk_session.proofs.Hearing.{unused_adds, hears_inside, hears_stepping, left_inside, left_stepping}

-- ---- of records

said_last : (front : List Record) (last : Record) → said_in (front ++ last ∷ []) ≡ said_in front ++ last.said
said_last front last = flat_map-append (λ (r : Record). r.said) front (last ∷ []) ∙ ap (λ ss. said_in front ++ ss) (append-nil last.said)

-- the line was answered, which has left these records
record Done (seat : Seat) (o : Option Statement) (said : List Said) (records : List Record) (there : At) (r : Reply) : Type 0 where
  part : List Said
  said_are : said_in (so_far records there) ≡ said ++ part
  adds : Adds seat o r part
  stands : seat_at there ≡ seat_after seat o r
  clear : IsClear records there

-- it is answered, or was
abbrev SpeakingAt : Seat → Option Statement → List Said → List Record → At → Turn → Type 0
SpeakingAt seat o said records there (turn.Ask w) = UnderWay seat o said records there
SpeakingAt seat o said records there (turn.Said r) = Done seat o said records there r

of_session : (seat : Seat) (o : Option Statement) (said : List Said) (new : Session) (t : Turn) → SpeakingAt seat o said new.records new.at t → Speaking seat o said new t
of_session seat o said new (turn.Ask w) h = h
of_session seat o said new (turn.Said r) h = record { part = h.part; said_are = h.said_are; adds = h.adds; stands = h.stands; clear = h.clear }

module _ (seat : Seat) (o : Option Statement) (front : List Record) (open_record : Record) (said : List Said) (records : List Record) where
  spoke_done : (there : At) (r : Reply) → Spoke seat o front open_record said records there r → Done seat o (said_in front ++ said) records there r
  spoke_done there r h = record {
    part = h.part;
    said_are = ap said_in h.are ∙ said_last front h.last ∙ ap (λ ss. said_in front ++ ss) h.says ∙ sym (append_assoc (said_in front) said h.part);
    adds = h.adds;
    stands = h.stands;
    clear = h.clear;
  }

  waits_on : (there : At) → Waiting seat o front open_record said records there → UnderWay seat o (said_in front ++ said) records there
  waits_on (at.Asking live doing) h = (front, open_record, h.0, ap (λ ss. said_in front ++ ss) (sym h.1), h.2)
  waits_on _ h = absurd h

  goes_on : (there : At) (t : Turn) → Does seat o front open_record said records there t → SpeakingAt seat o (said_in front ++ said) records there t
  goes_on there (turn.Ask w) h = waits_on there h
  goes_on there (turn.Said r) h = spoke_done there r h

-- ---- an answer

take_at : (catalog : List Table) (seat : Seat) (o : Option Statement) (said : List Said) (records : List Record) (there : At) (got : Got) (moved : Moved) → TakesAt catalog records there got moved → UnderWay seat o said records there → AnswerFits there got
    → SpeakingAt seat o said moved.records moved.at moved.turn
take_at catalog seat o said records (at.Asking live doing) got moved takes (front, open_record, are, is, fits) answer =
    subst (λ ss. SpeakingAt seat o ss moved.records moved.at moved.turn) (sym is)
    (goes_on seat o front open_record live.said moved.records moved.at moved.turn
    (take_to seat o front open_record catalog live doing got moved fits answer (subst (λ rs. GoesAs catalog rs live doing got moved) are takes)))
take_at catalog seat o said records _ got moved takes u answer = absurd answer

pub take_prints : (catalog : List Table) (old : Session) (got : Got) (new : Session) (t : Turn) → Takes catalog old got new t → TakePrints old got new t
take_prints catalog old got new t takes seat o said u fits = of_session seat o said new t (take_at catalog seat o said old.records old.at got (moved_to new t) takes.moves u fits)

-- ---- a line outside of a transaction

abbrev FromOutside : List Record → Option Statement → Moved → Type 0
FromOutside records o moved = SpeakingAt Outside o (said_in records) moved.records moved.at moved.turn

-- a reply that adds nothing
answered : (records : List Record) (seat : Seat) (o : Option Statement) (there : At) (r : Reply) → said_in (so_far records there) ≡ said_in records → Adds seat o r [] → seat_at there ≡ seat_after seat o r → IsClear records there
    → Done seat o (said_in records) records there r
answered records seat o there r same adds stands clear = record { part = []; said_are = same ∙ sym (append-nil (said_in records)); adds = adds; stands = stands; clear = clear }

begins_from : (number : ℕ) (records : List Record) (kind : TxKind) (small : Bool) (s : Statement) → IsHeard Outside small (Some s) → FromOutside records (Some s) (begins records (label_after number records) kind small s)
unfolding begins
begins_from number records kind small s h = (records, record_begun (label_after number records) kind, refl, sym (append-nil (said_in records)), (refl, h))

outside_stays : (s : Statement) (r : Reply) → IsPlain s → Outside ≡ seat_outside (Some s) r
outside_stays (statement.Begin begun) r plain = absurd cc
outside_stays statement.Commit r plain = refl
outside_stays statement.Rollback r plain = refl
outside_stays (statement.Insert table values) r plain = refl
outside_stays (statement.Select table names e) r plain = refl
outside_stays (statement.Update table sets e) r plain = refl
outside_stays (statement.Delete table e) r plain = refl

refused_outside : (catalog : List Table) (s : Statement) (word : ErrWord) → judged_outside catalog s ≡ Err word → uses_label Outside (reply.Refused word) ≡ false
refused_outside catalog s word is = by_table (table_named catalog s) is
  where
    by_words : (t : ℕ) (w : Option ErrWord) → refusal_in (columns_at catalog t) s ≡ w → judged_outside_at catalog t w ≡ Err word → uses_label Outside (reply.Refused word) ≡ false
    by_words t (Some v) refused is = let e : v ≡ word = (cc) in subst (λ x. uses_label Outside (reply.Refused x) ≡ false) e (word_unlabelled (columns_at catalog t) s v refused)
    by_words t None refused is = absurd cc

    by_table : (o : Option ℕ) → judged_outside_in catalog s o ≡ Err word → uses_label Outside (reply.Refused word) ≡ false
    by_table None is = let e : err.Table ≡ word = (cc) in subst (λ x. uses_label Outside (reply.Refused x) ≡ false) e refl
    by_table (Some t) is = by_words t (refusal_in (columns_at catalog t) s) refl is

module _ (catalog : List Table) (number : ℕ) (records : List Record) where
  table_from : (s : Statement) (j : Result EngineName ErrWord) (moved : Moved) → IsPlain s → judged_outside catalog s ≡ j → OutsideTable number records s j moved → FromOutside records (Some s) moved
  table_from s (Err word) moved plain judged is =
      subst (FromOutside records (Some s)) (sym is) (answered records Outside (Some s) at.Outside (reply.Refused word) refl (unused_adds Outside s (reply.Refused word) (refused_outside catalog s word judged)) (outside_stays s (reply.Refused word) plain) tt)
  table_from s (Ok e) moved plain judged (inl is) = subst (FromOutside records (Some s)) (sym is) (begins_from number records (engine_kind e) true s plain)
  table_from s (Ok e) moved plain judged (inr is) =
      subst (FromOutside records (Some s)) (sym is) (answered records Outside (Some s) at.Outside (reply.Refused err.Memory) refl (inr (refl, refl)) (outside_stays s (reply.Refused err.Memory) plain) tt)

  outside_from : (o : Option Statement) (moved : Moved) → StartsOutside catalog number records o moved → FromOutside records o moved
  outside_from None moved is = subst (FromOutside records None) (sym is) (answered records Outside None at.Outside (reply.Refused err.NoTransaction) refl refl refl tt)
  outside_from (Some statement.Commit) moved is = subst (FromOutside records (Some statement.Commit)) (sym is) (answered records Outside (Some statement.Commit) at.Outside (reply.Refused err.NoTransaction) refl refl refl tt)
  outside_from (Some statement.Rollback) moved is = subst (FromOutside records (Some statement.Rollback)) (sym is) (answered records Outside (Some statement.Rollback) at.Outside (reply.Refused err.NoTransaction) refl refl refl tt)
  outside_from (Some (statement.Begin begun)) moved (inl is) = subst (FromOutside records (Some (statement.Begin begun))) (sym is) (begins_from number records _ false (statement.Begin begun) refl)
  outside_from (Some (statement.Begin begun)) moved (inr is) =
      subst (FromOutside records (Some (statement.Begin begun))) (sym is) (answered records Outside (Some (statement.Begin begun)) at.Ended (reply.Refused err.Memory) refl (inr (refl, refl)) refl tt)
  outside_from (Some (statement.Insert table values)) moved is = table_from (statement.Insert table values) _ moved (refl, refl) refl is
  outside_from (Some (statement.Select table names e)) moved is = table_from (statement.Select table names e) _ moved (refl, refl) refl is
  outside_from (Some (statement.Update table sets e)) moved is = table_from (statement.Update table sets e) _ moved (refl, refl) refl is
  outside_from (Some (statement.Delete table e)) moved is = table_from (statement.Delete table e) _ moved (refl, refl) refl is

  abbrev FromEnded : Option Statement → Moved → Type 0
  FromEnded o moved = SpeakingAt Ended o (said_in records) moved.records moved.at moved.turn

  ended_from : (o : Option Statement) → FromEnded o (start_ended records o)
  ended_from None = answered records Ended None at.Ended (reply.Refused err.Ended) refl refl refl tt
  ended_from (Some statement.Commit) = answered records Ended (Some statement.Commit) at.Outside reply.RolledBack refl refl refl tt
  ended_from (Some statement.Rollback) = answered records Ended (Some statement.Rollback) at.Outside reply.RolledBack refl refl refl tt
  ended_from (Some (statement.Begin begun)) = answered records Ended (Some (statement.Begin begun)) at.Ended (reply.Refused err.Ended) refl refl refl tt
  ended_from (Some (statement.Insert table values)) = answered records Ended (Some (statement.Insert table values)) at.Ended (reply.Refused err.Ended) refl refl refl tt
  ended_from (Some (statement.Select table names e)) = answered records Ended (Some (statement.Select table names e)) at.Ended (reply.Refused err.Ended) refl refl refl tt
  ended_from (Some (statement.Update table sets e)) = answered records Ended (Some (statement.Update table sets e)) at.Ended (reply.Refused err.Ended) refl refl refl tt
  ended_from (Some (statement.Delete table e)) = answered records Ended (Some (statement.Delete table e)) at.Ended (reply.Refused err.Ended) refl refl refl tt

-- ---- each call

-- what is said so far where a transaction is live
said_live : (records front : List Record) (open_record : Record) (live : Live) → records ≡ front ++ open_record ∷ [] → said_in (with_last records (record_now live)) ≡ said_in front ++ live.said
said_live records front open_record live are =
    ap (λ rs. said_in (with_last rs (record_now live))) are ∙ ap said_in (with_last_seam front open_record (record_now live)) ∙ said_last front (record_now live) ∙ ap (λ ss. said_in front ++ ss) (append-nil live.said)

start_at : (catalog : List Table) (number : ℕ) (records : List Record) (there : At) (o : Option Statement) (moved : Moved) → StartsAt catalog number records there o moved → IsClear records there
    → SpeakingAt (seat_at there) o (said_in (so_far records there)) moved.records moved.at moved.turn
start_at catalog number records at.Outside o moved starts clear = outside_from catalog number records o moved starts
start_at catalog number records at.Ended o moved starts clear = subst (FromEnded catalog number records o) (sym starts) (ended_from catalog number records o)
start_at catalog number records (at.Inside live) o moved starts (none, declared, (front, open_record, are)) =
    subst (λ ss. SpeakingAt Inside o ss moved.records moved.at moved.turn) (sym (said_live records front open_record live are))
    (goes_on Inside o front open_record live.said moved.records moved.at moved.turn
    (hears_inside catalog front open_record live none declared o moved (subst (λ rs. StartsAt catalog number rs (at.Inside live) o moved) are starts)))
start_at catalog number records (at.Stepping live c) o moved starts (none, declared, (front, open_record, are)) =
    subst (λ ss. SpeakingAt Inside o ss moved.records moved.at moved.turn) (sym (said_live records front open_record live are))
    (goes_on Inside o front open_record live.said moved.records moved.at moved.turn
    (subst (Goes Inside o front open_record live.said) (sym (subst (λ rs. StartsAt catalog number rs (at.Stepping live c) o moved) are starts)) (hears_stepping catalog front open_record live none declared c o)))
start_at catalog number records (at.Asking live doing) o moved starts clear = absurd clear

pub start_prints : (catalog : List Table) (old : Session) (o : Option Statement) (new : Session) (t : Turn) → Starts catalog old o new t → StartPrints old o new t
start_prints catalog old o new t starts clear = of_session (seat_at old.at) o (said_so_far old) new t (start_at catalog old.number old.records old.at o (moved_to new t) starts.moves clear)

left_at : (records : List Record) (there : At) (moved : Moved) → moved ≡ leave_at records there → IsClear records there → SpeakingAt (seat_at there) None (said_in (so_far records there)) moved.records moved.at moved.turn
left_at records at.Outside moved is clear = subst (λ (m : Moved). SpeakingAt Outside None (said_in records) m.records m.at m.turn) (sym is) (answered records Outside None at.Outside reply.RolledBack refl refl refl tt)
left_at records at.Ended moved is clear = subst (λ (m : Moved). SpeakingAt Ended None (said_in records) m.records m.at m.turn) (sym is) (answered records Ended None at.Outside reply.RolledBack refl refl refl tt)
left_at records (at.Inside live) moved is (none, declared, (front, open_record, are)) =
    subst (λ ss. SpeakingAt Inside None ss moved.records moved.at moved.turn) (sym (said_live records front open_record live are))
    (goes_on Inside None front open_record live.said moved.records moved.at moved.turn
    (subst (Goes Inside None front open_record live.said) (sym (is ∙ ap (λ rs. leave_at rs (at.Inside live)) are)) (left_inside [] front open_record live none declared)))
left_at records (at.Stepping live c) moved is (none, declared, (front, open_record, are)) =
    subst (λ ss. SpeakingAt Inside None ss moved.records moved.at moved.turn) (sym (said_live records front open_record live are))
    (goes_on Inside None front open_record live.said moved.records moved.at moved.turn
    (subst (Goes Inside None front open_record live.said) (sym (is ∙ ap (λ rs. leave_at rs (at.Stepping live c)) are)) (left_stepping [] front open_record live none declared c)))
left_at records (at.Asking live doing) moved is clear = absurd clear

pub leave_prints : (old new : Session) (t : Turn) → Leaves old new t → LeavePrints old new t
leave_prints old new t l clear = of_session (seat_at old.at) None (said_so_far old) new t (left_at old.records old.at (moved_to new t) l.moves clear)

-- ---- line by line

prints_push : (seat end now : Seat) (lines : List Line) (said part : List Said) (o : Option Statement) (r : Reply) → Prints seat lines said end → Adds end o r part → now ≡ seat_after end o r → Prints seat (lines ++ (o, r) ∷ []) (said ++ part) now
prints_push seat end now [] said part o r (none, same) adds stands =
    let here : Adds seat o r part = subst (λ x. Adds x o r part) same adds in
    (part, [], ap (λ ss. ss ++ part) none ∙ sym (append-nil part), here, (refl, stands ∙ ap (λ x. seat_after x o r) same))
prints_push seat end now (line ∷ lines) said part o r (first, more, is, added, rest) adds stands =
    (first, more ++ part, ap (λ ss. ss ++ part) is ∙ append_assoc first more part, added, prints_push (seat_after seat line.0 line.1) end now lines more part o r rest adds stands)

-- one line more
pub printed_on : (lines : List Line) (old new : Session) (o : Option Statement) (r : Reply) → HasPrinted lines old → LineDone (seat_at old.at) o (said_so_far old) new r → HasPrinted (lines ++ (o, r) ∷ []) new
printed_on lines old new o r h d = record {
  clear = d.clear;
  prints = subst (λ ss. Prints Outside (lines ++ (o, r) ∷ []) ss (seat_at new.at)) (sym d.said_are) (prints_push Outside (seat_at old.at) (seat_at new.at) lines (said_so_far old) d.part o r h.prints d.adds d.stands);
}

-- a session that has heard no line
pub new_printed : (s : Session) (number : ℕ) → s ≡ fresh number → HasPrinted [] s
new_printed s number is = subst (HasPrinted []) (sym is) (record { clear = tt; prints = (refl, refl) })
