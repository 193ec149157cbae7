-- The talks of all records of a session, one each: what keeps the talk of its live transaction keeps them.
use Rattle.std.specs.Prelude.{◌≡◌, ℕ, ◌+◌, List, [], ◌∷◌, ◌++◌, Option, Bool, true, false, length, if◌then◌else◌, slice_set, nat_lt}
use Rattle.std.proofs.Common.{refl, sym, ap, subst, ◌∙◌, append-nil, length-append, arith}
use Rattle.std.proofs.lemmas.Bool.{lt-ltb}
use Rattle.std.proofs.Math.Seq.{set-append_seam}
use Rattle.sk_rows.specs.declared.table.Table.{Table}
use Rattle.sk_rows.specs.declared.statement.Statement.{Statement}
use Rattle.sk_model.specs.declared.label.Label.{Label}
use Rattle.sk_model.specs.declared.record.Record.{Record}
use Rattle.sk_model.specs.Talks.{Talk}
use Rattle.sk_model.specs.RecordTalks.{Talks}
use Rattle.sk_commit.specs.declared.asking.Got.{Got}
use Rattle.sk_session.specs.declared.turn.Turn.{Turn}
use Rattle.sk_session.specs.declared.live.At.{At}
use Rattle.sk_session.specs.declared.live.At.TheVariants as at
use Rattle.sk_session.specs.declared.live.Moved.{Moved}
use Rattle.sk_session.specs.declared.session.Session.{Session}
use Rattle.sk_session.specs.Moving.{with_last, record_now, records_at, record_begun, label_after}
use Rattle.sk_session.specs.Speaks.{Over, SpeaksAt, BegunAt, Unmoved, TakeKept, StartKept, LeaveKept}
use Rattle.sk_session.specs.Starting.{Starts, Takes, Leaves, moved_to, records_now}
use Rattle.sk_session.proofs.Taken.{takes_keep}
use Rattle.sk_session.proofs.Left.{starts_keep, leave_keeps}
use Rattle.sk_session.proofs.Orderly.{starts_orderly, takes_orderly, leaves_orderly}
use Rattle.sk_session.proofs.Pausing.{standing_talks, paused_talks}
use Rattle.sk_session.specs.EachTalk.{label_at, EachHas, EachTalks, EachOver, LastLive, HasTalks, grown, AnswerFits, call_made, talks_from, StartTalks, TakeTalks, LeaveTalks, IsBetween, TalksNow}

if_true : {X : Type 0} (b : Bool) (x y : X) → b ≡ true → (if b then x else y) ≡ x
if_true true x y e = refl
if_true false x y e = absurd cc

-- the last of these records is now this one
pub with_last_seam : (front : List Record) (p r : Record) → with_last (front ++ p ∷ []) r ≡ front ++ r ∷ []
with_last_seam front p r =
    let n : length (front ++ p ∷ []) ≡ length front + 1 = length-append front (p ∷ []) in
    if_true (nat_lt 0 (length (front ++ p ∷ []))) _ _ (lt-ltb 0 (length (front ++ p ∷ [])) (omega (arith, n)))
    ∙ ap (λ i. slice_set (front ++ p ∷ []) i r) (omega (arith, n))
    ∙ set-append_seam front p [] r

-- the last talk grows
pub grown_seam : (before : List Talk) (t more : Talk) → grown (before ++ t ∷ []) more ≡ before ++ (t ++ more) ∷ []
grown_seam [] t more = refl
grown_seam (b ∷ []) t more = refl
grown_seam (b ∷ c ∷ before) t more = ap (λ ts. b ∷ ts) (grown_seam (c ∷ before) t more)

-- one more record with its talk
pub each_push : (Has : Record → Talk → Type 0) (number k : ℕ) (rs : List Record) (ts : List Talk) (r : Record) (t : Talk) → EachHas Has number k rs ts → r.label ≡ label_at number (k + length rs) → Has r t → EachHas Has number k (rs ++ r ∷ []) (ts ++ t ∷ [])
each_push Has number k [] [] r t each label talks = (label ∙ ap (label_at number) (omega arith), talks, tt)
each_push Has number k [] (u ∷ ts) r t each label talks = absurd each
each_push Has number k (q ∷ rs) [] r t each label talks = absurd each
each_push Has number k (q ∷ rs) (u ∷ ts) r t each label talks = (each.0, each.1, each_push Has number (k + 1) rs ts r t each.2 (label ∙ ap (label_at number) (omega arith)) talks)

-- records of transactions that are over have their talks
over_talks : (catalog : List Table) (number k : ℕ) (rs : List Record) (ts : List Talk) → EachOver catalog number k rs ts → EachTalks catalog number k rs ts
over_talks catalog number k [] [] h = tt
over_talks catalog number k [] (t ∷ ts) h = absurd h
over_talks catalog number k (r ∷ rs) [] h = absurd h
over_talks catalog number k (r ∷ rs) (t ∷ ts) h = (h.0, h.1.talks, over_talks catalog number (k + 1) rs ts h.2)

module _ (catalog : List Table) (number : ℕ) (records : List Record) (talks : List Talk) (label : Label) (talk : Talk) (l : LastLive catalog number records talks label talk) where
  -- the transaction goes on, with these calls more
  pub goes_on : (more : Talk) → LastLive catalog number records (grown talks more) label (talk ++ more)
  goes_on more = record {
    front = l.front;
    open_record = l.open_record;
    before = l.before;
    records_are = l.records_are;
    talks_are = ap (λ ts. grown ts more) l.talks_are ∙ grown_seam l.before talk more;
    each = l.each;
    label_is = l.label_is;
  }

  -- its record has all its calls, and so have those before it
  pub has_all : (Has : Record → Talk → Type 0) → EachHas Has number 1 l.front l.before → (more : Talk) (r : Record) → r.label ≡ label → Has r (talk ++ more) → EachHas Has number 1 (with_last records r) (grown talks more)
  has_all Has each more r same has =
      subst (λ rs. EachHas Has number 1 rs (grown talks more)) (sym (ap (λ rs. with_last rs r) l.records_are ∙ with_last_seam l.front l.open_record r))
      (subst (λ ts. EachHas Has number 1 (l.front ++ r ∷ []) ts) (sym (ap (λ ts. grown ts more) l.talks_are ∙ grown_seam l.before talk more))
      (each_push Has number 1 l.front l.before r (talk ++ more) each (same ∙ l.label_is ∙ ap (label_at number) (omega arith)) has))

module _ (catalog : List Table) (number : ℕ) (old : List Record) (talks : List Talk) (label : Label) (talk : Talk) (l : LastLive catalog number old talks label talk) where
  lives : (more : Talk) (new : List Record) (now : Label) → new ≡ old → now ≡ label → LastLive catalog number new (grown talks more) now (talk ++ more)
  lives more new now is same =
      subst (λ rs. LastLive catalog number rs (grown talks more) now (talk ++ more)) (sym is)
      (subst (λ n. LastLive catalog number old (grown talks more) n (talk ++ more)) (sym same) (goes_on catalog number old talks label talk l more))

  -- the transaction is over
  over : (more : Talk) (new : List Record) (r : Record) → new ≡ with_last old r → r.label ≡ label → Over catalog r (talk ++ more) → EachOver catalog number 1 new (grown talks more)
  over more new r is same has = subst (λ rs. EachOver catalog number 1 rs (grown talks more)) (sym is) (has_all catalog number old talks label talk l (Over catalog) l.each more r same has)

  -- what the live transaction has become
  spoken_talks : (more : Talk) (new : List Record) (there : At) (turn : Turn) → SpeaksAt catalog old label new there turn (talk ++ more) → HasTalks catalog number new there (grown talks more)
  spoken_talks more new at.Outside turn h = over more new h.0 h.1 h.2 h.3
  spoken_talks more new at.Ended turn h = over more new h.0 h.1 h.2 h.3
  spoken_talks more new (at.Inside live) turn h = (talk ++ more, lives more new live.label h.0 h.1, h.2)
  spoken_talks more new (at.Stepping live c) turn h = (talk ++ more, lives more new live.label h.0 h.1, h.2)
  spoken_talks more new (at.Asking live doing) turn h = (talk ++ more, lives more new live.label h.0 h.1, h.2)

pub grown_none : (talks : List Talk) → grown talks [] ≡ talks
grown_none [] = refl
grown_none (t ∷ []) = ap (λ x. x ∷ []) (append-nil t)
grown_none (t ∷ u ∷ ts) = ap (λ ts. t ∷ ts) (grown_none (u ∷ ts))

-- no call was made
still_talks : (catalog : List Table) (number : ℕ) (old : List Record) (talks : List Talk) (label : Label) (talk : Talk) (new : List Record) (there : At) (turn : Turn) → LastLive catalog number old talks label talk → SpeaksAt catalog old label new there turn talk → HasTalks catalog number new there talks
still_talks catalog number old talks label talk new there turn l h =
    subst (λ ts. HasTalks catalog number new there ts) (grown_none talks)
    (spoken_talks catalog number old talks label talk l [] new there turn (subst (SpeaksAt catalog old label new there turn) (sym (append-nil talk)) h))

-- nothing has changed
unmoved_talks : (catalog : List Table) (number : ℕ) (old : List Record) (there : At) (moved : Moved) (talks : List Talk) → Unmoved old there moved → HasTalks catalog number old there talks → HasTalks catalog number moved.records moved.at talks
unmoved_talks catalog number old there moved talks u h =
    subst (λ rs. HasTalks catalog number rs moved.at talks) (sym u.0) (subst (λ x. HasTalks catalog number old x talks) (sym u.1) h)

-- ---- an answer

take_at : (catalog : List Table) (number : ℕ) (old : List Record) (there : At) (got : Got) (moved : Moved) (talks : List Talk) → TakeKept catalog old there got moved → HasTalks catalog number old there talks → AnswerFits there got
    → HasTalks catalog number moved.records moved.at (grown talks (call_made there got))
take_at catalog number old (at.Asking live doing) got moved talks kept h fits =
    spoken_talks catalog number old talks live.label h.0 h.1 (call_made (at.Asking live doing) got) moved.records moved.at moved.turn (kept h.0 h.2 fits)
take_at catalog number old _ got moved talks kept h fits = absurd fits

pub take_talks : (catalog : List Table) (old : Session) (got : Got) (new : Session) (turn : Turn) → Takes catalog old got new turn → TakeTalks catalog old got new
take_talks catalog old got new turn t talks h fits = (
  subst (λ n. HasTalks catalog n new.records new.at (grown talks (call_made old.at got))) (sym t.number)
      (take_at catalog old.number old.records old.at got (moved_to new turn) talks (takes_keep catalog old got new turn t) h.0 fits),
  takes_orderly catalog old got new turn t talks h fits,
)

-- ---- a statement

begun_talks : (catalog : List Table) (number : ℕ) (old : List Record) (moved : Moved) (there : At) (talks : List Talk) → BegunAt catalog old (label_after number old) moved there → EachOver catalog number 1 old talks
    → HasTalks catalog number moved.records there (talks_from at.Outside there talks)
begun_talks catalog number old moved at.Outside talks h each = subst (λ rs. EachOver catalog number 1 rs talks) (sym h) each
begun_talks catalog number old moved at.Ended talks h each = subst (λ rs. EachOver catalog number 1 rs talks) (sym h) each
begun_talks catalog number old moved (at.Asking live doing) talks h each =
    ([], record { front = old; open_record = record_begun live.label live.kind; before = talks; records_are = h.0; talks_are = refl; each = each; label_is = h.1 }, h.2)
begun_talks catalog number old moved _ talks h each = absurd h

same_from : (there : At) (talks : List Talk) → talks_from at.Outside there talks ≡ talks_from at.Ended there talks
same_from at.Outside talks = refl
same_from at.Ended talks = refl
same_from (at.Inside live) talks = refl
same_from (at.Stepping live c) talks = refl
same_from (at.Asking live doing) talks = refl

start_at : (catalog : List Table) (number : ℕ) (old : List Record) (there : At) (moved : Moved) (talks : List Talk) → StartKept catalog number old there moved → HasTalks catalog number old there talks → HasTalks catalog number moved.records moved.at (talks_from there moved.at talks)
start_at catalog number old at.Outside moved talks kept h = begun_talks catalog number old moved moved.at talks kept h
start_at catalog number old at.Ended moved talks kept h = subst (HasTalks catalog number moved.records moved.at) (same_from moved.at talks) (begun_talks catalog number old moved moved.at talks kept h)
start_at catalog number old (at.Inside live) moved talks kept h = still_talks catalog number old talks live.label h.0 moved.records moved.at moved.turn h.1 (kept h.0 h.2)
start_at catalog number old (at.Stepping live c) moved talks kept h = still_talks catalog number old talks live.label h.0 moved.records moved.at moved.turn h.1 (kept h.0 h.2)
start_at catalog number old (at.Asking live doing) moved talks kept h = unmoved_talks catalog number old (at.Asking live doing) moved talks kept h

pub start_talks : (catalog : List Table) (old : Session) (s : Option Statement) (new : Session) (turn : Turn) → Starts catalog old s new turn → StartTalks catalog old new
start_talks catalog old s new turn t talks h = (
  subst (λ n. HasTalks catalog n new.records new.at (talks_from old.at new.at talks)) (sym t.number)
      (start_at catalog old.number old.records old.at (moved_to new turn) talks (starts_keep catalog old s new turn t) h.0),
  starts_orderly catalog old s new turn t talks h,
)

-- ---- the session is left

leave_at : (catalog : List Table) (number : ℕ) (old : List Record) (there : At) (moved : Moved) (talks : List Talk) → LeaveKept old there moved → HasTalks catalog number old there talks → HasTalks catalog number moved.records moved.at talks
leave_at catalog number old at.Outside moved talks kept h = unmoved_talks catalog number old at.Outside moved talks kept h
leave_at catalog number old at.Ended moved talks kept h = unmoved_talks catalog number old at.Outside moved talks kept h
leave_at catalog number old (at.Inside live) moved talks kept h = still_talks catalog number old talks live.label h.0 moved.records moved.at moved.turn h.1 (kept catalog h.0 h.2)
leave_at catalog number old (at.Stepping live c) moved talks kept h = unmoved_talks catalog number old (at.Stepping live c) moved talks kept h
leave_at catalog number old (at.Asking live doing) moved talks kept h = unmoved_talks catalog number old (at.Asking live doing) moved talks kept h

pub leave_talks : (old new : Session) (turn : Turn) → Leaves old new turn → LeaveTalks old new
leave_talks old new turn l catalog talks h = (
  subst (λ n. HasTalks catalog n new.records new.at talks) (sym l.number) (leave_at catalog old.number old.records old.at (moved_to new turn) talks (leave_keeps old new turn l) h.0),
  leaves_orderly old new turn l h.1,
)

-- ---- between two lines

now_talks : (catalog : List Table) (number : ℕ) (records : List Record) (talks : List Talk) (label : Label) (talk : Talk) (r : Record) → LastLive catalog number records talks label talk → r.label ≡ label → Talks catalog r talk → EachTalks catalog number 1 (with_last records r) talks
now_talks catalog number records talks label talk r l same has =
    subst (λ ts. EachTalks catalog number 1 (with_last records r) ts) (grown_none talks)
    (has_all catalog number records talks label talk l (Talks catalog) (over_talks catalog number 1 l.front l.before l.each) [] r same (subst (Talks catalog r) (sym (append-nil talk)) has))

between : (catalog : List Table) (number : ℕ) (records : List Record) (there : At) (talks : List Talk) → HasTalks catalog number records there talks → IsBetween there → EachTalks catalog number 1 (records_at records there) talks
between catalog number records at.Outside talks h is = over_talks catalog number 1 records talks h
between catalog number records at.Ended talks h is = over_talks catalog number 1 records talks h
between catalog number records (at.Inside live) talks h is = now_talks catalog number records talks live.label h.0 (record_now live) h.1 refl (standing_talks catalog live h.0 h.2)
between catalog number records (at.Stepping live c) talks h is = now_talks catalog number records talks live.label h.0 (record_now live) h.1 refl (paused_talks catalog live c h.0 h.2)
between catalog number records (at.Asking live doing) talks h is = absurd is

pub talks_now : (s : Session) (records : List Record) → records ≡ records_now s → TalksNow s records
talks_now s records is catalog talks h there = subst (λ rs. EachTalks catalog s.number 1 rs talks) (sym is) (between catalog s.number s.records s.at talks h.0 there)
