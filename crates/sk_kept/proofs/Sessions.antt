-- A line of a session, call by call.
use Rattle.std.specs.Prelude.{◌≡◌, ℕ, ◌+◌, List, [], ◌∷◌, ◌++◌, Option, Some, None, Bool, true, false, cond, ◌⊎◌, length, map, slice_get}
use Rattle.std.proofs.Common.{refl, sym, ap, subst, ◌∙◌, inl, inr, ⊎_elim, arith}
use Rattle.std.proofs.lemmas.List.{append-nil, append_assoc, length-map}
use Rattle.std.proofs.lemmas.Bool.{false≢true, cases_Bool}
use Rattle.sk_rows.specs.declared.table.Table.{Table}
use Rattle.sk_rows.specs.declared.statement.Statement.{Statement}
use Rattle.sk_model.specs.declared.engine.EngineName.{EngineName}
use Rattle.sk_model.specs.declared.engine.EngineName.TheVariants.{Mem, Store}
use Rattle.sk_model.specs.declared.point.Point.{Point}
use Rattle.sk_model.specs.declared.reply.Reply.{Reply}
use Rattle.sk_model.specs.declared.call.EngineCall.TheVariants as call
use Rattle.sk_model.specs.Asking.{first_engine}
use Rattle.sk_model.specs.RecordTalks.{number_or_none}
use Rattle.sk_weave.specs.declared.answer.Selected.{Selected}
use Rattle.sk_model.specs.Talks.{Talk}
use Rattle.sk_model.proofs.Lists.{Each}
use Rattle.sk_model.specs.declared.step.StepName.TheVariants.{CloseMem, CloseStore, DrawMem, DrawStore, Check, StampMem, StampStore}
use Rattle.sk_model.specs.declared.commit.Write.{Write}
use Rattle.sk_model.specs.Asking.{read_call}
use Rattle.sk_rows.specs.declared.value.Value.{Value}
use Rattle.sk_commit.specs.declared.committing.Committing.{Committing}
use Rattle.sk_commit.specs.declared.committing.Stage.{Stage}
use Rattle.sk_commit.specs.declared.committing.Stage.TheVariants.{Step, Leave}
use Rattle.sk_commit.specs.Committing.{leave_call, wish_in, wish_of}
use Rattle.sk_commit.specs.declared.asking.Wish.{Wish}
use Rattle.sk_commit.specs.declared.asking.Wish.TheVariants as wish
use Rattle.sk_commit.specs.declared.asking.RegistryCall.TheVariants as reg
use Rattle.sk_commit.specs.declared.asking.RegistryReply.TheVariants as told
use Rattle.sk_commit.specs.declared.asking.Got.{Got}
use Rattle.sk_commit.specs.declared.asking.Got.TheVariants as given
use Rattle.sk_commit.specs.Fits.{WishFits, own_call}
use Rattle.sk_session.specs.declared.turn.Turn.{Turn}
use Rattle.sk_session.specs.declared.turn.Turn.TheVariants as turn
use Rattle.sk_session.specs.declared.live.Live.{Live}
use Rattle.sk_session.specs.declared.live.Job.{Job}
use Rattle.sk_session.specs.declared.live.Job.TheVariants as job
use Rattle.sk_session.specs.declared.live.At.{At}
use Rattle.sk_session.specs.declared.live.At.TheVariants as at
use Rattle.sk_session.specs.declared.session.Session.{Session}
use Rattle.sk_session.specs.Moving.{on, counter_wish, put_wish, wished, record_now, with_last, label_after}
use Rattle.sk_session.specs.Starting.{Starts, Takes, Leaves, moved_to}
use Rattle.sk_session.specs.Speaks.{SpeaksAt, BegunAt, StartKept, TakeKept}
use Rattle.sk_session.specs.EachTalk.{label_at, LastLive, HasTalks, SessionTalks, grown, has_begun, talks_from, AnswerFits, call_made, IsBetween}
use Rattle.sk_session.specs.Facts.{Facts, facts_of, facts_in, facts_after, last_changed, fresh_facts, BegunFacts, AreBy, FitsFacts, AsksFor, AsksAt, OpensBy, OpensAt, IsOpening, facts_taken}
use Rattle.sk_session.specs.SoFar.{so_far}
use Rattle.sk_session.specs.Conversing.{is_early, Exchange, Exchanges, Replied}
use Rattle.sk_session.specs.Common.{Common, Answered}
use Rattle.sk_session.proofs.Recorded.{grown_seam, start_talks, take_talks, leave_talks}
use Rattle.sk_session.proofs.Changed.{last_facts, take_facts, take_opens, start_facts, start_opens, leave_facts, leave_opens}
use Rattle.sk_session.proofs.Wished.{asks_right}
use Rattle.sk_session.proofs.Counting.{job_left, Within, starts_within, leaves_within}
use Rattle.sk_session.proofs.Exchanging.{takes_left, leave_waits}
use Rattle.sk_session.proofs.Taken.{takes_keep}
use Rattle.sk_session.proofs.Left.{starts_keep}
use Rattle.sk_kept.specs.Running as run
use Rattle.sk_kept.specs.Running.{Member, IsRunning, OpensNext, AsksNext, OpensNothing, AsksOn, Begins}
use Rattle.sk_kept.specs.Sessions.{Player, waited, member_of, IsRun, AnswersRight, GoesOn, LinesKeep, LeavesKeep}
use Rattle.sk_kept.proofs.Middles.{each_others, each_focus, each_middle}
use Rattle.sk_kept.proofs.Founds.{same_last}
use Rattle.sk_kept.proofs.Running.{takes_keep as call_keeps, asks_keep}

-- ---- the last of a list

change_last : (f : Facts → Facts) (front : List Facts) (x : Facts) → last_changed f (front ++ x ∷ []) ≡ front ++ f x ∷ []
change_last f [] x = refl
change_last f (y ∷ []) x = refl
change_last f (y ∷ z ∷ zs) x = ap (λ xs. y ∷ xs) (change_last f (z ∷ zs) x)

-- ---- what is asked for next

-- what is asked for fits the last facts
asks_next : (catalog : List Table) (s : Session) (talks : List Talk) → SessionTalks catalog s talks → (front : List Facts) (f : Facts) → facts_in s ≡ front ++ f ∷ [] → AsksNext f (waited s.at)
asks_next catalog s talks h front f e = go s.at (asks_right catalog s talks h)
  where
    go : (there : At) → AsksAt (facts_in s) there → AsksNext f (waited there)
    go at.Outside a = tt
    go (at.Inside live) a = tt
    go (at.Stepping live c) a = tt
    go at.Ended a = tt
    go (at.Asking live doing) a = subst (λ x. FitsFacts x (wished live doing)) (same_last a.before front a.last f (sym a.all_are ∙ e)).1 a.fits

-- no step of a commit opens an engine
stage_opens : (c : Committing) (stage : Stage) → OpensNothing (Some (wish_in c stage))
stage_opens c (Step CloseMem) = tt
stage_opens c (Step CloseStore) = tt
stage_opens c (Step DrawMem) = tt
stage_opens c (Step DrawStore) = tt
stage_opens c (Step Check) = tt
stage_opens c (Step StampMem) = tt
stage_opens c (Step StampStore) = tt
stage_opens c (Leave refused Mem end) = by c.mem
  where
    by : (o : Option ℕ) → OpensNothing (Some (wish.Mem (leave_call c.label o)))
    by None = tt
    by (Some n) = tt
stage_opens c (Leave refused Store end) = by c.store
  where
    by : (o : Option ℕ) → OpensNothing (Some (wish.Store (leave_call c.label o)))
    by None = tt
    by (Some n) = tt

commit_opens : (c : Committing) → OpensNothing (Some (wish_of c))
unfolding wish_of
commit_opens c = stage_opens c c.stage

-- what is waited for is no opening, but for an opening
nothing_opened : (there : At) → (IsOpening there → ⊥) → OpensNothing (waited there)
nothing_opened at.Outside n = tt
nothing_opened (at.Inside live) n = tt
nothing_opened (at.Stepping live c) n = tt
nothing_opened at.Ended n = tt
nothing_opened (at.Asking live (job.Open e n)) none = absurd (none tt)
nothing_opened (at.Asking live job.Count) none = by (first_engine live.kind)
  where
    by : (e : EngineName) → OpensNothing (Some (counter_wish e))
    by Mem = tt
    by Store = tt
nothing_opened (at.Asking live job.Select) none = tt
nothing_opened (at.Asking live (job.Read e t key)) none = by e key
  where
    by : (e : EngineName) (key : Option Value) → OpensNothing (Some (on e (read_call live.label t key)))
    by Mem None = tt
    by Mem (Some k) = tt
    by Store None = tt
    by Store (Some k) = tt
nothing_opened (at.Asking live (job.Put e writes done r)) none = by e (slice_get writes done)
  where
    by : (e : EngineName) (o : Option Write) → OpensNothing (Some (put_wish live e o))
    by Mem None = tt
    by Mem (Some w) = tt
    by Store None = tt
    by Store (Some w) = tt
nothing_opened (at.Asking live (job.Commit c whole own)) none = commit_opens c
nothing_opened (at.Asking live (job.Leave e how r lost)) none = by e
  where
    by : (e : EngineName) → OpensNothing (Some (on e (call.DropTx live.label)))
    by Mem = tt
    by Store = tt

-- ---- a statement

between_opens : (there : At) → IsBetween there → IsOpening there → ⊥
between_opens at.Outside b o = o
between_opens (at.Inside live) b o = o
between_opens (at.Stepping live c) b o = o
between_opens at.Ended b o = o
between_opens (at.Asking live doing) b o = b

-- outside of a transaction the records are as they stand
resting_length : (s : Session) (there : At) → s.at ≡ there → (new : At) → has_begun there new ≡ true → length (facts_in s) ≡ length s.records
resting_length s at.Outside e new b = ap (λ x. length (map facts_of (so_far s.records x))) e ∙ length-map s.records facts_of
resting_length s at.Ended e new b = ap (λ x. length (map facts_of (so_far s.records x))) e ∙ length-map s.records facts_of
resting_length s (at.Inside live) e new b = absurd (false≢true b)
resting_length s (at.Stepping live c) e new b = absurd (false≢true b)
resting_length s (at.Asking live doing) e new b = absurd (false≢true b)

module _ (catalog : List Table) (old : Session) (talks : List Talk) (s : Option Statement) (new : Session) (t : Turn) (between : IsBetween old.at) (h : SessionTalks catalog old talks) (starts : Starts catalog old s new t) where
  talks_then : SessionTalks catalog new (talks_from old.at new.at talks)
  talks_then = start_talks catalog old s new t starts talks h

  abbrev player : Player
  player = record { session = old; talks = talks }

  abbrev player_then : Player
  player_then = record { session = new; talks = talks_from old.at new.at talks }

  opens_nothing : OpensNothing (waited new.at)
  opens_nothing = nothing_opened new.at (λ o. between_opens old.at between (subst IsOpening (start_opens catalog old s new t starts talks h o) o))

  starts_by : (b : Bool) → has_begun old.at new.at ≡ b → AsksOn (member_of player) (member_of player_then) ⊎ Begins (member_of player) (member_of player_then)
  starts_by false e = inl (record {
    number = starts.number;
    facts = subst (λ b. cond b (BegunFacts old.number old.records (facts_in old) (facts_in new)) (facts_in new ≡ facts_in old)) e (start_facts catalog old s new t starts);
    talks = ap (λ b. cond b (talks ++ [] ∷ []) talks) e;
    opens = opens_nothing;
    asks = asks_next catalog new (talks_from old.at new.at talks) talks_then;
  })
  starts_by true e =
      let f : BegunFacts old.number old.records (facts_in old) (facts_in new) = subst (λ b. cond b (BegunFacts old.number old.records (facts_in old) (facts_in new)) (facts_in new ≡ facts_in old)) e (start_facts catalog old s new t starts) in
      let k : facts_in new ≡ facts_in old ++ fresh_facts (label_at old.number (length (facts_in old) + 1)) f.0 ∷ [] = f.1 ∙ ap (λ n. facts_in old ++ fresh_facts (label_at old.number (n + 1)) f.0 ∷ []) (sym (resting_length old old.at refl new.at e)) in
      inr (record {
        number = starts.number;
        kind = f.0;
        facts = k;
        talks = ap (λ b. cond b (talks ++ [] ∷ []) talks) e;
        opens = opens_nothing;
        asks = asks_next catalog new (talks_from old.at new.at talks) talks_then (facts_in old) (fresh_facts (label_at old.number (length (facts_in old) + 1)) f.0) k;
      })

  pub start_asks : AsksOn (member_of player) (member_of player_then) ⊎ Begins (member_of player) (member_of player_then)
  start_asks = starts_by (has_begun old.at new.at) refl

-- ---- leaving

leave_asks : (catalog : List Table) (old : Session) (talks : List Talk) (new : Session) (t : Turn) → IsBetween old.at → SessionTalks catalog old talks → Leaves old new t → AsksOn (member_of (record { session = old; talks = talks })) (member_of (record { session = new; talks = talks }))
leave_asks catalog old talks new t between h leaves = record {
  number = leaves.number;
  facts = leave_facts old new t leaves;
  talks = refl;
  opens = nothing_opened new.at (leave_opens old new t between leaves);
  asks = asks_next catalog new talks (leave_talks old new t leaves catalog talks h);
}

-- ---- an answer

-- what is no opening comes behind any answer
next_none : (asked : Wish) (got : Got) (f : Facts) (o : Option Wish) → OpensNothing o → OpensNext asked got f o
next_none asked got f None n = tt
next_none asked got f (Some (wish.Mem (call.Open tx m))) n = absurd n
next_none asked got f (Some (wish.Store (call.Open tx m))) n = absurd n
next_none asked got f (Some (wish.Mem (call.Get tx t key))) n = tt
next_none asked got f (Some (wish.Mem (call.Scan tx t))) n = tt
next_none asked got f (Some (wish.Mem (call.Put tx t key row))) n = tt
next_none asked got f (Some (wish.Mem (call.Close tx))) n = tt
next_none asked got f (Some (wish.Mem (call.Stamp tx m))) n = tt
next_none asked got f (Some (wish.Mem (call.Void tx m))) n = tt
next_none asked got f (Some (wish.Mem (call.DropTx tx))) n = tt
next_none asked got f (Some (wish.Mem call.Horizon)) n = tt
next_none asked got f (Some (wish.Mem (call.Records from to))) n = tt
next_none asked got f (Some (wish.Mem (call.Purge upto))) n = tt
next_none asked got f (Some (wish.Store (call.Get tx t key))) n = tt
next_none asked got f (Some (wish.Store (call.Scan tx t))) n = tt
next_none asked got f (Some (wish.Store (call.Put tx t key row))) n = tt
next_none asked got f (Some (wish.Store (call.Close tx))) n = tt
next_none asked got f (Some (wish.Store (call.Stamp tx m))) n = tt
next_none asked got f (Some (wish.Store (call.Void tx m))) n = tt
next_none asked got f (Some (wish.Store (call.DropTx tx))) n = tt
next_none asked got f (Some (wish.Store call.Horizon)) n = tt
next_none asked got f (Some (wish.Store (call.Records from to))) n = tt
next_none asked got f (Some (wish.Store (call.Purge upto))) n = tt
next_none asked got f (Some (wish.Reg w)) n = tt

-- the call that a session waits for, where it waits
abbrev asked_at : At → Wish
asked_at (at.Asking live doing) = wished live doing
asked_at _ = wish.Reg reg.Begin

selected_keeps : (a : ℕ) (found : Selected) (f : Facts) → (facts_after (wish.Reg (reg.Select a)) (given.Reg (told.Selected found)) f).mem ≡ f.mem
selected_keeps a found f = ⊎_elim (λ (t : found.made ≡ true). rw t refl) (λ (n : found.made ≡ false). rw n refl) (cases_Bool found.made)

-- the last facts are those of the live transaction
live_last : (catalog : List Table) (s : Session) (talks : List Talk) (live : Live) (doing : Job) → s.at ≡ at.Asking live doing → SessionTalks catalog s talks → (front : List Facts) (f : Facts) → facts_in s ≡ front ++ f ∷ [] → f ≡ facts_of (record_now live)
live_last catalog s talks live doing e h front f is = go (subst (λ there. HasTalks catalog s.number s.records there talks) e h.0)
  where
    go : HasTalks catalog s.number s.records (at.Asking live doing) talks → f ≡ facts_of (record_now live)
    go k =
        let all : facts_in s ≡ map facts_of k.1.front ++ facts_of (record_now live) ∷ [] =
        ap (λ there. map facts_of (so_far s.records there)) e ∙ ap (λ rs. map facts_of (with_last rs (record_now live))) k.1.records_are ∙ last_facts k.1.front k.1.open_record (record_now live) in
        (same_last front (map facts_of k.1.front) f (facts_of (record_now live)) (sym is ∙ all)).1

module _ (catalog : List Table) (old : Session) (talks : List Talk) (got : Got) (new : Session) (t : Turn) (live : Live) (doing : Job) (is : old.at ≡ at.Asking live doing)
    (h : SessionTalks catalog old talks) (takes : Takes catalog old got new t) (fits : WishFits (wished live doing) got) where
  abbrev pub asked : Wish
  asked = wished live doing

  abbrev pub grows : List Talk
  grows = grown talks (own_call asked got)

  answer_fits : AnswerFits old.at got
  answer_fits = subst (λ there. AnswerFits there got) (sym is) fits

  pub talks_grow : SessionTalks catalog new grows
  talks_grow = subst (λ there. SessionTalks catalog new (grown talks (call_made there got))) is (take_talks catalog old got new t takes talks h answer_fits)

  asks : AsksFor (facts_in old) live.label asked
  asks = subst (AsksAt (facts_in old)) is (asks_right catalog old talks h)

  last : LastLive catalog old.number old.records talks live.label (subst (λ there. HasTalks catalog old.number old.records there talks) is h.0).0
  last = (subst (λ there. HasTalks catalog old.number old.records there talks) is h.0).1

  abbrev gained : Facts
  gained = facts_after asked got asks.last

  facts_grow : facts_in new ≡ asks.before ++ gained ∷ []
  facts_grow = take_facts catalog old got new t takes talks h answer_fits ∙ ap (λ there. last_changed (facts_taken there got) (facts_in old)) is ∙ ap (last_changed (facts_after asked got)) asks.all_are ∙ change_last (facts_after asked got) asks.before asks.last

  next_fits : AsksNext gained (waited new.at)
  next_fits = asks_next catalog new grows talks_grow asks.before gained facts_grow

  counts_at : (x : Live) (e : EngineName) → old.at ≡ at.Asking x job.Count → first_engine x.kind ≡ e → asked ≡ counter_wish e
  counts_at x e c is_first =
      let same : at.Asking live doing ≡ at.Asking x job.Count = sym is ∙ c in
      ap (λ there. asked_at there) same ∙ ap counter_wish is_first

  opens_by : (there : At) → new.at ≡ there → OpensAt old.at got there → OpensNext asked got gained (waited there)
  opens_by at.Outside e o = tt
  opens_by (at.Inside x) e o = tt
  opens_by (at.Stepping x c) e o = tt
  opens_by at.Ended e o = tt
  opens_by (at.Asking x (job.Open Mem n)) e o = (counts_at o.0 Mem o.1 o.2, o.3, (subst (λ there. AsksNext gained (waited there)) e next_fits).1)
  opens_by (at.Asking x (job.Open Store n)) e o = by x.mem refl o
    where
      mem_is : gained.mem ≡ x.mem
      mem_is = ap (λ (f : Facts). f.mem) (live_last catalog new grows x (job.Open Store n) e talks_grow asks.before gained facts_grow)

      by : (m : Option ℕ) → x.mem ≡ m → OpensBy old.at got m Store n → OpensNext asked got gained (Some (wish.Store (call.Open x.label n)))
      by None none k = inl (counts_at k.0 Store k.1 k.2, k.3, mem_is ∙ none)
      by (Some a) some k =
          let same : at.Asking live doing ≡ at.Asking k.0 job.Select = sym is ∙ k.2 in
          let chosen : asked ≡ wish.Reg (reg.Select (number_or_none k.0.mem)) = ap (λ there. asked_at there) same in
          let mem : asks.last.mem ≡ Some (number_or_none k.0.mem) = (subst (FitsFacts asks.last) chosen asks.fits).0 in
          inr (number_or_none k.0.mem, k.1, chosen, k.3, k.4, ap (λ w. (facts_after w got asks.last).mem) chosen ∙ ap (λ g. (facts_after (wish.Reg (reg.Select (number_or_none k.0.mem))) g asks.last).mem) k.3 ∙ selected_keeps (number_or_none k.0.mem) k.1 asks.last ∙ mem)
  opens_by (at.Asking x job.Count) e o = next_none asked got gained (waited (at.Asking x job.Count)) (nothing_opened (at.Asking x job.Count) (λ i. i))
  opens_by (at.Asking x job.Select) e o = next_none asked got gained (waited (at.Asking x job.Select)) (nothing_opened (at.Asking x job.Select) (λ i. i))
  opens_by (at.Asking x (job.Read f u key)) e o = next_none asked got gained (waited (at.Asking x (job.Read f u key))) (nothing_opened (at.Asking x (job.Read f u key)) (λ i. i))
  opens_by (at.Asking x (job.Put f writes done r)) e o = next_none asked got gained (waited (at.Asking x (job.Put f writes done r))) (nothing_opened (at.Asking x (job.Put f writes done r)) (λ i. i))
  opens_by (at.Asking x (job.Commit c whole own)) e o = next_none asked got gained (waited (at.Asking x (job.Commit c whole own))) (nothing_opened (at.Asking x (job.Commit c whole own)) (λ i. i))
  opens_by (at.Asking x (job.Leave f how r lost)) e o = next_none asked got gained (waited (at.Asking x (job.Leave f how r lost))) (nothing_opened (at.Asking x (job.Leave f how r lost)) (λ i. i))

  pub takes_call : run.Takes (member_of (record { session = old; talks = talks })) asked got (member_of (record { session = new; talks = grows }))
  takes_call = record {
    waits = ap waited is;
    fits = fits;
    number = takes.number;
    front = asks.before;
    last = asks.last;
    before = last.before;
    talk = (subst (λ there. HasTalks catalog old.number old.records there talks) is h.0).0;
    facts = asks.all_are;
    talks = last.talks_are;
    facts_then = facts_grow;
    talks_then = ap (λ ts. grown ts (own_call asked got)) last.talks_are ∙ grown_seam last.before (subst (λ there. HasTalks catalog old.number old.records there talks) is h.0).0 (own_call asked got);
    own = subst (λ l. AreBy l (own_call asked got)) (sym asks.label_is) (asks.by got);
    opens = opens_by new.at refl (subst (λ there. OpensAt old.at got there) refl (take_opens catalog old got new t takes talks h answer_fits));
    asks = next_fits;
  }

-- ---- the turn

-- what a session has come to: it waits for a call that it asks for, or it has said its reply
abbrev pub TurnAt : At → Turn → Type 0
TurnAt (at.Asking live doing) t = t ≡ turn.Ask (wished live doing)
TurnAt _ t = (r : Reply) × (t ≡ turn.Said r)

turn_at : (most n : ℕ) (there : At) (t : Turn) → Within most n there t → ((live : Live) (doing : Job) → there ≡ at.Asking live doing → t ≡ turn.Ask (wished live doing)) → TurnAt there t
turn_at most n (at.Asking live doing) t w asks = asks live doing refl
turn_at most n at.Outside (turn.Said r) w asks = (r, refl)
turn_at most n at.Outside (turn.Ask a) w asks = absurd w
turn_at most n (at.Inside live) (turn.Said r) w asks = (r, refl)
turn_at most n (at.Inside live) (turn.Ask a) w asks = absurd w
turn_at most n (at.Stepping live c) (turn.Said r) w asks = (r, refl)
turn_at most n (at.Stepping live c) (turn.Ask a) w asks = absurd w
turn_at most n at.Ended (turn.Said r) w asks = (r, refl)
turn_at most n at.Ended (turn.Ask a) w asks = absurd w

-- behind a statement
pub start_turn : (catalog : List Table) (old : Session) (talks : List Talk) (s : Option Statement) (new : Session) (t : Turn) → IsBetween old.at → SessionTalks catalog old talks → Starts catalog old s new t → TurnAt new.at t
start_turn catalog old talks s new t between h starts = turn_at 0 (0 + 14) new.at t (starts_within 0 catalog old.number old.records old.at s _ starts.moves) (λ live doing e. go live doing e old.at refl)
  where
    go : (live : Live) (doing : Job) → new.at ≡ at.Asking live doing → (there : At) → old.at ≡ there → t ≡ turn.Ask (wished live doing)
    go live doing e at.Outside o = (subst (BegunAt catalog old.records (label_after old.number old.records) (moved_to new t)) e (subst (λ x. StartKept catalog old.number old.records x (moved_to new t)) o (starts_keep catalog old s new t starts))).3
    go live doing e at.Ended o = (subst (BegunAt catalog old.records (label_after old.number old.records) (moved_to new t)) e (subst (λ x. StartKept catalog old.number old.records x (moved_to new t)) o (starts_keep catalog old s new t starts))).3
    go live doing e (at.Inside x) o =
        let k : HasTalks catalog old.number old.records (at.Inside x) talks = subst (λ y. HasTalks catalog old.number old.records y talks) o h.0 in
        (subst (λ y. SpeaksAt catalog old.records x.label new.records y t k.0) e (subst (λ y. StartKept catalog old.number old.records y (moved_to new t)) o (starts_keep catalog old s new t starts) k.0 k.2)).3
    go live doing e (at.Stepping x c) o =
        let k : HasTalks catalog old.number old.records (at.Stepping x c) talks = subst (λ y. HasTalks catalog old.number old.records y talks) o h.0 in
        (subst (λ y. SpeaksAt catalog old.records x.label new.records y t k.0) e (subst (λ y. StartKept catalog old.number old.records y (moved_to new t)) o (starts_keep catalog old s new t starts) k.0 k.2)).3
    go live doing e (at.Asking x d) o = absurd (subst IsBetween o between)

-- as a session is left
pub leave_turn : (old new : Session) (t : Turn) → IsBetween old.at → Leaves old new t → TurnAt new.at t
leave_turn old new t between leaves = turn_at 0 3 new.at t (leaves_within 0 old.records old.at _ leaves.moves) (leave_waits old new t between leaves)

-- behind an answer
pub take_turn : (catalog : List Table) (old : Session) (talks : List Talk) (got : Got) (new : Session) (t : Turn) (live : Live) (doing : Job) → old.at ≡ at.Asking live doing → SessionTalks catalog old talks → WishFits (wished live doing) got → is_early got ≡ false → Takes catalog old got new t
    → TurnAt new.at t
take_turn catalog old talks got new t live doing is h fits late takes = turn_at 0 (0 + 14) new.at t (takes_left 0 catalog old new (wished live doing) t got (job_left 0 doing + 1) within late takes) asks
  where
    within : Within 0 (job_left 0 doing + 1) old.at (turn.Ask (wished live doing))
    within = subst (λ there. Within 0 (job_left 0 doing + 1) there (turn.Ask (wished live doing))) (sym is) (refl, omega arith)

    k : HasTalks catalog old.number old.records (at.Asking live doing) talks
    k = subst (λ y. HasTalks catalog old.number old.records y talks) is h.0

    asks : (x : Live) (d : Job) → new.at ≡ at.Asking x d → t ≡ turn.Ask (wished x d)
    asks x d e = (subst (λ y. SpeaksAt catalog old.records live.label new.records y t (k.0 ++ own_call (wished live doing) got)) e (subst (λ y. TakeKept catalog old.records y got (moved_to new t)) is (takes_keep catalog old got new t takes) k.0 k.2 fits)).3

-- who has said its reply asks for nothing
pub said_asks : {w : Wish} → ((r : Reply) × (turn.Ask w ≡ turn.Said r)) → ⊥
said_asks (r, q) = cc

-- and is between two lines
said_between : (there : At) (r : Reply) → TurnAt there (turn.Said r) → IsBetween there
said_between at.Outside r h = tt
said_between (at.Inside live) r h = tt
said_between (at.Stepping live c) r h = tt
said_between at.Ended r h = tt
said_between (at.Asking live doing) r h = absurd (clash h)
  where
    clash : turn.Said r ≡ turn.Ask (wished live doing) → ⊥
    clash e = cc

-- ---- a line

map_append : {X Y : Type 0} (f : X → Y) (xs : List X) (x : X) (ys : List X) → map f (xs ++ x ∷ ys) ≡ map f xs ++ f x ∷ map f ys
map_append f [] x ys = refl
map_append f (z ∷ zs) x ys = ap (λ rest. f z ∷ rest) (map_append f zs x ys)

module _ {D : Type 0} (answers : D → Wish → Got → D → Type 0) (stands : D → Common → Type 0) (right : AnswersRight answers stands) (catalog : List Table) (first : Point) (before after : List Player) where
  abbrev with_session : Session → List Talk → List Player
  with_session s talks = before ++ record { session = s; talks = talks } ∷ after

  -- all but this session
  abbrev Others : Type 0
  Others = Each (λ (p : Player). SessionTalks catalog p.session p.talks) (before ++ after)

  talks_of : (s : Session) (talks : List Talk) → Each (λ (p : Player). SessionTalks catalog p.session p.talks) (with_session s talks) → Others × SessionTalks catalog s talks
  talks_of s talks h = (each_others (λ (p : Player). SessionTalks catalog p.session p.talks) before _ after h, each_focus (λ (p : Player). SessionTalks catalog p.session p.talks) before _ after h)

  run_of : (points : List Point) (c : Common) (s : Session) (talks : List Talk) → IsRunning first points c (map member_of before ++ member_of (record { session = s; talks = talks }) ∷ map member_of after) → Others → SessionTalks catalog s talks → IsRun catalog first points c (with_session s talks)
  run_of points c s talks r others h = record {
    running = subst (IsRunning first points c) (sym (map_append member_of before (record { session = s; talks = talks }) after)) r;
    talks = each_middle (λ (p : Player). SessionTalks catalog p.session p.talks) before (record { session = s; talks = talks }) after others h;
  }

  running_of : (points : List Point) (c : Common) (s : Session) (talks : List Talk) → IsRun catalog first points c (with_session s talks) → IsRunning first points c (map member_of before ++ member_of (record { session = s; talks = talks }) ∷ map member_of after)
  running_of points c s talks r = subst (IsRunning first points c) (map_append member_of before (record { session = s; talks = talks }) after) r.running

  -- what the calls that are left come to
  abbrev Rest : List Exchange → Session → Turn → D → Type 0
  Rest made end last desk = (points : List Point) (c : Common) (s : Session) (t : Turn) (talks : List Talk) (d : D) → Exchanges answers catalog s t d made end last desk → TurnAt s.at t → stands d c → IsRun catalog first points c (with_session s talks)
      → GoesOn stands catalog first points c before end after desk × TurnAt end.at last

  one_more : (e : Exchange) (made : List Exchange) (end : Session) (last : Turn) (desk : D) → Rest made end last desk → (points : List Point) (c : Common) (s : Session) (t : Turn) (talks : List Talk) (d : D) → Exchanges answers catalog s t d (e ∷ made) end last desk
      → stands d c → IsRun catalog first points c (with_session s talks) → (there : At) → s.at ≡ there → TurnAt s.at (turn.Ask e.wish) → GoesOn stands catalog first points c before end after desk × TurnAt end.at last
  one_more e made end last desk rest points c s t talks d x stood r at.Outside is k = absurd (said_asks (subst (λ y. TurnAt y (turn.Ask e.wish)) is k))
  one_more e made end last desk rest points c s t talks d x stood r (at.Inside live) is k = absurd (said_asks (subst (λ y. TurnAt y (turn.Ask e.wish)) is k))
  one_more e made end last desk rest points c s t talks d x stood r (at.Stepping live y) is k = absurd (said_asks (subst (λ y. TurnAt y (turn.Ask e.wish)) is k))
  one_more e made end last desk rest points c s t talks d x stood r at.Ended is k = absurd (said_asks (subst (λ y. TurnAt y (turn.Ask e.wish)) is k))
  one_more e made end last desk rest points c s t talks d x stood r (at.Asking live doing) is k =
      let same : e.wish ≡ wished live doing = asks_same (subst (λ y. TurnAt y (turn.Ask e.wish)) is k) in
      let fits : WishFits (wished live doing) e.got = subst (λ w. WishFits w e.got) same x.1 in
      let has : Others × SessionTalks catalog s talks = talks_of s talks r.talks in
      let a : (c' : Common) × Answered c e.wish e.got c' × stands x.5 c' = right d e.wish e.got x.5 x.6 c stood in
      let takes : Takes catalog s e.got x.3 x.4 = x.7 in
      let call : (more : List Point) × IsRunning first (points ++ more) a.0 (map member_of before ++ member_of (record { session = x.3; talks = grown talks (own_call (wished live doing) e.got) }) ∷ map member_of after) =
      call_keeps first points c a.0 (map member_of before) (member_of (record { session = s; talks = talks })) (member_of (record { session = x.3; talks = grown talks (own_call (wished live doing) e.got) })) (map member_of after) (wished live doing) e.got
      (running_of points c s talks r) (takes_call catalog s talks e.got x.3 x.4 live doing is has.1 takes fits) (subst (λ w. Answered c w e.got a.0) same a.1) in
      let then : GoesOn stands catalog first (points ++ call.0) a.0 before end after desk × TurnAt end.at last =
      rest (points ++ call.0) a.0 x.3 x.4 (grown talks (own_call (wished live doing) e.got)) x.5 x.8
      (take_turn catalog s talks e.got x.3 x.4 live doing is has.1 fits x.2 takes) a.2
      (run_of (points ++ call.0) a.0 x.3 (grown talks (own_call (wished live doing) e.got)) call.1 has.0 (talks_grow catalog s talks e.got x.3 x.4 live doing is has.1 takes fits)) in (
        record {
          common = then.0.common;
          stood = then.0.stood;
          begun = then.0.begun ∙ a.1.first;
          more = call.0 ++ then.0.more;
          talks = then.0.talks;
          run = subst (λ ps. IsRun catalog first ps then.0.common (with_session end then.0.talks)) (append_assoc points call.0 then.0.more) then.0.run;
        },
        then.1,
      )
    where
      asks_same : turn.Ask e.wish ≡ turn.Ask (wished live doing) → e.wish ≡ wished live doing
      asks_same q = cc

  -- the calls of a line, one after another
  exchanges_keep : (made : List Exchange) (points : List Point) (c : Common) (s : Session) (t : Turn) (talks : List Talk) (d : D) (end : Session) (last : Turn) (desk : D)
      → Exchanges answers catalog s t d made end last desk → TurnAt s.at t → stands d c → IsRun catalog first points c (with_session s talks)
      → GoesOn stands catalog first points c before end after desk × TurnAt end.at last
  exchanges_keep [] points c s t talks d end last desk x at_turn stood r = (
    record {
      common = c;
      stood = subst (λ y. stands y c) (sym x.2) stood;
      begun = refl;
      more = [];
      talks = talks;
      run = subst (λ ps. IsRun catalog first ps c (with_session end talks)) (sym (append-nil points)) (subst (λ y. IsRun catalog first points c (with_session y talks)) (sym x.0) r);
    },
    subst (λ y. TurnAt y.at last) (sym x.0) (subst (TurnAt s.at) (sym x.1) at_turn),
  )
  exchanges_keep (e ∷ made) points c s t talks d end last desk x at_turn stood r =
      one_more e made end last desk (λ ps k y u ts f z v w q. exchanges_keep made ps k y u ts f end last desk z v w q) points c s t talks d x stood r s.at refl (subst (TurnAt s.at) x.0 at_turn)

  -- what a session began with, it was carried on with until it replied
  carried_on : (points : List Point) (c : Common) (old : Session) (talks : List Talk) (begun : Session) (asked : Turn) (grows : List Talk) (desk : D) (new : Session) (said : Reply) (desk_then : D)
      → (SessionTalks catalog old talks → SessionTalks catalog begun grows × (AsksOn (member_of (record { session = old; talks = talks })) (member_of (record { session = begun; talks = grows })) ⊎ Begins (member_of (record { session = old; talks = talks })) (member_of (record { session = begun; talks = grows }))) × TurnAt begun.at asked)
      → stands desk c → IsRun catalog first points c (with_session old talks) → Replied answers catalog begun asked desk new desk_then said
      → GoesOn stands catalog first points c before new after desk_then × IsBetween new.at
  carried_on points c old talks begun asked grows desk new said desk_then begins stood r x =
      let has : Others × SessionTalks catalog old talks = talks_of old talks r.talks in
      let b : SessionTalks catalog begun grows × (AsksOn (member_of (record { session = old; talks = talks })) (member_of (record { session = begun; talks = grows })) ⊎ Begins (member_of (record { session = old; talks = talks })) (member_of (record { session = begun; talks = grows }))) × TurnAt begun.at asked = begins has.1 in
      let start : IsRunning first points c (map member_of before ++ member_of (record { session = begun; talks = grows }) ∷ map member_of after) =
      asks_keep first points c (map member_of before) (member_of (record { session = old; talks = talks })) (member_of (record { session = begun; talks = grows })) (map member_of after) (running_of points c old talks r) b.1 in
      let all : GoesOn stands catalog first points c before new after desk_then × TurnAt new.at (turn.Said said) = exchanges_keep x.made points c begun asked grows desk new (turn.Said said) desk_then x.goes b.2 stood (run_of points c begun grows start has.0 b.0) in
      (all.0, said_between new.at said all.1)

pub lines_keep : {D : Type 0} (answers : D → Wish → Got → D → Type 0) (stands : D → Common → Type 0) → LinesKeep answers stands
lines_keep {D = D} answers stands right catalog first points c before old talks after desk s new desk_then said stood r between x =
    carried_on answers stands right catalog first before after points c old talks x.first x.asked (talks_from old.at x.first.at talks) desk new said desk_then
    (λ h. (start_talks catalog old s x.first x.asked x.starts talks h, start_asks catalog old talks s x.first x.asked between h x.starts, start_turn catalog old talks s x.first x.asked between h x.starts)) stood r x.replied

pub leaves_keep : {D : Type 0} (answers : D → Wish → Got → D → Type 0) (stands : D → Common → Type 0) → LeavesKeep answers stands
leaves_keep {D = D} answers stands right catalog first points c before old talks after desk new desk_then said stood r between x =
    carried_on answers stands right catalog first before after points c old talks x.first x.asked talks desk new said desk_then
    (λ h. (leave_talks old x.first x.asked x.leaves catalog talks h, inl (leave_asks catalog old talks x.first x.asked between h x.leaves), leave_turn old x.first x.asked between x.leaves)) stood r x.replied
