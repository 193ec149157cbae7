-- A line of a session, with all calls that were made for it: what the records say that the registry refused, it refused.
use Rattle.std.specs.Prelude.{◌≡◌, List, [], ◌∷◌, ◌++◌, Option, false}
use Rattle.std.proofs.Common.{refl, sym, ap, subst, ◌∙◌}
use Rattle.std.proofs.lemmas.List.{append_assoc, append-nil}
use Rattle.sk_rows.specs.declared.table.Table.{Table}
use Rattle.sk_rows.specs.declared.statement.Statement.{Statement}
use Rattle.sk_model.specs.declared.reply.Reply.{Reply}
use Rattle.sk_model.specs.Talks.{Talk}
use Rattle.sk_model.proofs.Lists.{Each, each_append, each_weaker}
use Rattle.sk_weave.specs.Registry.{IsSound}
use Rattle.sk_commit.specs.declared.asking.Wish.{Wish}
use Rattle.sk_commit.specs.declared.asking.Got.{Got}
use Rattle.sk_commit.specs.Fits.{WishFits, own_call}
use Rattle.sk_session.specs.declared.turn.Turn.{Turn}
use Rattle.sk_session.specs.declared.turn.Turn.TheVariants as turn
use Rattle.sk_session.specs.declared.live.Live.{Live}
use Rattle.sk_session.specs.declared.live.Job.{Job}
use Rattle.sk_session.specs.declared.live.At.{At}
use Rattle.sk_session.specs.declared.live.At.TheVariants as at
use Rattle.sk_session.specs.declared.session.Session.{Session}
use Rattle.sk_session.specs.Moving.{wished}
use Rattle.sk_session.specs.Starting.{Starts, Takes, Leaves}
use Rattle.sk_session.specs.EachTalk.{grown, talks_from, SessionTalks, AnswerFits, IsBetween}
use Rattle.sk_session.specs.Conversing.{is_early, Exchange, Exchanges, Replied, Conversed, HasLeft}
use Rattle.sk_session.specs.Common.{Common, Answered}
use Rattle.sk_session.specs.Denied.{HeardAt, SessionDenied}
use Rattle.sk_session.proofs.Recorded.{take_talks, start_talks, leave_talks}
use Rattle.sk_session.proofs.Denying.{takes_are_denied, starts_are_denied, leaves_are_denied, denied_by_more}
use Rattle.sk_kept.specs.Sessions.{Player, IsRun, AnswersRight, GoesOn}
use Rattle.sk_kept.proofs.Sessions.{TurnAt, start_turn, leave_turn, take_turn, said_asks, lines_keep, leaves_keep}
use Rattle.sk_recorded.specs.Growing.{Grows, HeardBy, StandsGrown, LinesKeepGrowing, LeavesKeepGrowing}
use Rattle.sk_recorded.proofs.Grown.{regs_grow_on, grows_none, grows_more, answered_grows}

-- ---- the calls of a line

module _ {D : Type 0} (answers : D → Wish → Got → D → Type 0) (catalog : List Table) (Heard : Wish → Got → Type 0) (end : Session) (last : Turn) (desk : D) where
  -- where each call that is left was heard
  abbrev AllHeard : List Exchange → Type 0
  AllHeard made = Each (λ (x : Exchange). Heard x.wish x.got) made

  abbrev Rest : List Exchange → Type 0
  Rest made = (s : Session) (t : Turn) (d : D) (talks : List Talk) → Exchanges answers catalog s t d made end last desk → TurnAt s.at t → SessionTalks catalog s talks → AllHeard made → SessionDenied Heard s → SessionDenied Heard end

  one_more : (e : Exchange) (made : List Exchange) → Rest made → (s : Session) (t : Turn) (d : D) (talks : List Talk) → Exchanges answers catalog s t d (e ∷ made) end last desk → SessionTalks catalog s talks → AllHeard (e ∷ made) → SessionDenied Heard s
      → (there : At) → s.at ≡ there → TurnAt there (turn.Ask e.wish) → SessionDenied Heard end
  one_more e made rest s t d talks x h heard k at.Outside is asks = absurd (said_asks asks)
  one_more e made rest s t d talks x h heard k at.Ended is asks = absurd (said_asks asks)
  one_more e made rest s t d talks x h heard k (at.Inside live) is asks = absurd (said_asks asks)
  one_more e made rest s t d talks x h heard k (at.Stepping live c) is asks = absurd (said_asks asks)
  one_more e made rest s t d talks x h heard k (at.Asking live doing) is asks =
      let same : e.wish ≡ wished live doing = asks_same asks in
      let fits : WishFits (wished live doing) e.got = subst (λ w. WishFits w e.got) same x.1 in
      let answer_fits : AnswerFits s.at e.got = subst (λ there. AnswerFits there e.got) (sym is) fits in
      let heard_at : HeardAt Heard s.at e.got = subst (λ there. HeardAt Heard there e.got) (sym is) (subst (λ w. Heard w e.got) same heard.0) in
      let takes : Takes catalog s e.got x.3 x.4 = x.7 in
      rest x.3 x.4 x.5 _ x.8 (take_turn catalog s talks e.got x.3 x.4 live doing is h fits x.2 takes) (take_talks catalog s e.got x.3 x.4 takes talks h answer_fits) heard.1
      (takes_are_denied Heard catalog s e.got x.3 x.4 talks takes h answer_fits heard_at k)
    where
      asks_same : turn.Ask e.wish ≡ turn.Ask (wished live doing) → e.wish ≡ wished live doing
      asks_same q = cc

  pub exchanges_deny : (made : List Exchange) → Rest made
  exchanges_deny [] s t d talks x asks h heard k = subst (SessionDenied Heard) (sym x.0) k
  exchanges_deny (e ∷ made) s t d talks x asks h heard k = one_more e made (exchanges_deny made) s t d talks x h heard k s.at refl (subst (TurnAt s.at) x.0 asks)

-- ---- a desk with the list of the calls that were made

-- what was heard stays heard
pub heard_on : (c d : Common) → Grows c d → (asked : Wish) (got : Got) → HeardBy c asked got → HeardBy d asked got
heard_on c d g asked got h = record { was = h.was; sound = h.sound; grown = regs_grow_on h.was c.regs d.regs h.grown g.regs; next = h.next; answered = h.answered }

module _ {D : Type 0} (answers : D → Wish → Got → D → Type 0) (stands : D → Common → Type 0) (right : AnswersRight answers stands) (catalog : List Table) (c : Common) where
  abbrev Logged : Type 0
  Logged = D × List Exchange

  abbrev AnswersLog : Logged → Wish → Got → Logged → Type 0
  AnswersLog x asked got y = answers x.0 asked got y.0 × (y.1 ≡ x.1 ++ record { wish = asked; got = got } ∷ [])

  abbrev StandsLog : Logged → Common → Type 0
  StandsLog x e = stands x.0 e × Grows c e × IsSound e.regs × Each (λ (k : Exchange). HeardBy e k.wish k.got) x.1

  right_log : AnswersRight AnswersLog StandsLog
  right_log old asked got new a d st =
      let k : (e : Common) × Answered d asked got e × stands new.0 e = right old.0 asked got new.0 a.0 d st.0 in
      let g : Grows d k.0 = answered_grows d k.0 asked got k.1 in
      let here : HeardBy k.0 asked got = record { was = d.regs; sound = st.2; grown = g.regs; next = k.0.regs; answered = k.1.regs } in (
        k.0,
        k.1,
        (
          k.2,
          grows_more c d k.0 st.1 g,
          k.1.common.sound,
          subst (Each (λ (x : Exchange). HeardBy k.0 x.wish x.got)) (sym a.1)
              (each_append (λ (x : Exchange). HeardBy k.0 x.wish x.got) old.1 (record { wish = asked; got = got } ∷ [])
              (each_weaker (λ (x : Exchange). HeardBy d x.wish x.got) (λ (x : Exchange). HeardBy k.0 x.wish x.got) (λ x h. heard_on d k.0 g x.wish x.got h) old.1 st.3) (here, tt)),
        ),
      )

  logged : (made : List Exchange) (s : Session) (t : Turn) (d : D) (log : List Exchange) (end : Session) (last : Turn) (desk : D) → Exchanges answers catalog s t d made end last desk → Exchanges AnswersLog catalog s t (d, log) made end last (desk, log ++ made)
  logged [] s t d log end last desk x = (x.0, x.1, λ i. (x.2 i, append-nil log i))
  logged (e ∷ made) s t d log end last desk x = (
    x.0,
    x.1,
    x.2,
    x.3,
    x.4,
    (x.5, log ++ e ∷ []),
    (x.6, refl),
    x.7,
    subst (λ (l : List Exchange). Exchanges AnswersLog catalog x.3 x.4 (x.5, log ++ e ∷ []) made end last (desk, l)) (append_assoc log (e ∷ []) made) (logged made x.3 x.4 x.5 (log ++ e ∷ []) end last desk x.8),
  )

  replied_log : (first : Session) (asked : Turn) (desk : D) (new : Session) (after : D) (said : Reply) (x : Replied answers catalog first asked desk new after said) → Replied AnswersLog catalog first asked (desk, []) new (after, x.made) said
  replied_log first asked desk new after said x = record { made = x.made; goes = logged x.made first asked desk [] new (turn.Said said) after x.goes; talks = x.talks; says = x.says }

  -- the desk stands for what c has grown to, without the list
  goes_without : {desk : Logged} (first : _) (points : _) (before : List Player) (new : Session) (after : List Player) → GoesOn StandsLog catalog first points c before new after desk → GoesOn (StandsGrown stands c) catalog first points c before new after desk.0
  goes_without first points before new after g = record { common = g.common; stood = (g.stood.0, g.stood.1); begun = g.begun; more = g.more; talks = g.talks; run = g.run }

  -- what was refused before, and what was heard of the line
  denied_then : (e : Common) → Grows c e → (first : Session) (asked : Turn) (talks : List Talk) (desk : D) (new : Session) (after : D) (said : Reply) (x : Replied answers catalog first asked desk new after said) → Each (λ (k : Exchange). HeardBy e k.wish k.got) x.made
      → TurnAt first.at asked → SessionTalks catalog first talks → SessionDenied (HeardBy e) first → SessionDenied (HeardBy e) new
  denied_then e g first asked talks desk new after said x heard asks h k = exchanges_deny answers catalog (HeardBy e) new (turn.Said said) after x.made first asked desk talks x.goes asks h heard k

own_talks : {D : Type 0} (answers : D → Wish → Got → D → Type 0) (catalog : List Table) (before : List Player) (old : Session) (talks : List Talk) (after : List Player) → Each (λ (p : Player). SessionTalks catalog p.session p.talks) (before ++ record { session = old; talks = talks } ∷ after) → SessionTalks catalog old talks
own_talks answers catalog [] old talks after h = h.0
own_talks answers catalog (p ∷ before) old talks after h = own_talks answers catalog before old talks after h.1

pub lines_keep_growing : {D : Type 0} (answers : D → Wish → Got → D → Type 0) (stands : D → Common → Type 0) → LinesKeepGrowing answers stands
unfolding goes_without
lines_keep_growing {D = D} answers stands right catalog first points c before old talks after desk s new desk_then said stood r between x =
    let y : Conversed (AnswersLog answers stands right catalog c) catalog old (desk, []) s new (desk_then, x.replied.made) said =
    record { first = x.first; asked = x.asked; starts = x.starts; begins = x.begins; replied = replied_log answers stands right catalog c x.first x.asked desk new desk_then said x.replied } in
    let k = lines_keep (AnswersLog answers stands right catalog c) (StandsLog answers stands right catalog c) (right_log answers stands right catalog c) catalog first points c before old talks after (desk, []) s new (desk_then, x.replied.made) said (stood, grows_none c, r.running.held.common.sound, tt) r between y in
    let h : SessionTalks catalog old talks = own_talks answers catalog before old talks after r.talks in (
      goes_without answers stands right catalog c first points before new after k.0,
      k.1,
      λ d.
          denied_then answers stands right catalog c k.0.common k.0.stood.1 x.first x.asked _ desk new desk_then said x.replied k.0.stood.3 (start_turn catalog old talks s x.first x.asked between h x.starts) (start_talks catalog old s x.first x.asked x.starts talks h)
          (starts_are_denied (HeardBy k.0.common) catalog old s x.first x.asked talks x.starts h (denied_by_more (HeardBy c) (HeardBy k.0.common) (heard_on c k.0.common k.0.stood.1) old d)),
    )

pub leaves_keep_growing : {D : Type 0} (answers : D → Wish → Got → D → Type 0) (stands : D → Common → Type 0) → LeavesKeepGrowing answers stands
unfolding goes_without
leaves_keep_growing {D = D} answers stands right catalog first points c before old talks after desk new desk_then said stood r between x =
    let y : HasLeft (AnswersLog answers stands right catalog c) catalog old (desk, []) new (desk_then, x.replied.made) said =
    record { first = x.first; asked = x.asked; leaves = x.leaves; keeps = x.keeps; replied = replied_log answers stands right catalog c x.first x.asked desk new desk_then said x.replied } in
    let k = leaves_keep (AnswersLog answers stands right catalog c) (StandsLog answers stands right catalog c) (right_log answers stands right catalog c) catalog first points c before old talks after (desk, []) new (desk_then, x.replied.made) said (stood, grows_none c, r.running.held.common.sound, tt) r between y in
    let h : SessionTalks catalog old talks = own_talks answers catalog before old talks after r.talks in (
      goes_without answers stands right catalog c first points before new after k.0,
      k.1,
      λ d.
          denied_then answers stands right catalog c k.0.common k.0.stood.1 x.first x.asked _ desk new desk_then said x.replied k.0.stood.3 (leave_turn old x.first x.asked between x.leaves) (leave_talks old x.first x.asked x.leaves catalog talks h)
          (leaves_are_denied (HeardBy k.0.common) catalog old x.first x.asked talks x.leaves h (denied_by_more (HeardBy c) (HeardBy k.0.common) (heard_on c k.0.common k.0.stood.1) old d)),
    )
