-- A line of one session keeps what the run has kept.
use Rattle.std.specs.Prelude.{◌≡◌, ℕ, ◌+◌, ◌-◌, ◌<◌, ◌≤◌, List, [], ◌∷◌, ◌++◌, Option, None, length, map}
use Rattle.std.proofs.Common.{sym, ap, subst, ◌∙◌, arith}
use Rattle.std.proofs.Math.Seq.{get_or-append_seam, set-append_seam}
use Rattle.std.proofs.Math.ListN.{get_or, set}
use Rattle.std.proofs.lemmas.List.{map-append, length-map, length-set}
use Rattle.sk_rows.specs.declared.table.Table.{Table}
use Rattle.sk_rows.specs.Catalog.{IsCatalog}
use Rattle.sk_rows.specs.declared.statement.Statement.{Statement}
use Rattle.sk_model.specs.declared.engine.EngineName.{EngineName}
use Rattle.sk_model.specs.declared.point.Point.{Point}
use Rattle.sk_model.specs.declared.reply.Reply.{Reply}
use Rattle.sk_model.specs.declared.call.Entry.{Entry}
use Rattle.sk_model.specs.Database.{Tables}
use Rattle.sk_model.specs.Engine.{EngineTable, engine_at}
use Rattle.sk_model.specs.Talks.{Talk}
use Rattle.sk_model.proofs.Lists.{Each, each_append, each_weaker}
use Rattle.sk_linked.specs.Reads.{number_at}
use Rattle.sk_linked.specs.Traces.{In}
use Rattle.sk_linked.proofs.Members.{in_front}
use Rattle.sk_store.specs.Loading.{AreOpeningRows}
use Rattle.sk_mem.specs.declared.engine.MemEngine.{MemEngine}
use Rattle.sk_store.specs.declared.engine.StoreEngine.{StoreEngine}
use Rattle.sk_commit.specs.declared.asking.Wish.{Wish}
use Rattle.sk_commit.specs.declared.asking.Got.{Got}
use Rattle.sk_session.specs.declared.turn.Turn.{Turn}
use Rattle.sk_session.specs.declared.session.Session.{Session}
use Rattle.sk_session.specs.EachTalk.{IsBetween}
use Rattle.sk_session.specs.Conversing.{Exchange, Exchanges, Conversed, HasLeft}
use Rattle.sk_session.specs.Printed.{LinePrints}
use Rattle.sk_session.specs.Over.{OverStays}
use Rattle.sk_session.specs.Common.{Common}
use Rattle.sk_session.specs.Denied.{SessionDenied}
use Rattle.sk_session.proofs.Denying.{denied_by_more}
use Rattle.sk_shared.specs.Shared.{Stands, Answers}
use Rattle.sk_kept.specs.Sessions.{Player, IsRun, AnswersRight, GoesOn}
use Rattle.sk_kept.proofs.Middles.{each_others, each_focus, each_middle}
use Rattle.sk_recorded.specs.Flushes.{Flush, AllFlush}
use Rattle.sk_recorded.specs.Growing.{Grows, HeardBy, StandsGrown}
use Rattle.sk_recorded.proofs.Growing.{flushes_stay}
use Rattle.sk_recorded.proofs.Denied.{heard_on, lines_keep_growing, leaves_keep_growing}
use Rattle.sk_run.specs.Told.{RunLine, IsShort, AreTold}
use Rattle.sk_run.specs.Kept.{KeepsOn}
use Rattle.sk_run.specs.State.{RunState}
use Rattle.sk_run.specs.Over.{HaveSome}
use Rattle.sk_run.proofs.Lines.{line_by, told_on}
use Rattle.sk_run.proofs.Over.{Middle, middle_of, some_on}

-- ---- the number of a session stays

module _ {D : Type 0} (answers : D → Wish → Got → D → Type 0) (catalog : List Table) where
  exchanges_number : (made : List Exchange) (s : Session) (t : Turn) (d : D) (end : Session) (last : Turn) (desk : D) → Exchanges answers catalog s t d made end last desk → end.number ≡ s.number
  exchanges_number [] s t d end last desk x = ap (λ (y : Session). y.number) x.0
  exchanges_number (e ∷ made) s t d end last desk x = exchanges_number made x.3 x.4 x.5 end last desk x.8 ∙ x.7.number

  pub conversed_number : (old : Session) (desk : D) (s : Option Statement) (new : Session) (after : D) (said : Reply) → Conversed answers catalog old desk s new after said → new.number ≡ old.number
  conversed_number old desk s new after said x = exchanges_number x.replied.made x.first x.asked desk new _ after x.replied.goes ∙ x.starts.number

  pub left_number : (old : Session) (desk : D) (new : Session) (after : D) (said : Reply) → HasLeft answers catalog old desk new after said → new.number ≡ old.number
  left_number old desk new after said x = exchanges_number x.replied.made x.first x.asked desk new _ after x.replied.goes ∙ x.leaves.number

-- ---- one of a list

-- the place of a number that counts from 1
pub is_inside : (n m : ℕ) → 1 ≤ n → n ≤ m → n - 1 < m
is_inside n m a b = omega (arith, a, b)

-- ---- what the engines began with

-- it stays what it was
pub begins_still : (before now : EngineName → EngineTable) (catalog later : List Table) (rows : Tables) (start : Point) → later ≡ catalog → now ≡ before
    → ((name : EngineName) → before name ≡ engine_at name catalog rows (number_at name start)) → (name : EngineName) → now name ≡ engine_at name later rows (number_at name start)
begins_still before now catalog later rows start same is begun name = ap (λ (f : EngineName → EngineTable). f name) is ∙ begun name ∙ ap (λ tables. engine_at name tables rows (number_at name start)) (sym same)

-- ---- what the flushes wrote

-- it stays while what is common grows
pub flushes_still : (c d : Common) (first : Point) (points more : List Point) (fs : List Flush) → Grows c d → AllFlush (first ∷ points) c.journals first fs → AllFlush (first ∷ points ++ more) d.journals first fs
flushes_still c d first points more fs g k = flushes_stay (first ∷ points) more c.journals d.journals first fs (λ name j i. subst (In j) (sym (g.journals name).1) (in_front j (c.journals name) (g.journals name).0 i)) k

-- ---- a line

module _ (mem : MemEngine → EngineTable → List Entry → Type 0) (store : StoreEngine → EngineTable → List Entry → Type 0) where
  right : AnswersRight (Answers mem store) (Stands mem store)
  right old asked got new a c s = a c s

  -- what a session of the run did keeps what the run has kept, whatever the calls were that it made
  abbrev Goes : RunState → Session → Session → RunState → Type 0
  Goes old speaker spoken new = (first : Point) (points : List Point) (c : Common) (before : List Player) (talks : List Talk) (after : List Player) → Stands mem store old.shared c
      → IsRun old.catalog first points c (before ++ record { session = speaker; talks = talks } ∷ after) → IsBetween speaker.at → (goes : GoesOn (StandsGrown (Stands mem store) c) old.catalog first points c before spoken after new.shared) × IsBetween spoken.at × (SessionDenied (HeardBy c) speaker → SessionDenied (HeardBy goes.common) spoken)

  -- the session of this number, which stands behind so many others, has answered the line
  turn_keeps : (old new : RunState) (number at : ℕ) (s : Option Statement) (speaker spoken : Session) (reply : Reply) → number ≡ at + 1 → at < length old.sessions
      → speaker ≡ get_or old.sessions at speaker → new.sessions ≡ set old.sessions at spoken → new.catalog ≡ old.catalog
      → Goes old speaker spoken new → spoken.number ≡ speaker.number → LinePrints speaker s spoken reply → OverStays speaker spoken → IsShort s → KeepsOn mem store old number s new reply
  turn_keeps old new number at s speaker spoken reply counts inside is set_to same goes_on same_number prints over short b lines fs k =
      let m : Middle k.players at = middle_of k.players at (subst (λ n. at < n) (ap length k.sessions_are ∙ length-map k.players (λ (p : Player). p.session)) inside) in
      let split : old.sessions ≡ map (λ (p : Player). p.session) m.before ++ m.one.session ∷ map (λ (p : Player). p.session) m.after =
      k.sessions_are ∙ ap (map (λ (p : Player). p.session)) m.is ∙ map-append (λ (p : Player). p.session) m.before (m.one ∷ m.after) in
      let place : length (map (λ (p : Player). p.session) m.before) ≡ at = length-map m.before (λ (p : Player). p.session) ∙ m.place in
      let who : m.one.session ≡ speaker =
      sym (is ∙ ap (λ xs. get_or xs at speaker) split ∙ ap (λ i. get_or (map (λ (p : Player). p.session) m.before ++ m.one.session ∷ map (λ (p : Player). p.session) m.after) i speaker) (sym place)
      ∙ get_or-append_seam (map (λ (p : Player). p.session) m.before) m.one.session (map (λ (p : Player). p.session) m.after) speaker) in
      let between : Each (λ (p : Player). IsBetween p.session.at) (m.before ++ m.one ∷ m.after) = subst (Each (λ (p : Player). IsBetween p.session.at)) m.is k.between in
      let goes : (goes : GoesOn (StandsGrown (Stands mem store) k.common) old.catalog b.first k.points k.common m.before spoken m.after new.shared) × IsBetween spoken.at × (SessionDenied (HeardBy k.common) speaker → SessionDenied (HeardBy goes.common) spoken) =
      goes_on b.first k.points k.common m.before m.one.talks m.after k.stood
      (subst (λ (y : Session). IsRun old.catalog b.first k.points k.common (m.before ++ record { session = y; talks = m.one.talks } ∷ m.after)) who (subst (IsRun old.catalog b.first k.points k.common) m.is k.run))
      (subst (λ (y : Session). IsBetween y.at) who (each_focus (λ (p : Player). IsBetween p.session.at) m.before m.one m.after between)) in
      let spoke : Player = record { session = spoken; talks = goes.0.talks } in
      let denied : Each (λ (p : Player). SessionDenied (HeardBy k.common) p.session) (m.before ++ m.one ∷ m.after) = subst (Each (λ (p : Player). SessionDenied (HeardBy k.common) p.session)) m.is k.denied in
      let sessions : new.sessions ≡ map (λ (p : Player). p.session) m.before ++ spoken ∷ map (λ (p : Player). p.session) m.after =
      set_to ∙ ap (λ xs. set xs at spoken) split ∙ ap (λ i. set (map (λ (p : Player). p.session) m.before ++ m.one.session ∷ map (λ (p : Player). p.session) m.after) i spoken) (sym place)
      ∙ set-append_seam (map (λ (p : Player). p.session) m.before) m.one.session (map (λ (p : Player). p.session) m.after) spoken in
      record {
        tables = subst IsCatalog (sym same) k.tables;
        opening = subst (λ catalog. AreOpeningRows catalog b.rows) (sym same) k.opening;
        few = subst (λ n. n < 65536) (sym (ap length set_to ∙ length-set old.sessions at spoken)) k.few;
        common = goes.0.common;
        stood = goes.0.stood.0;
        begun = begins_still k.common.first goes.0.common.first old.catalog new.catalog b.rows b.first same goes.0.begun k.begun;
        points = k.points ++ goes.0.more;
        players = m.before ++ spoke ∷ m.after;
        sessions_are = sessions ∙ sym (map-append (λ (p : Player). p.session) m.before (spoke ∷ m.after));
        run = subst (λ catalog. IsRun catalog b.first (k.points ++ goes.0.more) goes.0.common (m.before ++ spoke ∷ m.after)) (sym same) goes.0.run;
        between = each_middle (λ (p : Player). IsBetween p.session.at) m.before spoke m.after (each_others (λ (p : Player). IsBetween p.session.at) m.before m.one m.after between) goes.1;
        denied = each_middle (λ (p : Player). SessionDenied (HeardBy goes.0.common) p.session) m.before spoke m.after
            (each_weaker (λ (p : Player). SessionDenied (HeardBy k.common) p.session) (λ (p : Player). SessionDenied (HeardBy goes.0.common) p.session)
            (λ p d. denied_by_more (HeardBy k.common) (HeardBy goes.0.common) (heard_on k.common goes.0.common goes.0.stood.1) p.session d) (m.before ++ m.after)
            (each_others (λ (p : Player). SessionDenied (HeardBy k.common) p.session) m.before m.one m.after denied))
            (goes.2 (subst (SessionDenied (HeardBy k.common)) who (each_focus (λ (p : Player). SessionDenied (HeardBy k.common) p.session) m.before m.one m.after denied)));
        over = subst HaveSome (sym sessions)
            (some_on (map (λ (p : Player). p.session) m.before) m.one.session spoken (map (λ (p : Player). p.session) m.after) (subst HaveSome split k.over) (subst (λ (y : Session). OverStays y spoken) (sym who) over));
        told = subst (AreTold 1 (lines ++ line_by number (s, reply) ∷ [])) (sym sessions)
            (told_on 1 number (map (λ (p : Player). p.session) m.before) m.one.session spoken (map (λ (p : Player). p.session) m.after) lines (s, reply) (counts ∙ ap (λ n. n + 1) (sym place))
            (same_number ∙ ap (λ (y : Session). y.number) (sym who))
            (λ xs h. subst (λ y. LinePrints y s spoken reply) (sym who) prints xs h) (subst (AreTold 1 lines) split k.told));
        short = each_append (λ (l : RunLine). IsShort l.line.0) lines (line_by number (s, reply) ∷ []) k.short (short, tt);
        flushed = flushes_still k.common goes.0.common b.first k.points goes.0.more fs goes.0.stood.1 k.flushed;
      }

  -- a line of the session
  pub line_keeps : (old new : RunState) (number at : ℕ) (s : Option Statement) (speaker spoken : Session) (reply : Reply) → number ≡ at + 1 → at < length old.sessions
      → speaker ≡ get_or old.sessions at speaker → new.sessions ≡ set old.sessions at spoken → new.catalog ≡ old.catalog
      → Conversed (Answers mem store) old.catalog speaker old.shared s spoken new.shared reply → LinePrints speaker s spoken reply → OverStays speaker spoken → IsShort s → KeepsOn mem store old number s new reply
  line_keeps old new number at s speaker spoken reply counts inside is set_to same x prints over short =
      turn_keeps old new number at s speaker spoken reply counts inside is set_to same
      (λ first points c before talks after stood run between. lines_keep_growing (Answers mem store) (Stands mem store) right old.catalog first points c before speaker talks after old.shared s spoken new.shared reply stood run between x)
      (conversed_number (Answers mem store) old.catalog speaker old.shared s spoken new.shared reply x) prints over short

  -- and leaving it
  pub leave_keeps : (old new : RunState) (number at : ℕ) (speaker spoken : Session) (reply : Reply) → number ≡ at + 1 → at < length old.sessions
      → speaker ≡ get_or old.sessions at speaker → new.sessions ≡ set old.sessions at spoken → new.catalog ≡ old.catalog
      → HasLeft (Answers mem store) old.catalog speaker old.shared spoken new.shared reply → LinePrints speaker None spoken reply → OverStays speaker spoken → KeepsOn mem store old number None new reply
  leave_keeps old new number at speaker spoken reply counts inside is set_to same x prints over =
      turn_keeps old new number at None speaker spoken reply counts inside is set_to same
      (λ first points c before talks after stood run between. leaves_keep_growing (Answers mem store) (Stands mem store) right old.catalog first points c before speaker talks after old.shared spoken new.shared reply stood run between x)
      (left_number (Answers mem store) old.catalog speaker old.shared spoken new.shared reply x) prints over tt
