-- The sessions of a run with the calls of their transactions, over whatever desk answers them.
use Rattle.std.specs.Prelude.{◌≡◌, List, ◌∷◌, ◌++◌, Option, Some, None, map}
use Rattle.std.specs.List.{AllByRecursion}
use Rattle.sk_rows.specs.declared.table.Table.{Table}
use Rattle.sk_rows.specs.declared.statement.Statement.{Statement}
use Rattle.sk_model.specs.declared.point.Point.{Point}
use Rattle.sk_model.specs.declared.reply.Reply.{Reply}
use Rattle.sk_model.specs.Talks.{Talk}
use Rattle.sk_commit.specs.declared.asking.Wish.{Wish}
use Rattle.sk_commit.specs.declared.asking.Got.{Got}
use Rattle.sk_session.specs.declared.live.At.{At}
use Rattle.sk_session.specs.declared.live.At.TheVariants as at
use Rattle.sk_session.specs.declared.session.Session.{Session}
use Rattle.sk_session.specs.Moving.{wished}
use Rattle.sk_session.specs.EachTalk.{SessionTalks, IsBetween}
use Rattle.sk_session.specs.Facts.{facts_in}
use Rattle.sk_session.specs.Conversing.{Conversed, HasLeft}
use Rattle.sk_session.specs.Common.{Common, Answered}
use Rattle.sk_kept.specs.Running.{Member, IsRunning}

-- a session with the calls of its transactions
pub record Player : Type 0 where
  pub session : Session
  pub talks : List Talk

-- the call that is waited for
abbrev pub waited : At → Option Wish
waited (at.Asking live doing) = Some (wished live doing)
waited _ = None

abbrev pub member_of : Player → Member
member_of p = record { number = p.session.number; facts = facts_in p.session; talks = p.talks; asked = waited p.session.at }

-- What holds of all sessions of a run, where each has the calls of its transactions.
pub record IsRun (catalog : List Table) (first : Point) (points : List Point) (c : Common) (players : List Player) : Type 0 where
  pub running : IsRunning first points c (map member_of players)
  pub talks : AllByRecursion (λ (p : Player). SessionTalks catalog p.session p.talks) players

-- what a desk answers is what the engines and the registry answer for which it stands
abbrev pub AnswersRight : {D : Type 0} → (D → Wish → Got → D → Type 0) → (D → Common → Type 0) → Type 0
AnswersRight {D} answers stands = (old : D) (asked : Wish) (got : Got) (new : D) → answers old asked got new → (c : Common) → stands old c → (d : Common) × Answered c asked got d × stands new d

-- a run that has gone on: with the desk, the points that were added, and the calls of the session that spoke
pub record GoesOn {D : Type 0} (stands : D → Common → Type 0) (catalog : List Table) (first : Point) (points : List Point) (c : Common) (before : List Player) (new : Session) (after : List Player) (desk : D) : Type 0 where
  pub common : Common
  pub stood : stands desk common
  pub begun : common.first ≡ c.first
  pub more : List Point
  pub talks : List Talk
  pub run : IsRun catalog first (points ++ more) common (before ++ record { session = new; talks = talks } ∷ after)

-- A statement, or STEP, that a session is answered keeps what holds of all sessions, whatever desk makes its calls; and the session is then between
-- two lines again.
abbrev pub LinesKeep : {D : Type 0} → (D → Wish → Got → D → Type 0) → (D → Common → Type 0) → Type 0
LinesKeep {D} answers stands = AnswersRight answers stands → (catalog : List Table) (first : Point) (points : List Point) (c : Common) (before : List Player) (old : Session) (talks : List Talk) (after : List Player) (desk : D)
    (s : Option Statement) (new : Session) (desk_then : D) (said : Reply) → stands desk c → IsRun catalog first points c (before ++ record { session = old; talks = talks } ∷ after) → IsBetween old.at
    → Conversed answers catalog old desk s new desk_then said → GoesOn stands catalog first points c before new after desk_then × IsBetween new.at

-- And so does leaving a session.
abbrev pub LeavesKeep : {D : Type 0} → (D → Wish → Got → D → Type 0) → (D → Common → Type 0) → Type 0
LeavesKeep {D} answers stands = AnswersRight answers stands → (catalog : List Table) (first : Point) (points : List Point) (c : Common) (before : List Player) (old : Session) (talks : List Talk) (after : List Player) (desk : D)
    (new : Session) (desk_then : D) (said : Reply) → stands desk c → IsRun catalog first points c (before ++ record { session = old; talks = talks } ∷ after) → IsBetween old.at
    → HasLeft answers catalog old desk new desk_then said → GoesOn stands catalog first points c before new after desk_then × IsBetween new.at
