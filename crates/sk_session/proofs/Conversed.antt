-- A line that was answered with a desk is one line more of the session; and where a session stands that was left with one.
use Rattle.std.specs.Prelude.{◌≡◌, List, [], ◌∷◌, Option, Some, None, false}
use Rattle.std.proofs.Common.{sym, ap, subst, ◌∙◌}
use Rattle.sk_rows.specs.declared.table.Table.{Table}
use Rattle.sk_rows.specs.declared.statement.Statement.{Statement}
use Rattle.sk_model.specs.declared.engine.EngineName.{EngineName}
use Rattle.sk_model.specs.declared.record.Record.{Record}
use Rattle.sk_model.specs.declared.record.Ending.TheVariants as ending
use Rattle.sk_model.specs.declared.reply.Reply.{Reply}
use Rattle.sk_model.specs.declared.reply.Reply.TheVariants as reply
use Rattle.sk_model.specs.declared.reply.ErrWord.TheVariants as err
use Rattle.sk_commit.specs.declared.asking.Wish.{Wish}
use Rattle.sk_commit.specs.declared.asking.Got.{Got}
use Rattle.sk_session.specs.declared.turn.Turn.{Turn}
use Rattle.sk_session.specs.declared.turn.Turn.TheVariants as turn
use Rattle.sk_session.specs.declared.live.Live.{Live}
use Rattle.sk_session.specs.declared.live.Job.TheVariants as job
use Rattle.sk_session.specs.declared.live.At.{At}
use Rattle.sk_session.specs.declared.live.At.TheVariants as at
use Rattle.sk_session.specs.declared.live.Moved.{Moved}
use Rattle.sk_session.specs.declared.session.Session.{Session}
use Rattle.sk_session.specs.Moving.{drops, first_opened, next_opened, leave_at, TakesAt}
use Rattle.sk_session.specs.Starting.{Starts, Takes, Leaves, moved_to}
use Rattle.sk_session.specs.Conversing.{Exchange, Exchanges, Replied, StandsLeft}
use Rattle.sk_session.specs.Printed.{seat_at, said_so_far, LinePrints}
use Rattle.sk_session.proofs.Printing.{start_prints, leave_prints, printed_on}

module _ {D : Type 0} (answers : D → Wish → Got → D → Type 0) (catalog : List Table) (old first : Session) (asked : Turn) (desk : D) (new : Session) (after : D) (r : Reply) (replied : Replied answers catalog first asked desk new after r) where
  pub line_prints : (s : Option Statement) → Starts catalog old s first asked → LinePrints old s new r
  line_prints s starts lines h = printed_on lines old new s r h (replied.says (seat_at old.at) s (said_so_far old) (start_prints catalog old s first asked starts h.clear))

  pub left_prints : Leaves old first asked → LinePrints old None new r
  left_prints leaves lines h = printed_on lines old new None r h (replied.says (seat_at old.at) None (said_so_far old) (leave_prints old first asked leaves h.clear))

-- ---- where it stands

-- the openings from one on are ended as the transaction is rolled back, or it is over
abbrev RollsBack : Session → Turn → Type 0
RollsBack s t = (records : List Record) × (live : Live) × (o : Option EngineName) × (moved_to s t ≡ drops records live o ending.RolledBack reply.RolledBack false)

-- a session that stands so, and asks for nothing, has replied this
abbrev StandsOut : At → Reply → Type 0
StandsOut new r = (new ≡ at.Outside) × (r ≡ reply.RolledBack)

module _ {D : Type 0} (answers : D → Wish → Got → D → Type 0) (catalog : List Table) (end : Session) (r : Reply) (last : D) where
  -- what has replied asks for no call more
  said_ends : (made : List Exchange) (s : Session) (t : Turn) (d : D) (x : Reply) → t ≡ turn.Said x → Exchanges answers catalog s t d made end (turn.Said r) last → (end.at ≡ s.at) × (r ≡ x)
  said_ends [] s t d x is h = (ap (λ (y : Session). y.at) h.0, said_same (h.1 ∙ is))
    where
      said_same : turn.Said r ≡ turn.Said x → r ≡ x
      said_same q = cc
  said_ends (e ∷ made) s t d x is h = absurd (asks_not (sym h.0 ∙ is))
    where
      asks_not : turn.Ask e.wish ≡ turn.Said x → ⊥
      asks_not q = cc

  rolls_back : (made : List Exchange) (s : Session) (t : Turn) (d : D) → RollsBack s t → Exchanges answers catalog s t d made end (turn.Said r) last → StandsOut end.at r
  rolls_back made s t d (records, live, None, is) h =
      let e : (end.at ≡ s.at) × (r ≡ reply.RolledBack) = said_ends made s t d reply.RolledBack (ap (λ (m : Moved). m.turn) is) h in
      (e.0 ∙ ap (λ (m : Moved). m.at) is, e.1)
  rolls_back [] s t d (records, live, Some e, is) h = absurd (asks_not (h.1 ∙ ap (λ (m : Moved). m.turn) is))
    where
      asks_not : turn.Said r ≡ (drops records live (Some e) ending.RolledBack reply.RolledBack false).turn → ⊥
      asks_not q = cc
  rolls_back (x ∷ made) s t d (records, live, Some e, is) h =
      let there : s.at ≡ at.Asking live (job.Leave e ending.RolledBack reply.RolledBack false) = ap (λ (m : Moved). m.at) is in
      let takes : Takes catalog s x.got h.3 h.4 = h.7 in
      rolls_back made h.3 h.4 h.5 (s.records, live, next_opened live e, subst (λ a. TakesAt catalog s.records a x.got (moved_to h.3 h.4)) there takes.moves) h.8

  left_out : (made : List Exchange) (records : List Record) (there : At) (first : Session) (asked : Turn) (d : D) → moved_to first asked ≡ leave_at records there → Exchanges answers catalog first asked d made end (turn.Said r) last → StandsLeft there end.at r
  left_out made records (at.Inside live) first asked d is h = rolls_back made first asked d (records, live, first_opened live, is) h
  left_out made records at.Outside first asked d is h =
      let e : (end.at ≡ first.at) × (r ≡ reply.RolledBack) = said_ends made first asked d reply.RolledBack (ap (λ (m : Moved). m.turn) is) h in
      (e.0 ∙ ap (λ (m : Moved). m.at) is, e.1)
  left_out made records at.Ended first asked d is h =
      let e : (end.at ≡ first.at) × (r ≡ reply.RolledBack) = said_ends made first asked d reply.RolledBack (ap (λ (m : Moved). m.turn) is) h in
      (e.0 ∙ ap (λ (m : Moved). m.at) is, e.1)
  left_out made records (at.Stepping live c) first asked d is h =
      let e : (end.at ≡ first.at) × (r ≡ reply.Refused err.Committing) = said_ends made first asked d (reply.Refused err.Committing) (ap (λ (m : Moved). m.turn) is) h in
      (e.0 ∙ ap (λ (m : Moved). m.at) is, e.1)
  left_out made records (at.Asking live doing) first asked d is h =
      let e : (end.at ≡ first.at) × (r ≡ reply.Refused err.Committing) = said_ends made first asked d (reply.Refused err.Committing) (ap (λ (m : Moved). m.turn) is) h in
      (e.0 ∙ ap (λ (m : Moved). m.at) is, e.1)

pub left_stands : {D : Type 0} (answers : D → Wish → Got → D → Type 0) (catalog : List Table) (old first : Session) (asked : Turn) (desk : D) (new : Session) (after : D) (r : Reply) → Replied answers catalog first asked desk new after r → Leaves old first asked → StandsLeft old.at new.at r
left_stands answers catalog old first asked desk new after r replied leaves = left_out answers catalog new r after replied.made old.records old.at first asked desk leaves.moves replied.goes
