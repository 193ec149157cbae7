-- One more call that a desk has answered, and what is asked for first.
use Rattle.std.specs.Prelude.{◌≡◌, ℕ, ◌+◌, ◌<◌, List, [], ◌∷◌, ◌++◌, Option, Some, None, true, false, slice_get}
use Rattle.std.proofs.Common.{refl, sym, ap, subst, ◌∙◌, append-nil, append_assoc}
use Rattle.sk_rows.specs.declared.table.Table.{Table}
use Rattle.sk_rows.specs.declared.value.Value.{Value}
use Rattle.sk_rows.specs.declared.statement.Statement.{Statement}
use Rattle.sk_model.specs.declared.label.Label.{Label}
use Rattle.sk_model.specs.declared.record.Record.{Record}
use Rattle.sk_model.specs.declared.record.Ending.TheVariants as ending
use Rattle.sk_model.specs.declared.reply.Reply.TheVariants as reply
use Rattle.sk_model.specs.declared.commit.Write.{Write}
use Rattle.sk_model.specs.declared.engine.EngineName.{EngineName}
use Rattle.sk_model.specs.declared.engine.EngineName.TheVariants.{Mem, Store}
use Rattle.sk_model.specs.declared.step.StepName.TheVariants.{CloseMem, CloseStore, DrawMem, DrawStore, Check, StampMem, StampStore}
use Rattle.sk_model.specs.declared.call.EngineCall.{EngineCall}
use Rattle.sk_model.specs.declared.call.EngineCall.TheVariants as call
use Rattle.sk_model.specs.Talks.{Talk}
use Rattle.sk_model.specs.Asking.{first_engine, read_call, put_call}
use Rattle.sk_commit.specs.Committing.{leave_call, wish_in, wish_of}
use Rattle.sk_commit.specs.declared.committing.Committing.{Committing}
use Rattle.sk_commit.specs.declared.committing.Stage.{Stage}
use Rattle.sk_commit.specs.declared.committing.Stage.TheVariants.{Step, Leave}
use Rattle.sk_session.specs.declared.live.Live.{Live}
use Rattle.sk_session.specs.declared.live.Job.{Job}
use Rattle.sk_commit.specs.declared.asking.Wish.{Wish}
use Rattle.sk_commit.specs.declared.asking.Got.{Got}
use Rattle.sk_commit.specs.Fits.{WishFits, own_call}
use Rattle.sk_session.specs.declared.turn.Turn.{Turn}
use Rattle.sk_session.specs.declared.turn.Turn.TheVariants as turn
use Rattle.sk_session.specs.declared.live.Job.TheVariants as job
use Rattle.sk_session.specs.declared.live.At.{At}
use Rattle.sk_session.specs.declared.live.At.TheVariants as at
use Rattle.sk_session.specs.declared.session.Session.{Session}
use Rattle.sk_session.specs.declared.live.Moved.{Moved}
use Rattle.sk_session.specs.Moving.{on, counter_wish, put_wish, wished, TakesAt, drops, first_opened, leave_at}
use Rattle.sk_session.specs.Starting.{Starts, Takes, Leaves, moved_to}
use Rattle.sk_session.specs.EachTalk.{grown, SessionTalks, call_made, AnswerFits, IsBetween}
use Rattle.sk_session.specs.Conversing.{is_early, is_of_transaction, IsAsked, puts_done, Exchange, calls_made, Exchanges, HasExchanged, TurnFits}
use Rattle.sk_session.specs.Printed.{Speaking}
use Rattle.sk_session.proofs.Printing.{take_prints}
use Rattle.sk_session.proofs.Recorded.{take_talks, grown_none}
use Rattle.sk_session.proofs.Counting.{most_puts, Within, job_left, job_small, Counts, all_bounded, falls, takes_within, starts_within, leaves_within, turns_left, left_less, some_left}

-- the calls of a transaction grow twice
grown_twice : (talks : List Talk) (x y : Talk) → grown (grown talks x) y ≡ grown talks (x ++ y)
grown_twice [] x y = refl
grown_twice (t ∷ []) x y = ap (λ a. a ∷ []) (append_assoc t x y)
grown_twice (t ∷ u ∷ []) x y = ap (λ a. t ∷ a) (grown_twice (u ∷ []) x y)
grown_twice (t ∷ u ∷ v ∷ ts) x y = ap (λ a. t ∷ a) (grown_twice (u ∷ v ∷ ts) x y)

calls_snoc : (xs : List Exchange) (x : Exchange) → calls_made (xs ++ x ∷ []) ≡ calls_made xs ++ own_call x.wish x.got
calls_snoc [] x = append-nil (own_call x.wish x.got)
calls_snoc (y ∷ xs) x = ap (λ t. own_call y.wish y.got ++ t) (calls_snoc xs x) ∙ sym (append_assoc (own_call y.wish y.got) (calls_made xs) (own_call x.wish x.got))

-- an answer of the kind of the wish is of the kind that is waited for
pub answer_fits : (most n : ℕ) (there : At) (w : Wish) (got : Got) → Within most n there (turn.Ask w) → WishFits w got → AnswerFits there got
answer_fits most n (at.Asking live doing) w got h fits = subst (λ x. WishFits x got) h.0 fits
answer_fits most n _ w got h fits = absurd h

same_call : (most n : ℕ) (there : At) (w : Wish) (got : Got) → Within most n there (turn.Ask w) → call_made there got ≡ own_call w got
same_call most n (at.Asking live doing) w got h = ap (λ x. own_call x got) (sym h.0)
same_call most n _ w got h = absurd h

-- ---- what is asked for may be asked for

asked_on : (e : EngineName) (asked : EngineCall) → is_of_transaction asked ≡ true → IsAsked (on e asked)
asked_on Mem asked is = is
asked_on Store asked is = is

counter_asked : (e : EngineName) → IsAsked (counter_wish e)
counter_asked Mem = tt
counter_asked Store = tt

read_asked : (live : Live) (e : EngineName) (t : ℕ) (key : Option Value) → IsAsked (on e (read_call live.label t key))
read_asked live e t None = asked_on e (call.Scan live.label t) refl
read_asked live e t (Some key) = asked_on e (call.Get live.label t key) refl

put_asked : (live : Live) (e : EngineName) (o : Option Write) → IsAsked (put_wish live e o)
put_asked live e None = asked_on e (call.DropTx live.label) refl
put_asked live e (Some w) = asked_on e (put_call live.label w) refl

left_asked : (label : Label) (n : Option ℕ) → is_of_transaction (leave_call label n) ≡ true
left_asked label None = refl
left_asked label (Some n) = refl

stage_asked : (c : Committing) (stage : Stage) → IsAsked (wish_in c stage)
stage_asked c (Step CloseMem) = refl
stage_asked c (Step CloseStore) = refl
stage_asked c (Step DrawMem) = tt
stage_asked c (Step DrawStore) = tt
stage_asked c (Step Check) = tt
stage_asked c (Step StampMem) = refl
stage_asked c (Step StampStore) = refl
stage_asked c (Leave refused Mem end) = left_asked c.label c.mem
stage_asked c (Leave refused Store end) = left_asked c.label c.store

pub wished_asked : (live : Live) (doing : Job) → IsAsked (wished live doing)
unfolding wish_of
wished_asked live job.Count = counter_asked (first_engine live.kind)
wished_asked live (job.Open e n) = asked_on e (call.Open live.label n) refl
wished_asked live job.Select = tt
wished_asked live (job.Read e t key) = read_asked live e t key
wished_asked live (job.Put e writes done r) = put_asked live e (slice_get writes done)
wished_asked live (job.Commit c whole own) = stage_asked c c.stage
wished_asked live (job.Leave e how r lost) = asked_on e (call.DropTx live.label) refl

pub asks_it : (most n : ℕ) (there : At) (w : Wish) → Within most n there (turn.Ask w) → IsAsked w
asks_it most n (at.Asking live doing) w h = subst IsAsked (sym h.0) (wished_asked live doing)
asks_it most n _ w h = absurd h

-- what is left behind an answer
pub takes_left : (most : ℕ) (catalog : List Table) (old new : Session) (w : Wish) (t : Turn) (got : Got) (n : ℕ) → Within most n old.at (turn.Ask w) → is_early got ≡ false → Takes catalog old got new t → Within most (most + 14) new.at t
takes_left most catalog old new w t got n h late takes = by old.at h takes.moves
  where
    by : (there : At) → Within most n there (turn.Ask w) → TakesAt catalog old.records there got (moved_to new t) → Within most (most + 14) new.at t
    by (at.Asking live doing) h moves = takes_within most catalog old.records live doing got (moved_to new t) (most + 14) moves late (all_bounded most doing)
    by _ h moves = absurd h

abbrev pub CountsAt : ℕ → At → Type 0
CountsAt most (at.Asking live doing) = Counts most doing
CountsAt most _ = Unit {0}

pub counts_at : (most : ℕ) (there : At) → puts_done there < most → CountsAt most there
counts_at most at.Outside is = tt
counts_at most (at.Inside live) is = tt
counts_at most (at.Stepping live c) is = tt
counts_at most at.Ended is = tt
counts_at most (at.Asking live job.Count) is = tt
counts_at most (at.Asking live (job.Open e n)) is = tt
counts_at most (at.Asking live job.Select) is = tt
counts_at most (at.Asking live (job.Read e t key)) is = tt
counts_at most (at.Asking live (job.Put e writes done r)) is = is
counts_at most (at.Asking live (job.Commit c whole own)) is = tt
counts_at most (at.Asking live (job.Leave e how r lost)) is = tt

-- fewer are left than before
pub takes_fewer : (most : ℕ) (catalog : List Table) (old new : Session) (w : Wish) (t : Turn) (got : Got) (n : ℕ) → Within most n old.at (turn.Ask w) → is_early got ≡ false → CountsAt most old.at → Takes catalog old got new t → turns_left most new.at t < turns_left most old.at (turn.Ask w)
takes_fewer most catalog old new w t got n h late counts takes = by old.at h counts takes.moves
  where
    by : (there : At) → Within most n there (turn.Ask w) → CountsAt most there → TakesAt catalog old.records there got (moved_to new t) → turns_left most new.at t < turns_left most there (turn.Ask w)
    by (at.Asking live doing) h counts moves =
        left_less most (job_left most doing) new.at t (some_left most doing)
        (takes_within most catalog old.records live doing got (moved_to new t) (job_left most doing) moves late (falls most doing counts))
    by _ h counts moves = absurd h

module _ {D : Type 0} (answers : D → Wish → Got → D → Type 0) (catalog : List Table) where
  -- one more call was answered
  one_more : (xs : List Exchange) (s : Session) (t : Turn) (d : D) (s_then : Session) (t_then : Turn) (d_then : D) (w : Wish) (got : Got) (new : Session) (asked : Turn) (after : D)
      → Exchanges answers catalog s t d xs s_then t_then d_then → t_then ≡ turn.Ask w → WishFits w got → is_early got ≡ false → answers d_then w got after → Takes catalog s_then got new asked
      → Exchanges answers catalog s t d (xs ++ record { wish = w; got = got } ∷ []) new asked after
  one_more [] s t d s_then t_then d_then w got new asked after h is fits late answered takes =
      (sym h.1 ∙ is, fits, late, new, asked, after, subst (λ x. answers x w got after) h.2 answered, subst (λ x. Takes catalog x got new asked) h.0 takes, (refl, refl, refl))
  one_more (x ∷ xs) s t d s_then t_then d_then w got new asked after h is fits late answered takes =
      (h.0, h.1, h.2, h.3, h.4, h.5, h.6, h.7, one_more xs h.3 h.4 h.5 s_then t_then d_then w got new asked after h.8 is fits late answered takes)

  -- nothing was asked for yet
  pub nothing_asked : (first : Session) (asked : Turn) (desk : D) → HasExchanged answers catalog first asked desk first asked desk
  nothing_asked first asked desk = record { made = []; goes = (refl, refl, refl); talks = λ talks h. subst (SessionTalks catalog first) (sym (grown_none talks)) h; says = λ seat s said h. h }

  -- and it goes on with one more call
  pub goes_to : (most n : ℕ) (first : Session) (begun : Turn) (desk : D) (now : Session) (t : Turn) (d : D) (w : Wish) (got : Got) (new : Session) (asked : Turn) (after : D)
      → HasExchanged answers catalog first begun desk now t d → Within most n now.at t → t ≡ turn.Ask w → WishFits w got → is_early got ≡ false → answers d w got after → Takes catalog now got new asked
      → HasExchanged answers catalog first begun desk new asked after
  goes_to most n first begun desk now t d w got new asked after c within is fits late answered takes =
      let here : Within most n now.at (turn.Ask w) = subst (Within most n now.at) is within in
      record {
        made = c.made ++ record { wish = w; got = got } ∷ [];
        goes = one_more c.made first begun desk now t d w got new asked after c.goes is fits late answered takes;
        talks = λ talks h.
            subst (SessionTalks catalog new)
            (ap (grown (grown talks (calls_made c.made))) (same_call most n now.at w got here)
            ∙ grown_twice talks (calls_made c.made) (own_call w got)
            ∙ ap (grown talks) (sym (calls_snoc c.made (record { wish = w; got = got }))))
            (take_talks catalog now got new asked takes (grown talks (calls_made c.made)) (c.talks talks h) (answer_fits most n now.at w got here fits));
        says = λ seat s said h. take_prints catalog now got new asked takes seat s said (subst (Speaking seat s said now) is (c.says seat s said h)) (answer_fits most n now.at w got here fits);
      }

-- ---- what is asked for first

-- what is waited for is within any bound
pub fits_within : (most : ℕ) (there : At) (t : Turn) → TurnFits there t → Within most (most + 14) there t
fits_within most there (turn.Said r) h = tt
fits_within most (at.Asking live doing) (turn.Ask w) h = (h, job_small most doing)
fits_within most _ (turn.Ask w) h = absurd h

fits_there : (most n : ℕ) (there : At) (t : Turn) → Within most n there t → TurnFits there t
fits_there most n there (turn.Said r) h = tt
fits_there most n (at.Asking live doing) (turn.Ask w) h = h.0
fits_there most n _ (turn.Ask w) h = absurd h

-- behind a statement
pub start_fits : (catalog : List Table) (old : Session) (s : Option Statement) (new : Session) (t : Turn) → Starts catalog old s new t → TurnFits new.at t
start_fits catalog old s new t starts = fits_there most_puts (most_puts + 14) new.at t (starts_within most_puts catalog old.number old.records old.at s (moved_to new t) starts.moves)

-- and as a session is left
pub leave_fits : (old new : Session) (t : Turn) → Leaves old new t → TurnFits new.at t
leave_fits old new t leaves = fits_there most_puts 3 new.at t (leaves_within most_puts old.records old.at (moved_to new t) leaves.moves)

-- a session that is left between two lines asks for what it waits for
abbrev Waits : At → Turn → Type 0
Waits (at.Asking live doing) t = t ≡ turn.Ask (wished live doing)
Waits _ t = Unit {0}

left_waits : (records : List Record) (there : At) (moved : Moved) → IsBetween there → moved ≡ leave_at records there → Waits moved.at moved.turn
left_waits records at.Outside moved between is = subst (λ (m : Moved). Waits m.at m.turn) (sym is) tt
left_waits records at.Ended moved between is = subst (λ (m : Moved). Waits m.at m.turn) (sym is) tt
left_waits records (at.Stepping live c) moved between is = subst (λ (m : Moved). Waits m.at m.turn) (sym is) tt
left_waits records (at.Asking live doing) moved between is = absurd between
left_waits records (at.Inside live) moved between is = subst (λ (m : Moved). Waits m.at m.turn) (sym is) (by (first_opened live))
  where
    by : (e : Option EngineName) → Waits (drops records live e ending.RolledBack reply.RolledBack false).at (drops records live e ending.RolledBack reply.RolledBack false).turn
    by None = tt
    by (Some e) = refl

pub leave_waits : (old new : Session) (t : Turn) → IsBetween old.at → Leaves old new t → (live : Live) (doing : Job) → new.at ≡ at.Asking live doing → t ≡ turn.Ask (wished live doing)
leave_waits old new t between leaves live doing e = subst (λ there. Waits there t) e (left_waits old.records old.at (moved_to new t) between leaves.moves)
