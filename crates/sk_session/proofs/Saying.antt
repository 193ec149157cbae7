-- A statement is answered, or its transaction is lost by it, or it goes on to its next write.
use Rattle.std.specs.Prelude.{◌≡◌, ℕ, zero, suc, is_some, List, [], ◌∷◌, ◌++◌, Option, Some, None, Bool, true, false, cond, not, ◌||◌, drop, slice_get}
use Rattle.std.proofs.Common.{refl, sym, ap, subst, ◌∙◌, inl, inr, append-nil}
use Rattle.std.proofs.Math.Seq.{drop-nil}
use Rattle.std.specs.List.{AllByRecursion}
use Rattle.sk_rows.specs.declared.table.Table.{Table}
use Rattle.sk_rows.specs.declared.statement.Statement.{Statement}
use Rattle.sk_model.specs.declared.engine.EngineName.{EngineName}
use Rattle.sk_model.specs.declared.commit.Write.{Write}
use Rattle.sk_model.specs.declared.reply.Reply.{Reply}
use Rattle.sk_model.specs.declared.reply.Reply.TheVariants as reply
use Rattle.sk_model.specs.declared.reply.ErrWord.TheVariants as err
use Rattle.sk_model.specs.declared.record.TxKind.{TxKind}
use Rattle.sk_model.specs.declared.record.TxKind.TheVariants as kind
use Rattle.sk_model.specs.declared.record.Said.{Said}
use Rattle.sk_model.specs.declared.record.Record.{Record}
use Rattle.sk_model.specs.declared.record.Ending.{Ending}
use Rattle.sk_model.specs.declared.record.Ending.TheVariants as ending
use Rattle.sk_model.specs.declared.call.EngineFault.{EngineFault}
use Rattle.sk_model.specs.declared.call.EngineFault.TheVariants as fault
use Rattle.sk_model.specs.Spoken.{is_lost}
use Rattle.sk_model.specs.Talks.{Talk}
use Rattle.sk_model.specs.Asking.{Rest, first_engine, fault_reply, Puts}
use Rattle.sk_model.specs.RecordTalks.{Converses, is_last, lost_ending}
use Rattle.sk_commit.specs.Committing.{started}
use Rattle.sk_commit.specs.Told.{CanStart}
use Rattle.sk_commit.specs.Fits.{IsLoss}
use Rattle.sk_commit.proofs.Starting.{start_underway, start_talk}
use Rattle.sk_session.specs.Kept.{said_maybe}
use Rattle.sk_session.specs.declared.turn.Turn.TheVariants as turn
use Rattle.sk_session.specs.declared.live.Live.{Live}
use Rattle.sk_session.specs.declared.live.Moved.{Moved}
use Rattle.sk_session.specs.Moving.{put_wish, said_now, used_of, heard, goes_well, closes, hears, say, lose, starve, lose_by, put_at, put_next, is_begin, Either}
use Rattle.sk_session.specs.Speaks.{IsOpen, Answering, Stands, Commits, is_given_up, GivenUp, Keeps}
use Rattle.sk_session.proofs.Talking.{going_push}
use Rattle.sk_session.proofs.Leaving.{heard_all, gives_up}
use Rattle.sk_session.proofs.GivenUp.{some_open, none_checked, give_up_keeps}

-- ---- the transaction is lost

lose_keeps : (catalog : List Table) (records : List Record) (live : Live) (how : Ending) (r : Reply) (talk : Talk) → GivenUp catalog live how r talk → Keeps catalog records live.label talk (lose records live how r)
lose_keeps catalog records live how r talk over = give_up_keeps catalog records live how r (not live.small) talk over

-- memory was wanted
pub starve_keeps : (catalog : List Table) (records : List Record) (live : Live) (now : Statement) (R : Rest) (talk : Talk) → Answering catalog live now R talk → R [] (reply.Refused err.Memory) → Keeps catalog records live.label talk (starve records live)
unfolding starve
starve_keeps catalog records live now R talk w h =
    lose_keeps catalog records live ending.NoMemory (reply.Refused err.Memory) talk (gives_up catalog live now R talk ending.NoMemory (reply.Refused err.Memory) w h refl (λ l. refl))

-- a refusal that is lost
pub lost_keeps : (catalog : List Table) (records : List Record) (live : Live) (now : Statement) (R : Rest) (talk : Talk) (how : Ending) (r : Reply) → Answering catalog live now R talk → R [] r → is_given_up how ≡ true → how ≡ lost_ending r
    → Keeps catalog records live.label talk (lose records live how r)
lost_keeps catalog records live now R talk how r w h given is = lose_keeps catalog records live how r talk (gives_up catalog live now R talk how r w h given (λ l. is))

-- an engine's fault
pub fault_keeps : (catalog : List Table) (records : List Record) (live : Live) (now : Statement) (R : Rest) (talk : Talk) (e : EngineName) (f : EngineFault) → IsLoss f → Answering catalog live now R talk → R [] (fault_reply e f)
    → Keeps catalog records live.label talk (lose_by records live e f)
fault_keeps catalog records live now R talk e (fault.Old s n) loss w h = lost_keeps catalog records live now R talk ending.Old (fault_reply e (fault.Old s n)) w h refl refl
fault_keeps catalog records live now R talk e (fault.Conflict by why) loss w h = lost_keeps catalog records live now R talk ending.Conflict (fault_reply e (fault.Conflict by why)) w h refl refl
fault_keeps catalog records live now R talk e fault.Device loss w h = lost_keeps catalog records live now R talk ending.Device (fault_reply e fault.Device) w h refl refl
fault_keeps catalog records live now R talk e fault.NoMemory loss w h = lost_keeps catalog records live now R talk ending.NoMemory (fault_reply e fault.NoMemory) w h refl refl
fault_keeps catalog records live now R talk e (fault.Busy by) loss w h = absurd loss

-- ---- it is answered

neither : {x y : Bool} → x ≡ false → y ≡ false → (x || y) ≡ false
neither e f = rw (e, f) refl

-- a statement inside BEGIN was answered this, which does not lose the transaction
answered : (catalog : List Table) (live : Live) (now : Statement) (R : Rest) (talk : Talk) (r : Reply) → Answering catalog live now R talk → live.small ≡ false → IsOpen live (first_engine live.kind) → is_lost r ≡ false → R [] r → Stands catalog (heard live r) talk
answered catalog live now R talk r w declared first kept h =
    let last : Said = record { statement = now; reply = r } in
    let is : live.said ++ said_maybe (said_now live.statement r) ≡ live.said ++ last ∷ [] = ap (λ o. live.said ++ said_maybe (said_now o r)) w.statement_is in
    record {
      knows = record { mem = w.knows.mem; store = w.knows.store; wrote_mem = w.knows.wrote_mem; wrote_store = w.knows.wrote_store; mem_undrawn = w.knows.mem_undrawn; store_undrawn = w.knows.store_undrawn; unpassed = w.knows.unpassed; selection = w.knows.selection; mem_first = w.knows.mem_first; store_first = w.knows.store_first };
      said = subst (λ ss. Converses catalog live.label live.kind [] ss talk) (sym is) (heard_all catalog live now R talk r w h);
      going = subst (AllByRecursion (λ (s : Said). is_last s ≡ false)) (sym is) (going_push live.said last w.going (neither kept w.goes_on));
      no_statement = refl;
      declared = declared;
      first = first_still live.kind first;
    }
  where
    first_still : (k : TxKind) → IsOpen live (first_engine k) → IsOpen (heard live r) (first_engine k)
    first_still kind.Cross is = is
    first_still kind.Mem is = is
    first_still kind.Store is = is

-- the one statement outside BEGIN was answered this, and its transaction begins to commit
small_commits : (catalog : List Table) (live : Live) (now : Statement) (R : Rest) (talk : Talk) (e : EngineName) (r : Reply) → Answering catalog live now R talk → live.small ≡ true → IsOpen live e → is_lost r ≡ false → R [] r
    → Commits catalog live (started live.label (used_of live)) (Some r) talk
unfolding started
small_commits catalog live now R talk e r w small opened_it kept h =
    let last : Said = record { statement = now; reply = r } in
    let can : CanStart (used_of live) = record { some = some_open live e opened_it; open_mem = w.knows.mem_first; open_store = w.knows.store_first } in
    record {
      heard = last ∷ [];
      spoken = talk;
      talk_is = sym (append-nil talk) ∙ ap (λ t. talk ++ t) (sym (start_talk live.label (used_of live) (started live.label (used_of live)) refl can));
      asked = subst (λ ss. Converses catalog live.label live.kind [] (ss ++ last ∷ []) talk) (w.alone small) (heard_all catalog live now R talk r w h);
      going = (neither kept w.goes_on, tt);
      heard_is = (now, w.alone small, w.statement_is, w.goes_on, refl, kept);
      mem = w.knows.mem;
      store = w.knows.store;
      wrote_mem = w.knows.wrote_mem;
      wrote_store = w.knows.wrote_store;
      selection = w.knows.selection;
      label = refl;
      used = refl;
      drew_mem = w.knows.mem_undrawn;
      drew_store = w.knows.store_undrawn;
      passed = w.knows.unpassed ∙ sym (none_checked live.label (is_some live.mem) (is_some live.store) live.wrote_mem live.wrote_store);
      underway = start_underway live.label (used_of live) (started live.label (used_of live)) refl can;
    }

by_cond : {X : Type 0} (P : X → Type 0) (b : Bool) (x y : X) → (b ≡ true → P x) → (b ≡ false → P y) → P (cond b x y)
by_cond P true x y f g = f refl
by_cond P false x y f g = g refl

-- the statement was answered this
pub say_keeps : (catalog : List Table) (records : List Record) (live : Live) (now : Statement) (R : Rest) (talk : Talk) (e : EngineName) (r : Reply) → Answering catalog live now R talk
    → IsOpen live e → (live.small ≡ false → IsOpen live (first_engine live.kind)) → is_lost r ≡ false → R [] r → Keeps catalog records live.label talk (say records live r)
unfolding say
say_keeps catalog records live now R talk e r w opened_it first kept h =
    by_cond (Keeps catalog records live.label talk) live.small (closes records live r (goes_well r)) (hears records live r)
    (λ small. by small (goes_well r))
    (λ declared. (refl, refl, answered catalog live now R talk r w declared (first declared) kept h))
  where
    by : live.small ≡ true → (well : Bool) → Keeps catalog records live.label talk (closes records live r well)
    by small true = (refl, refl, (small_commits catalog live now R talk e r w small opened_it kept h, (λ x. absurd cc)), refl)
    by small false = give_up_keeps catalog records live ending.RolledBack r false talk (gives_up catalog live now R talk ending.RolledBack r w h refl (λ l. absurd (cc (l, kept))))

-- or memory was wanted for the answer
pub say_or_starve : (catalog : List Table) (records : List Record) (live : Live) (now : Statement) (R : Rest) (talk : Talk) (e : EngineName) (r : Reply) (moved : Moved) → Either (say records live r) (starve records live) moved → Answering catalog live now R talk
    → IsOpen live e → (live.small ≡ false → IsOpen live (first_engine live.kind)) → is_lost r ≡ false → R [] r → R [] (reply.Refused err.Memory) → Keeps catalog records live.label talk moved
say_or_starve catalog records live now R talk e r moved (inl is) w opened_it first kept h m = subst (Keeps catalog records live.label talk) (sym is) (say_keeps catalog records live now R talk e r w opened_it first kept h)
say_or_starve catalog records live now R talk e r moved (inr is) w opened_it first kept h m = subst (Keeps catalog records live.label talk) (sym is) (starve_keeps catalog records live now R talk w m)

-- ---- it writes

none_left : (ws : List Write) (i : ℕ) → slice_get ws i ≡ None → drop i ws ≡ []
none_left [] i is = drop-nil i
none_left (w ∷ ws) zero is = absurd cc
none_left (w ∷ ws) (suc i) is = none_left ws i is

module _ (catalog : List Table) (records : List Record) (live : Live) (now : Statement) (talk : Talk) (e : EngineName) (writes : List Write) (done : ℕ) (r : Reply) where
  abbrev ToPut : Rest
  ToPut = Puts live.label e r (drop done writes)

  puts_none : drop done writes ≡ [] → ToPut [] r
  puts_none none = subst (λ ws. Puts live.label e r ws [] r) (sym none) (refl, inl refl)

  puts_starve : (ws : List Write) → Puts live.label e r ws [] (reply.Refused err.Memory)
  puts_starve [] = (refl, inr refl)
  puts_starve (w ∷ ws) = refl

  -- the next of these writes is put; behind the last one comes the reply
  put_next_keeps : Answering catalog live now ToPut talk → IsOpen live e → (live.small ≡ false → IsOpen live (first_engine live.kind)) → is_lost r ≡ false → is_begin (Some now) ≡ false
      → Keeps catalog records live.label talk (put_next records live e writes done r)
  unfolding put_next
  put_next_keeps w opened_it first kept plain = by (slice_get writes done) refl
    where
      by : (o : Option Write) → slice_get writes done ≡ o → Keeps catalog records live.label talk (put_at records live e writes done r o)
      by None is = say_keeps catalog records live now ToPut talk e r w opened_it first kept (puts_none (none_left writes done is))
      by (Some v) is = (
        refl,
        refl,
        record { now = now; answering = w; knows = (v, is, kept, opened_it, plain) },
        ap (λ o. turn.Ask (put_wish live e o)) (sym is),
      )

  pub puts_keep : (moved : Moved) → Either (put_next records live e writes done r) (starve records live) moved → Answering catalog live now ToPut talk → IsOpen live e → (live.small ≡ false → IsOpen live (first_engine live.kind)) → is_lost r ≡ false
      → is_begin (Some now) ≡ false → Keeps catalog records live.label talk moved
  puts_keep moved (inl is) w opened_it first kept plain = subst (Keeps catalog records live.label talk) (sym is) (put_next_keeps w opened_it first kept plain)
  puts_keep moved (inr is) w opened_it first kept plain = subst (Keeps catalog records live.label talk) (sym is) (starve_keeps catalog records live now ToPut talk w (puts_starve (drop done writes)))
