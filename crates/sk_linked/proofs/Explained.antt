-- What a transaction's events were replied goes with what its calls were answered, so one database replies it.
use Rattle.std.specs.Prelude.{◌≡◌, ℕ, zero, suc, List, [], ◌∷◌, ◌++◌, Option, Some, None, Result, Ok, Err, Bool, cond, is_some, map}
use Rattle.std.proofs.Common.{refl, sym, ap, subst, ◌∙◌}
use Rattle.std.specs.List.{flat_map}
use Rattle.std.proofs.lemmas.Bool.{cond_both}
use Rattle.std.proofs.lemmas.List.{append-nil}
use Rattle.std.proofs.lemmas.List.Concat.{flat_map-append}
use Rattle.std.proofs.lemmas.List.Sums.{fold-append}
use Rattle.sk_rows.specs.declared.value.Value.{Value}
use Rattle.sk_model.specs.declared.label.Label.{Label}
use Rattle.sk_model.specs.declared.engine.EngineName.{EngineName}
use Rattle.sk_model.specs.declared.engine.EngineName.TheVariants.{Mem, Store}
use Rattle.sk_model.specs.declared.record.TxKind.{TxKind}
use Rattle.sk_model.specs.declared.record.TxKind.TheVariants as kind
use Rattle.sk_model.specs.declared.commit.Write.{Write}
use Rattle.sk_model.specs.declared.point.Point.{Point}
use Rattle.sk_model.specs.declared.point.Recycled.{Recycled}
use Rattle.sk_model.specs.declared.call.EngineCall.{EngineCall}
use Rattle.sk_model.specs.declared.call.EngineCall.TheVariants as call
use Rattle.sk_model.specs.declared.call.EngineReply.{EngineReply}
use Rattle.sk_model.specs.declared.call.EngineReply.TheVariants.{Done, Found, Rows, Number, Commits, Fault}
use Rattle.sk_model.specs.declared.call.Entry.{Entry}
use Rattle.sk_model.specs.Database.{RowOf, KeyedRows, Tables, after_write, after_writes}
use Rattle.sk_model.specs.Records.{same_label}
use Rattle.sk_model.specs.Engine.{Version, EngineTable, opening_of}
use Rattle.sk_model.specs.EngineReplies.{busy_or, answer_of}
use Rattle.sk_model.specs.EngineConditions.{may}
use Rattle.sk_model.specs.Legal.{due}
use Rattle.sk_model.specs.Talks.{OwnCall, Talk, if_done, wrote_by, wrote_in, writes_in_call, puts_in, Shows, TalkTold}
use Rattle.sk_model.proofs.Lists.{Each, each_weaker, each_both}
use Rattle.sk_model.proofs.Bridging.{told_parts}
use Rattle.sk_weave.specs.declared.answer.Selected.{Selected}
use Rattle.sk_weave.specs.declared.answer.DrawFault.{DrawFault}
use Rattle.sk_weave.specs.declared.answer.DrawFault.TheVariants.{Spent, Early}
use Rattle.sk_weave.specs.Registry.{passes, selected, drawn}
use Rattle.sk_linked.specs.Reads.{view_at}
use Rattle.sk_linked.specs.declared.event.Event.{Event}
use Rattle.sk_linked.specs.declared.event.Event.TheVariants as event
use Rattle.sk_linked.specs.declared.event.CoreReply.{CoreReply}
use Rattle.sk_linked.specs.declared.event.CoreReply.TheVariants as reply
use Rattle.sk_linked.specs.declared.record.Did.{Did}
use Rattle.sk_linked.specs.Traces.{drawn_at, Transaction, run_of}
use Rattle.sk_linked.specs.Headline.{Headline}
use Rattle.sk_linked.specs.State.{Both, of, with_of, other, Actor, transaction_of, Flush, Core, core_at, traces_of, table_of, counter}
use Rattle.sk_linked.specs.Plans.{Plan, nothing, only, answer, drops, begin_mem, begin_plan, select_plan, selects, open_plan, opens_store, engine_of, read_call, found_rows, read_plan, put_call, put_plan, close_plan, leave_plan, voids, draw_plan, floor_in, checks, stamps, may_stamp_in, may_leave, plan_for, actor_in, is_next, plan_new, plan_with}
use Rattle.sk_linked.specs.Machine.{entered, entries_of, calls_on, talk_of, recorded, put_actor, applied, Next, not_now, taken, for_label, lets, may_cut, is_greater, cut_taken, cut_next, flushed, flush_step, live_step, stopped_step, step as step_core, run}
use Rattle.sk_linked.specs.Runs.{ran}
use Rattle.sk_linked.specs.Explaining.{did_write, event_wrote, GivesRows, asked_rows, EventShows, EventsTold, RunsAreExplained}
use Rattle.sk_linked.proofs.Members.{each_in}
use Rattle.sk_linked.proofs.Events.{none_wrote, of_only, of_both, of_two}
use Rattle.sk_linked.proofs.Stepping.{actor_found, cut_core}
use Rattle.sk_linked.proofs.Theorem.{all_one}

-- ---- what was done goes with what was said

-- the events wrote what the calls wrote, and where the calls are told, so are they
record Goes (talk : Talk) (did : List Did) : Type 0 where
  writes : puts_in talk ≡ flat_map did_write did
  told : (db : Tables) → TalkTold db talk → EventsTold db did

events_append : (db : Tables) (ds es : List Did) → EventsTold db ds → EventsTold (after_writes db (flat_map did_write ds)) es → EventsTold db (ds ++ es)
events_append db [] es h k = k
events_append db (d ∷ ds) es h k = (h.0, events_append (after_writes db (did_write d)) ds es h.1 (subst (λ x. EventsTold x es) (fold-append after_write db (did_write d) (flat_map did_write ds)) k))

-- one event more, with the calls of its plan, behind what was said and done before
record Says (k : Core) (e : Event) (talk : Talk) (did : List Did) (p : Plan) : Type 0 where
  wrote : puts_in (talk_of k p) ≡ event_wrote e p.reply
  shows : (db : Tables) → TalkTold db (talk_of k p) → EventShows db e p.reply
  talk_is : p.who.talk ≡ talk
  did_is : p.who.did ≡ did

goes_more : (talk added : Talk) (did : List Did) (e : Event) (r : CoreReply) → Goes talk did → puts_in added ≡ event_wrote e r → ((db : Tables) → TalkTold db added → EventShows db e r) → Goes (talk ++ added) (did ++ record { event = e; reply = r } ∷ [])
goes_more talk added did e r g wrote shows = record {
  writes = flat_map-append writes_in_call talk added ∙ ap (λ ws. ws ++ puts_in added) g.writes
      ∙ ap (λ ws. flat_map did_write did ++ ws) (wrote ∙ sym (append-nil (event_wrote e r))) ∙ sym (flat_map-append did_write did (record { event = e; reply = r } ∷ []));
  told = λ db h.
      let parts : TalkTold db talk × TalkTold (after_writes db (puts_in talk)) added = told_parts db talk added h in
      events_append db did (record { event = e; reply = r } ∷ []) (g.told db parts.0) (shows (after_writes db (flat_map did_write did)) (subst (λ ws. TalkTold (after_writes db ws) added) g.writes parts.1), tt);
}

-- ---- the calls of a plan

abbrev Quiet : List EngineCall → Type 0
Quiet cs = Each (λ (c : EngineCall). (a : EngineReply) → wrote_by c a ≡ []) cs

puts_on : (name : EngineName) (js : List Entry) → puts_in (calls_on name js) ≡ wrote_in js
puts_on name [] = refl
puts_on name (j ∷ js) = ap (λ ws. wrote_by j.call j.reply ++ ws) (puts_on name js)

plan_puts : (k : Core) (p : Plan) → puts_in (talk_of k p) ≡ wrote_in (entries_of k p Mem) ++ wrote_in (entries_of k p Store)
plan_puts k p = flat_map-append writes_in_call (calls_on Mem (entries_of k p Mem)) (calls_on Store (entries_of k p Store))
    ∙ ap (λ ws. ws ++ puts_in (calls_on Store (entries_of k p Store))) (puts_on Mem (entries_of k p Mem)) ∙ ap (λ ws. wrote_in (entries_of k p Mem) ++ ws) (puts_on Store (entries_of k p Store))

quiet_plan : (k : Core) (calls : Both (List EngineCall)) → ((s : EngineName) → Quiet (of s calls)) → puts_in (calls_on Mem (entered (table_of k Mem) calls.mem) ++ calls_on Store (entered (table_of k Store) calls.store)) ≡ []
quiet_plan k calls q =
    flat_map-append writes_in_call (calls_on Mem (entered (table_of k Mem) calls.mem)) (calls_on Store (entered (table_of k Store) calls.store))
    ∙ ap (λ ws. ws ++ puts_in (calls_on Store (entered (table_of k Store) calls.store))) (puts_on Mem (entered (table_of k Mem) calls.mem) ∙ none_wrote (table_of k Mem) calls.mem (q Mem))
    ∙ puts_on Store (entered (table_of k Store) calls.store) ∙ none_wrote (table_of k Store) calls.store (q Store)

quiet_drops : (k : Core) (r : Actor) (s : EngineName) → Quiet (drops k r s)
quiet_drops k r s = cond_both (is_some (opening_of (table_of k s) r.label)) (call.DropTx r.label ∷ []) [] (λ cs. Quiet cs) (λ e. ((λ a. refl), tt)) (λ e. tt)

quiet_voids : (k : Core) (r : Actor) (s : EngineName) (o : Option ℕ) → Quiet (voids k r s o)
quiet_voids k r s None = quiet_drops k r s
quiet_voids k r s (Some n) = ((λ a. refl), tt)

quiet_only : (name : EngineName) (cs : List EngineCall) → Quiet cs → (s : EngineName) → Quiet (of s (only name cs))
quiet_only name cs q s = of_only (λ x c. (a : EngineReply) → wrote_by c a ≡ []) name cs q s

quiet_both : (b : Both (List EngineCall)) → Quiet b.mem → Quiet b.store → (s : EngineName) → Quiet (of s b)
quiet_both b m q s = of_both (λ x c. (a : EngineReply) → wrote_by c a ≡ []) b m q s

quiet_none : (s : EngineName) → Quiet (of s nothing)
quiet_none Mem = tt
quiet_none Store = tt

-- whatever the plan is, its event goes with its calls
abbrev TellsOf : Core → Event → Talk → List Did → Option Plan → Type 0
TellsOf k e talk did None = Unit {0}
TellsOf k e talk did (Some p) = Says k e talk did p

tells_when : (k : Core) (e : Event) (talk : Talk) (did : List Did) (b : Bool) (o : Option Plan) → TellsOf k e talk did o → TellsOf k e talk did (cond b o None)
tells_when k e talk did b o h = cond_both b o None (λ (x : Option Plan). TellsOf k e talk did x) (λ t. h) (λ t. tt)

-- ---- a read

got_no_rows : (e : EngineTable) (tx : Label) (t : ℕ) (key : Value) (rows : KeyedRows) → due e (call.Get tx t key) ≡ Rows rows → ⊥
got_no_rows e tx t key rows q = cond_both (may e (call.Get tx t key)) (answer_of e (call.Get tx t key)) (Found None) (λ (a : EngineReply). a ≡ Rows rows → ⊥) (λ y. busy _ _) (λ y. cc) q
  where
    busy : (o : Option Version) (r : Option RowOf) → busy_or o (Found r) ≡ Rows rows → ⊥
    busy None r f = cc
    busy (Some v) r f = cc

scanned_no_row : (e : EngineTable) (tx : Label) (t : ℕ) (row : Option RowOf) → due e (call.Scan tx t) ≡ Found row → ⊥
scanned_no_row e tx t row q = cond_both (may e (call.Scan tx t)) (answer_of e (call.Scan tx t)) (Rows []) (λ (a : EngineReply). a ≡ Found row → ⊥) (λ y. busy _ _) (λ y. cc) q
  where
    busy : (o : Option Version) (rows : KeyedRows) → busy_or o (Rows rows) ≡ Found row → ⊥
    busy None rows f = cc
    busy (Some v) rows f = cc

module _ (k : Core) (r : Actor) where
  abbrev Tells : Core → Event → Option Plan → Type 0
  Tells k e o = TellsOf k e r.talk r.did o

  -- the one call of a read, with its answer
  abbrev asked : EngineName → EngineCall → EngineReply → OwnCall
  asked name c a = record { engine = name; entry = record { call = c; reply = a } }

  read_talk : (name : EngineName) (c : EngineCall) (said : CoreReply) → talk_of k (record { reply = said; calls = only name (c ∷ []); regs = k.regs; who = r }) ≡ asked name c (answer k name c) ∷ []
  read_talk Mem c said = refl
  read_talk Store c said = refl

  abbrev reading : EngineName → EngineCall → CoreReply → Plan
  reading name c said = record { reply = said; calls = only name (c ∷ []); regs = k.regs; who = r }

  read_says : (tx : Label) (t : ℕ) (name : EngineName) (key : Option Value) (said : CoreReply) (a : EngineReply) → answer k name (read_call r.label t key) ≡ a
      → ((db : Tables) → Shows db (read_call r.label t key) a → GivesRows (asked_rows db t key) said)
      → Says k (event.Read tx t key) r.talk r.did (reading name (read_call r.label t key) said)
  read_says tx t name key said a q f = record {
    wrote = ap puts_in (read_talk name (read_call r.label t key) said) ∙ quiet key (answer k name (read_call r.label t key));
    shows = λ db h. f db (subst (Shows db (read_call r.label t key)) q (first db (subst (TalkTold db) (read_talk name (read_call r.label t key) said) h)));
    talk_is = refl;
    did_is = refl;
  }
    where
      quiet : (key : Option Value) (a : EngineReply) → puts_in (asked name (read_call r.label t key) a ∷ []) ≡ []
      quiet (Some v) a = refl
      quiet None a = refl

      first : (db : Tables) → TalkTold db (asked name (read_call r.label t key) (answer k name (read_call r.label t key)) ∷ []) → Shows db (read_call r.label t key) (answer k name (read_call r.label t key))
      first db h = h.0

  read_tells : (tx : Label) (t : ℕ) (name : EngineName) (key : Option Value) (a : EngineReply) → answer k name (read_call r.label t key) ≡ a → Tells k (event.Read tx t key) (read_plan k r name key (read_call r.label t key) a)
  read_tells tx t name (Some key) (Found row) q = read_says tx t name (Some key) (reply.Rows (found_rows (Some key) row)) (Found row) q (λ db h. ap (found_rows (Some key)) h)
  read_tells tx t name None (Found row) q = absurd (scanned_no_row (table_of k name) r.label t row q)
  read_tells tx t name (Some key) (Rows rows) q = absurd (got_no_rows (table_of k name) r.label t key rows q)
  read_tells tx t name None (Rows rows) q = read_says tx t name None (reply.Rows rows) (Rows rows) q (λ db h. h)
  read_tells tx t name key (Fault f) q = read_says tx t name key (reply.Refused f) (Fault f) q (λ db h. tt)
  read_tells tx t name key Done q = tt
  read_tells tx t name key (Number n) q = tt
  read_tells tx t name key (Commits cs) q = tt

  -- ---- a write

  -- the other engine is only left
  aside : (name : EngineName) → Quiet (drops k r (other name))
  aside name = quiet_drops k r (other name)

  put_tells : (tx : Label) (w : Write) (name : EngineName) (a : EngineReply) → answer k name (put_call r.label w) ≡ a → Tells k (event.Put tx w) (put_plan k r name w a)
  put_tells tx w Mem Done q = record { wrote = ap (λ (a : EngineReply). if_done w a ++ []) q; shows = λ db h. tt; talk_is = refl; did_is = refl }
  put_tells tx w Store Done q = record { wrote = ap (λ (a : EngineReply). if_done w a ++ []) q; shows = λ db h. tt; talk_is = refl; did_is = refl }
  put_tells tx w Mem (Fault f) q = record {
    wrote = plan_puts k (put_refused Mem) ∙ ap (λ (a : EngineReply). (if_done w a ++ []) ++ wrote_in (entered (table_of k Store) (drops k r Store))) q ∙ none_wrote (table_of k Store) (drops k r Store) (aside Mem);
    shows = λ db h. tt;
    talk_is = refl;
    did_is = refl;
  }
    where
      put_refused : EngineName → Plan
      put_refused name = record { reply = reply.Refused f; calls = with_of name (put_call r.label w ∷ call.DropTx r.label ∷ []) (only (other name) (drops k r (other name))); regs = k.regs; who = r }
  put_tells tx w Store (Fault f) q = record {
    wrote = plan_puts k (put_refused Store) ∙ ap (λ ws. ws ++ wrote_in (entries_of k (put_refused Store) Store)) (none_wrote (table_of k Mem) (drops k r Mem) (aside Store)) ∙ ap (λ (a : EngineReply). if_done w a ++ []) q;
    shows = λ db h. tt;
    talk_is = refl;
    did_is = refl;
  }
    where
      put_refused : EngineName → Plan
      put_refused name = record { reply = reply.Refused f; calls = with_of name (put_call r.label w ∷ call.DropTx r.label ∷ []) (only (other name) (drops k r (other name))); regs = k.regs; who = r }
  put_tells tx w name (Found row) q = tt
  put_tells tx w name (Rows rows) q = tt
  put_tells tx w name (Number n) q = tt
  put_tells tx w name (Commits cs) q = tt

  -- ---- all others write nothing, and show nothing

  select_tells : (tx : Label) (m c : Option ℕ) → Tells k (event.Select tx) (selects k r m c)
  select_tells tx (Some a) None = at (selected k.regs a k.regs.store)
    where
      at : (x : Result Selected Recycled) → Tells k (event.Select tx) (Some (select_plan k r a x))
      at (Ok s) = record { wrote = quiet_plan k nothing quiet_none; shows = λ db h. tt; talk_is = refl; did_is = refl }
      at (Err q) = record { wrote = quiet_plan k (only Mem (drops k r Mem)) (quiet_only Mem (drops k r Mem) (quiet_drops k r Mem)); shows = λ db h. tt; talk_is = refl; did_is = refl }
  select_tells tx (Some a) (Some b) = tt
  select_tells tx None c = tt

  open_tells : (tx : Label) (c s : Option ℕ) → Tells k (event.OpenStore tx) (opens_store k r c s)
  open_tells tx (Some b) None = at (answer k Store (call.Open r.label b))
    where
      at : (a : EngineReply) → Tells k (event.OpenStore tx) (open_plan k r b a)
      at Done = record { wrote = refl; shows = λ db h. tt; talk_is = refl; did_is = refl }
      at (Fault f) = record { wrote = quiet_plan k (record { mem = drops k r Mem; store = call.Open r.label b ∷ [] }) (quiet_both (record { mem = drops k r Mem; store = call.Open r.label b ∷ [] }) (quiet_drops k r Mem) ((λ a. refl), tt)); shows = λ db h. tt; talk_is = refl; did_is = refl }
      at (Found row) = tt
      at (Rows rows) = tt
      at (Number n) = tt
      at (Commits cs) = tt
  open_tells tx (Some b) (Some s) = tt
  open_tells tx None s = tt

  close_tells : (tx : Label) (name : EngineName) (a : EngineReply) → Tells k (event.Close tx name) (close_plan k r name a)
  close_tells tx name (Number floor) = record { wrote = quiet_plan k (only name (call.Close r.label ∷ [])) (quiet_only name (call.Close r.label ∷ []) ((λ a. refl), tt)); shows = λ db h. tt; talk_is = refl; did_is = refl }
  close_tells tx name Done = tt
  close_tells tx name (Found row) = tt
  close_tells tx name (Rows rows) = tt
  close_tells tx name (Commits cs) = tt
  close_tells tx name (Fault f) = tt

  draw_tells : (tx : Label) (name : EngineName) (x : Result ℕ DrawFault) → Tells k (event.Draw tx name) (draw_plan k r name x)
  draw_tells tx name (Ok n) = record { wrote = refl; shows = λ db h. tt; talk_is = refl; did_is = refl }
  draw_tells tx name (Err Spent) = record { wrote = quiet_plan k (record { mem = voids k r Mem r.drew.mem; store = voids k r Store r.drew.store }) (quiet_both (record { mem = voids k r Mem r.drew.mem; store = voids k r Store r.drew.store }) (quiet_voids k r Mem r.drew.mem) (quiet_voids k r Store r.drew.store)); shows = λ db h. tt; talk_is = refl; did_is = refl }
  draw_tells tx name (Err (Early floor counter)) = tt

  check_tells : (tx : Label) (m s : Option ℕ) → Tells k (event.Check tx) (checks k r m s)
  check_tells tx (Some ca) (Some cb) = cond_both (passes k.regs ca cb) _ _ (λ (p : Plan). Tells k (event.Check tx) (Some p)) (λ t. record { wrote = refl; shows = λ db h. tt; talk_is = refl; did_is = refl }) (λ t. record { wrote = refl; shows = λ db h. tt; talk_is = refl; did_is = refl })
  check_tells tx (Some ca) None = tt
  check_tells tx None s = tt

  stamp_tells : (tx : Label) (name : EngineName) (o : Option ℕ) → Tells k (event.Stamp tx name) (stamps k r name o)
  stamp_tells tx name None = tt
  stamp_tells tx name (Some n) = tells_when k (event.Stamp tx name) r.talk r.did (may_stamp_in r name) _ (record { wrote = quiet_plan k (with_of name (call.Stamp r.label n ∷ []) (only (other name) (cond (is_some (drawn_at (other name) r.drew)) [] (drops k r (other name))))) quiet; shows = λ db h. tt; talk_is = refl; did_is = refl })
    where
      quiet : (s : EngineName) → Quiet (of s (with_of name (call.Stamp r.label n ∷ []) (only (other name) (cond (is_some (drawn_at (other name) r.drew)) [] (drops k r (other name))))))
      quiet = of_two (λ x c. (a : EngineReply) → wrote_by c a ≡ []) name (call.Stamp r.label n ∷ []) (cond (is_some (drawn_at (other name) r.drew)) [] (drops k r (other name))) ((λ a. refl), tt)
          (cond_both (is_some (drawn_at (other name) r.drew)) [] (drops k r (other name)) (λ cs. Quiet cs) (λ e. tt) (λ e. quiet_drops k r (other name)))

  plan_tells : (e : Event) → Tells k e (plan_for k r e)
  plan_tells (event.Begin tx kind) = tt
  plan_tells (event.Select tx) = tells_when k (event.Select tx) r.talk r.did _ _ (select_tells tx r.opened.mem r.chosen)
  plan_tells (event.OpenStore tx) = tells_when k (event.OpenStore tx) r.talk r.did _ _ (open_tells tx r.chosen r.opened.store)
  plan_tells (event.Read tx t key) = tells_when k (event.Read tx t key) r.talk r.did _ _ (read_tells tx t (engine_of k t) key (answer k (engine_of k t) (read_call r.label t key)) refl)
  plan_tells (event.Put tx w) = tells_when k (event.Put tx w) r.talk r.did _ _ (put_tells tx w (engine_of k w.table) (answer k (engine_of k w.table) (put_call r.label w)) refl)
  plan_tells (event.Close tx name) = tells_when k (event.Close tx name) r.talk r.did _ _ (close_tells tx name (answer k name (call.Close r.label)))
  plan_tells (event.Draw tx name) = tells_when k (event.Draw tx name) r.talk r.did _ _ (draw_tells tx name (drawn (counter name k.regs) (floor_in k r name)))
  plan_tells (event.Check tx) = tells_when k (event.Check tx) r.talk r.did _ _ (check_tells tx r.drew.mem r.drew.store)
  plan_tells (event.Stamp tx name) = tells_when k (event.Stamp tx name) r.talk r.did _ _ (stamp_tells tx name (drawn_at name r.drew))
  plan_tells (event.Leave tx name) = tells_when k (event.Leave tx name) r.talk r.did (may_leave r) (Some (leave_plan k r name)) (record { wrote = quiet_plan k (only name (call.DropTx r.label ∷ [])) (quiet_only name (call.DropTx r.label ∷ []) ((λ a. refl), tt)); shows = λ db h. tt; talk_is = refl; did_is = refl })
  plan_tells event.Cut = tt
  plan_tells event.FlushStep = tt
  plan_tells (event.Purge name) = tt
  plan_tells event.Stop = tt
  plan_tells event.Reopen = tt

-- ---- all events

-- of a transaction that begins
begin_tells : (k : Core) (tx : Label) (kind : TxKind) → TellsOf k (event.Begin tx kind) [] [] (begin_plan k tx kind)
begin_tells k tx kind.Store = record { wrote = refl; shows = λ db h. tt; talk_is = refl; did_is = refl }
begin_tells k tx kind.Mem = at kind.Mem (answer k Mem (call.Open tx k.regs.mem))
  where
    at : (kind : TxKind) (a : EngineReply) → TellsOf k (event.Begin tx kind) [] [] (begin_mem k tx kind a)
    at kind Done = record { wrote = refl; shows = λ db h. tt; talk_is = refl; did_is = refl }
    at kind _ = tt
begin_tells k tx kind.Cross = at kind.Cross (answer k Mem (call.Open tx k.regs.mem))
  where
    at : (kind : TxKind) (a : EngineReply) → TellsOf k (event.Begin tx kind) [] [] (begin_mem k tx kind a)
    at kind Done = record { wrote = refl; shows = λ db h. tt; talk_is = refl; did_is = refl }
    at kind _ = tt

abbrev GoesNow : Actor → Type 0
GoesNow r = Goes r.talk r.did

abbrev AllGo : Core → Type 0
AllGo k = Each GoesNow k.actors

each_put_all : (r : Actor) (xs : List Actor) → GoesNow r → Each GoesNow xs → Each GoesNow (put_actor r xs)
each_put_all r [] g h = (g, tt)
each_put_all r (x ∷ xs) g h = cond_both (same_label r.label x.label) (r ∷ xs) (x ∷ put_actor r xs) (λ (ys : List Actor). Each GoesNow ys) (λ e. (g, h.1)) (λ e. (h.0, each_put_all r xs g h.1))

taken_goes : (k : Core) (e : Event) (talk : Talk) (did : List Did) (o : Option Plan) → AllGo k → Goes talk did → TellsOf k e talk did o → AllGo (taken k e o).core
taken_goes k e talk did None h g s = h
taken_goes k e talk did (Some p) h g s = cond_both (lets k p.calls) (record { core = applied k e p; reply = p.reply }) (not_now k) (λ (n : Next). AllGo n.core)
    (λ l. each_put_all (recorded k e p) k.actors (goes_more p.who.talk (talk_of k p) p.who.did e p.reply (subst (λ ds. Goes p.who.talk ds) (sym s.did_is) (subst (λ t. Goes t did) (sym s.talk_is) g)) s.wrote s.shows) h)
    (λ l. h)

module _ (k : Core) (h : AllGo k) where
  label_goes : (tx : Label) (e : Event) → TellsOf k e [] [] (plan_new k e) → AllGo (for_label k tx e).core
  label_goes tx e new = found (actor_in tx k.actors) refl
    where
      found : (o : Option Actor) → actor_in tx k.actors ≡ o → AllGo (taken k e (plan_with k o e)).core
      found None q = taken_goes k e [] [] (plan_new k e) h (record { writes = refl; told = λ db t. tt }) new
      found (Some r) q = taken_goes k e r.talk r.did (plan_for k r e) h (each_in GoesNow k.actors r h (actor_found tx k.actors r q).0) (plan_tells k r e)

  cut_taken_goes : (c : Core) → AllGo c → (o : Option Point) → AllGo (cut_taken c o).core
  cut_taken_goes c g None = g
  cut_taken_goes c g (Some q) = cond_both (is_greater q c.durable) _ _ (λ (n : Next). AllGo n.core) (λ t. g) (λ t. g)

  flushed_goes : (f : Flush) (n : ℕ) → AllGo (flushed k f n).core
  flushed_goes f zero = h
  flushed_goes f (suc zero) = h
  flushed_goes f (suc (suc n)) = h

  flush_goes : (o : Option Flush) → AllGo (flush_step k o).core
  flush_goes None = h
  flush_goes (Some f) = flushed_goes f f.left

  live_goes : (e : Event) → AllGo (live_step k e).core
  live_goes (event.Begin tx kind) = label_goes tx (event.Begin tx kind) (tells_when k (event.Begin tx kind) [] [] (is_next tx k.actors) _ (begin_tells k tx kind))
  live_goes (event.Select tx) = label_goes tx (event.Select tx) tt
  live_goes (event.OpenStore tx) = label_goes tx (event.OpenStore tx) tt
  live_goes (event.Read tx t key) = label_goes tx (event.Read tx t key) tt
  live_goes (event.Put tx w) = label_goes tx (event.Put tx w) tt
  live_goes (event.Close tx name) = label_goes tx (event.Close tx name) tt
  live_goes (event.Draw tx name) = label_goes tx (event.Draw tx name) tt
  live_goes (event.Check tx) = label_goes tx (event.Check tx) tt
  live_goes (event.Stamp tx name) = label_goes tx (event.Stamp tx name) tt
  live_goes (event.Leave tx name) = label_goes tx (event.Leave tx name) tt
  live_goes event.Cut = cond_both (may_cut k.flush) (cut_next k) (not_now k) (λ (n : Next). AllGo n.core) (λ y. cut_taken_goes (cut_core k) h _) (λ y. h)
  live_goes event.FlushStep = flush_goes k.flush
  live_goes (event.Purge name) = h
  live_goes event.Stop = h
  live_goes event.Reopen = h

  stopped_goes : (e : Event) → AllGo (stopped_step k e).core
  stopped_goes event.Reopen = tt
  stopped_goes e = h

  step_goes : (e : Event) → AllGo (step_core k e).core
  step_goes e = cond_both k.stopped (stopped_step k e) (live_step k e) (λ (n : Next). AllGo n.core) (λ y. stopped_goes e) (λ y. live_goes e)

run_goes : (k : Core) (es : List Event) → AllGo k → AllGo (run k es)
run_goes k [] h = h
run_goes k (e ∷ es) h = run_goes (step_core k e).core es (step_goes k h e)

from_mapped : (P : Transaction → Type 0) (rs : List Actor) → Each P (map transaction_of rs) → Each (λ (r : Actor). P (transaction_of r)) rs
from_mapped P [] h = tt
from_mapped P (r ∷ rs) h = (h.0, from_mapped P rs h.1)

pub explained : RunsAreExplained
explained s events =
    let k : Core = ran s events in
    let head : Headline (traces_of k) = all_one s events in
    each_weaker (λ (r : Actor). TalkTold (view_at (run_of (traces_of k)) r.opened []) r.talk × GoesNow r) (λ (r : Actor). EventsTold (view_at (run_of (traces_of k)) r.opened []) r.did)
    (λ r q. q.1.told (view_at (run_of (traces_of k)) r.opened []) q.0) k.actors
    (each_both (λ (r : Actor). TalkTold (view_at (run_of (traces_of k)) r.opened []) r.talk) GoesNow k.actors
    (from_mapped (λ (t : Transaction). TalkTold (view_at (run_of (traces_of k)) t.snapshots []) t.talk) k.actors head.told)
    (run_goes (core_at s.catalog s.rows s.first s.partitions s.size) events tt))
