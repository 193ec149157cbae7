-- What a flush's calls leave of all that the sessions share.
use Rattle.std.specs.Prelude.{◌≡◌, ℕ, List, [], ◌++◌, Option, Some, None, true, Result, Ok, Err, IfOk, OnErr}
use Rattle.std.proofs.Common.{refl, sym, subst, append-nil}
use Rattle.sk_model.specs.declared.engine.EngineName.{EngineName}
use Rattle.sk_model.specs.declared.engine.EngineName.TheVariants.{Mem, Store}
use Rattle.sk_model.specs.declared.point.Point.{Point}
use Rattle.sk_model.specs.declared.call.EngineCall.{EngineCall}
use Rattle.sk_model.specs.declared.call.EngineCall.TheVariants as call
use Rattle.sk_model.specs.declared.call.EngineReply.{EngineReply}
use Rattle.sk_model.specs.declared.call.Entry.{Entry}
use Rattle.sk_model.specs.Engine.{EngineTable}
use Rattle.sk_model.specs.EngineConditions.{may}
use Rattle.sk_model.specs.Legal.{after_entries}
use Rattle.sk_model.specs.Talks.{own, call_in, tx_of}
use Rattle.sk_weave.specs.declared.answer.CutFound.{CutFound}
use Rattle.sk_weave.specs.Registry.{after_cut}
use Rattle.sk_linked.specs.Joining.{MayRecord}
use Rattle.sk_mem.specs.declared.engine.MemEngine.{MemEngine}
use Rattle.sk_store.specs.declared.engine.StoreEngine.{StoreEngine}
use Rattle.sk_chain.specs.Runs.{entered_by}
use Rattle.sk_chain.specs.Applying.{entered_reply}
use Rattle.sk_session.specs.Common.{Common}
use Rattle.sk_shared.specs.Kept.{Keeps, MayMake}
use Rattle.sk_shared.specs.Logged.{Logs, CutsLog, LogsSame, ShowsOldest}
use Rattle.sk_shared.specs.Pair.{AsksForNobody}
use Rattle.sk_shared.specs.declared.shared.Shared.{Shared}
use Rattle.sk_shared.specs.Shared.{Stands}
use Rattle.sk_shared.specs.Flushing.{FlushedWith, Flushed, FindsCut, FindsOldest}
use Rattle.sk_shared.proofs.Answering.{stands_for}

-- a call that may be made may ask for records
may_record : (e : EngineTable) (asked : EngineCall) → may e asked ≡ true → MayRecord e asked
may_record e (call.Open tx s) h = tt
may_record e (call.Get tx t key) h = tt
may_record e (call.Scan tx t) h = tt
may_record e (call.Put tx t key row) h = tt
may_record e (call.Close tx) h = tt
may_record e (call.Stamp tx n) h = tt
may_record e (call.Void tx n) h = tt
may_record e (call.DropTx tx) h = tt
may_record e call.Horizon h = tt
may_record e (call.Records from to) h = h
may_record e (call.Purge upto) h = tt

module _ (mem : MemEngine → EngineTable → List Entry → Type 0) (store : StoreEngine → EngineTable → List Entry → Type 0) where
  abbrev behind : Common → EngineName → EngineCall → EngineReply → Common
  behind c name asked reply = record { first = c.first; journals = λ other. c.journals other ++ call_in other (own name asked reply); regs = c.regs }

  mem_flushed : (old new : Shared) (asked : EngineCall) (o : Option EngineReply) → tx_of asked ≡ None → MayMake mem old.engines.mem asked
      → ((first : EngineTable) (js : List Entry) → Keeps mem old.engines.mem first js → Keeps mem new.engines.mem first (js ++ entered_by asked o))
      → new.engines.store ≡ old.engines.store → new.log ≡ old.log → FlushedWith mem store old Mem asked o new
  mem_flushed old new asked None nobody made enters other same =
      λ c st. stands_for mem store new c (subst (λ js. Keeps mem new.engines.mem (c.first Mem) js) (append-nil (c.journals Mem)) (enters (c.first Mem) (c.journals Mem) st.mem_kept))
      (subst (λ x. Keeps store x (c.first Store) (c.journals Store)) (sym other) st.store_kept) (subst (λ x. Logs x c.regs) (sym same) st.logged)
  mem_flushed old new asked (Some reply) nobody made enters other same =
      λ c st. let now : Stands mem store new (behind c Mem asked reply)
      = stands_for mem store new (behind c Mem asked reply) (enters (c.first Mem) (c.journals Mem) st.mem_kept)
      (subst (λ x. Keeps store x (c.first Store) (c.journals Store ++ [])) (sym other) (subst (λ js. Keeps store old.engines.store (c.first Store) js) (sym (append-nil (c.journals Store))) st.store_kept))
      (subst (λ x. Logs x c.regs) (sym same) st.logged) in (
        behind c Mem asked reply,
        record {
          nobody = nobody;
          may = may_record (after_entries (c.first Mem) (c.journals Mem)) asked (made (c.first Mem) (c.journals Mem) st.mem_kept);
          first = refl;
          journals = λ name. refl;
          regs = refl;
          common = now.common;
        },
        now,
      )

  store_flushed : (old new : Shared) (asked : EngineCall) (o : Option EngineReply) → tx_of asked ≡ None → MayMake store old.engines.store asked
      → ((first : EngineTable) (js : List Entry) → Keeps store old.engines.store first js → Keeps store new.engines.store first (js ++ entered_by asked o))
      → new.engines.mem ≡ old.engines.mem → new.log ≡ old.log → FlushedWith mem store old Store asked o new
  store_flushed old new asked None nobody made enters other same =
      λ c st. stands_for mem store new c (subst (λ x. Keeps mem x (c.first Mem) (c.journals Mem)) (sym other) st.mem_kept)
      (subst (λ js. Keeps store new.engines.store (c.first Store) js) (append-nil (c.journals Store)) (enters (c.first Store) (c.journals Store) st.store_kept)) (subst (λ x. Logs x c.regs) (sym same) st.logged)
  store_flushed old new asked (Some reply) nobody made enters other same =
      λ c st. let now : Stands mem store new (behind c Store asked reply)
      = stands_for mem store new (behind c Store asked reply)
      (subst (λ x. Keeps mem x (c.first Mem) (c.journals Mem ++ [])) (sym other) (subst (λ js. Keeps mem old.engines.mem (c.first Mem) js) (sym (append-nil (c.journals Mem))) st.mem_kept))
      (enters (c.first Store) (c.journals Store) st.store_kept)
      (subst (λ x. Logs x c.regs) (sym same) st.logged) in (
        behind c Store asked reply,
        record {
          nobody = nobody;
          may = may_record (after_entries (c.first Store) (c.journals Store)) asked (made (c.first Store) (c.journals Store) st.store_kept);
          first = refl;
          journals = λ name. refl;
          regs = refl;
          common = now.common;
        },
        now,
      )

  -- nothing was entered
  mem_unanswered : (old new : Shared) (asked : EngineCall) → ((first : EngineTable) (js : List Entry) → Keeps mem old.engines.mem first js → Keeps mem new.engines.mem first (js ++ []))
      → new.engines.store ≡ old.engines.store → new.log ≡ old.log → FlushedWith mem store old Mem asked None new
  mem_unanswered old new asked enters other same c st =
      stands_for mem store new c (subst (λ js. Keeps mem new.engines.mem (c.first Mem) js) (append-nil (c.journals Mem)) (enters (c.first Mem) (c.journals Mem) st.mem_kept))
      (subst (λ x. Keeps store x (c.first Store) (c.journals Store)) (sym other) st.store_kept) (subst (λ x. Logs x c.regs) (sym same) st.logged)

  store_unanswered : (old new : Shared) (asked : EngineCall) → ((first : EngineTable) (js : List Entry) → Keeps store old.engines.store first js → Keeps store new.engines.store first (js ++ []))
      → new.engines.mem ≡ old.engines.mem → new.log ≡ old.log → FlushedWith mem store old Store asked None new
  store_unanswered old new asked enters other same c st =
      stands_for mem store new c (subst (λ x. Keeps mem x (c.first Mem) (c.journals Mem)) (sym other) st.mem_kept)
      (subst (λ js. Keeps store new.engines.store (c.first Store) js) (append-nil (c.journals Store)) (enters (c.first Store) (c.journals Store) st.store_kept)) (subst (λ x. Logs x c.regs) (sym same) st.logged)

  pub flushed : {E : Type 0} (old new : Shared) (name : EngineName) (asked : EngineCall) (result : Result EngineReply E) → tx_of asked ≡ None
      → AsksForNobody mem store old.engines name asked result new.engines → new.log ≡ old.log → Flushed mem store old name asked result new
  flushed old new Mem asked (Ok reply) nobody a same = mem_flushed old new asked (entered_reply reply) nobody a.0 a.1 a.2 same
  flushed old new Mem asked (Err e) nobody a same = mem_unanswered old new asked a.1 a.2 same
  flushed old new Store asked (Ok reply) nobody a same = store_flushed old new asked (entered_reply reply) nobody a.0 a.1 a.2 same
  flushed old new Store asked (Err e) nobody a same = store_unanswered old new asked a.1 a.2 same

  -- ---- the registry

  pub found_cut : {E : Type 0} (old new : Shared) (x y : ℕ) (result : Result CutFound E) → IfOk result (λ found. CutsLog old.log x y found new.log) → OnErr result (LogsSame old.log new.log)
      → new.engines ≡ old.engines → FindsCut mem store old x y result new
  found_cut old new x y (Ok found) cuts fails same =
      λ c st. let k = cuts c.regs st.logged in
      let d : Common = record { first = c.first; journals = c.journals; regs = after_cut c.regs x y c.regs.store } in
      let now : Stands mem store new d
      = stands_for mem store new d (subst (λ e. Keeps mem e.mem (c.first Mem) (c.journals Mem)) (sym same) st.mem_kept) (subst (λ e. Keeps store e.store (c.first Store) (c.journals Store)) (sym same) st.store_kept) k.3 in
      (d, record { is = k.2; drawn_mem = k.0; drawn_store = k.1; first = refl; journals = λ name. refl; regs = refl; common = now.common }, now)
  found_cut old new x y (Err e) cuts fails same =
      λ c st. stands_for mem store new c (subst (λ p. Keeps mem p.mem (c.first Mem) (c.journals Mem)) (sym same) st.mem_kept) (subst (λ p. Keeps store p.store (c.first Store) (c.journals Store)) (sym same) st.store_kept)
      (fails c.regs st.logged)

  pub found_oldest : (old new : Shared) (q : Point) → ShowsOldest old.log q new.log → new.engines ≡ old.engines → FindsOldest mem store old q new
  found_oldest old new q shows same c st =
      let k = shows c.regs st.logged in (
        k.0,
        stands_for mem store new c (subst (λ p. Keeps mem p.mem (c.first Mem) (c.journals Mem)) (sym same) st.mem_kept) (subst (λ p. Keeps store p.store (c.first Store) (c.journals Store)) (sym same) st.store_kept) k.1,
      )
