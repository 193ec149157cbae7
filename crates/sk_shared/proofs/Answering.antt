-- What an answer leaves of all that the sessions share.
use Rattle.std.specs.Prelude.{◌≡◌, List, ◌++◌, Result, Ok, Err, IfOk}
use Rattle.std.proofs.Common.{refl, sym, ap, subst, ◌∙◌, append-nil}
use Rattle.sk_model.specs.declared.engine.EngineName.{EngineName}
use Rattle.sk_model.specs.declared.engine.EngineName.TheVariants.{Mem, Store}
use Rattle.sk_model.specs.declared.call.EngineCall.{EngineCall}
use Rattle.sk_model.specs.declared.call.EngineReply.{EngineReply}
use Rattle.sk_model.specs.declared.call.Entry.{Entry}
use Rattle.sk_model.specs.Engine.{EngineTable}
use Rattle.sk_model.specs.Legal.{Legal}
use Rattle.sk_model.specs.Talks.{calls_in}
use Rattle.sk_mem.specs.declared.engine.MemEngine.{MemEngine}
use Rattle.sk_store.specs.declared.engine.StoreEngine.{StoreEngine}
use Rattle.sk_commit.specs.declared.asking.RegistryCall.{RegistryCall}
use Rattle.sk_commit.specs.declared.asking.RegistryReply.{RegistryReply}
use Rattle.sk_commit.specs.declared.asking.Wish.TheVariants as wish
use Rattle.sk_commit.specs.declared.asking.Got.TheVariants as given
use Rattle.sk_commit.specs.Fits.{made_call}
use Rattle.sk_session.specs.Common.{Common}
use Rattle.sk_shared.specs.Kept.{Keeps, Asks}
use Rattle.sk_shared.specs.Logged.{Logs, Registered}
use Rattle.sk_shared.specs.declared.shared.Shared.{Shared}
use Rattle.sk_shared.specs.Shared.{Stands, Answers}
use Rattle.sk_shared.proofs.Entries.{own_entries, other_entries}

module _ (mem : MemEngine → EngineTable → List Entry → Type 0) (store : StoreEngine → EngineTable → List Entry → Type 0) where
  -- what stands for all parts stands for the whole
  pub stands_for : (x : Shared) (c : Common) → Keeps mem x.engines.mem (c.first Mem) (c.journals Mem) → Keeps store x.engines.store (c.first Store) (c.journals Store) → Logs x.log c.regs → Stands mem store x c
  stands_for x c m s l = record {
    mem_kept = m;
    store_kept = s;
    logged = l;
    common = record { legal = legal; sound = l.stands.sound };
  }
    where
      legal : (name : EngineName) → Legal (c.first name) (c.journals name)
      legal Mem = m.from.legal
      legal Store = s.from.legal

  abbrev behind : Common → EngineName → EngineCall → EngineReply → Common
  behind c name asked reply = record { first = c.first; journals = λ other. c.journals other ++ calls_in other (made_call name asked reply); regs = c.regs }

  -- a call of the memory engine was answered
  mem_answered : (E : Type 0) (old new : Shared) (asked : EngineCall) (reply : EngineReply) → Asks {E = E} mem old.engines.mem asked (Ok reply) new.engines.mem
      → new.engines.store ≡ old.engines.store → new.log ≡ old.log → Answers mem store old (wish.Mem asked) (given.Engine reply) new
  mem_answered E old new asked reply asks other same c st =
      let kept : Keeps mem new.engines.mem (c.first Mem) (c.journals Mem ++ calls_in Mem (made_call Mem asked reply))
      = subst (λ js. Keeps mem new.engines.mem (c.first Mem) (c.journals Mem ++ js)) (own_entries Mem asked reply) (asks (c.first Mem) (c.journals Mem) st.mem_kept) in
      let left : Keeps store new.engines.store (c.first Store) (c.journals Store ++ calls_in Store (made_call Mem asked reply))
      = subst (λ x. Keeps store x (c.first Store) (c.journals Store ++ calls_in Store (made_call Mem asked reply))) (sym other)
      (subst (λ js. Keeps store old.engines.store (c.first Store) js) (sym (ap (λ js. c.journals Store ++ js) (other_entries Mem Store asked reply refl) ∙ append-nil (c.journals Store))) st.store_kept) in
      let now : Stands mem store new (behind c Mem asked reply) = stands_for new (behind c Mem asked reply) kept left (subst (λ x. Logs x c.regs) (sym same) st.logged) in
      (behind c Mem asked reply, record { first = refl; journals = λ name. refl; regs = refl; common = now.common }, now)

  -- a call of the storage engine was answered
  store_answered : (E : Type 0) (old new : Shared) (asked : EngineCall) (reply : EngineReply) → Asks {E = E} store old.engines.store asked (Ok reply) new.engines.store
      → new.engines.mem ≡ old.engines.mem → new.log ≡ old.log → Answers mem store old (wish.Store asked) (given.Engine reply) new
  store_answered E old new asked reply asks other same c st =
      let kept : Keeps store new.engines.store (c.first Store) (c.journals Store ++ calls_in Store (made_call Store asked reply))
      = subst (λ js. Keeps store new.engines.store (c.first Store) (c.journals Store ++ js)) (own_entries Store asked reply) (asks (c.first Store) (c.journals Store) st.store_kept) in
      let left : Keeps mem new.engines.mem (c.first Mem) (c.journals Mem ++ calls_in Mem (made_call Store asked reply))
      = subst (λ x. Keeps mem x (c.first Mem) (c.journals Mem ++ calls_in Mem (made_call Store asked reply))) (sym other)
      (subst (λ js. Keeps mem old.engines.mem (c.first Mem) js) (sym (ap (λ js. c.journals Mem ++ js) (other_entries Store Mem asked reply refl) ∙ append-nil (c.journals Mem))) st.mem_kept) in
      let now : Stands mem store new (behind c Store asked reply) = stands_for new (behind c Store asked reply) left kept (subst (λ x. Logs x c.regs) (sym same) st.logged) in
      (behind c Store asked reply, record { first = refl; journals = λ name. refl; regs = refl; common = now.common }, now)

  -- where there was room for the point of its commit
  pub mem_asked : {E : Type 0} (old mid new : Shared) (asked : EngineCall) (result : Result EngineReply E) → mid ≡ old → Asks mem mid.engines.mem asked result new.engines.mem
      → new.engines.store ≡ mid.engines.store → new.log ≡ mid.log → IfOk result (λ reply. Answers mem store old (wish.Mem asked) (given.Engine reply) new)
  mem_asked {E} old mid new asked (Ok reply) room asks other same = subst (λ x. Answers mem store x (wish.Mem asked) (given.Engine reply) new) room (mem_answered E mid new asked reply asks other same)
  mem_asked old mid new asked (Err e) room asks other same = tt

  pub store_asked : {E : Type 0} (old mid new : Shared) (asked : EngineCall) (result : Result EngineReply E) → mid ≡ old → Asks store mid.engines.store asked result new.engines.store
      → new.engines.mem ≡ mid.engines.mem → new.log ≡ mid.log → IfOk result (λ reply. Answers mem store old (wish.Store asked) (given.Engine reply) new)
  store_asked {E} old mid new asked (Ok reply) room asks other same = subst (λ x. Answers mem store x (wish.Store asked) (given.Engine reply) new) room (store_answered E mid new asked reply asks other same)
  store_asked old mid new asked (Err e) room asks other same = tt

  -- a call of the registry was answered
  pub reg_answered : (old new : Shared) (asked : RegistryCall) (reply : RegistryReply) → Registered old.log asked reply new.log → new.engines ≡ old.engines → Answers mem store old (wish.Reg asked) (given.Reg reply) new
  reg_answered old new asked reply told same c st =
      let k = told c.regs st.logged in
      let d : Common = record { first = c.first; journals = c.journals; regs = k.0 } in
      let now : Stands mem store new d
      = stands_for new d (subst (λ x. Keeps mem x.mem (c.first Mem) (c.journals Mem)) (sym same) st.mem_kept) (subst (λ x. Keeps store x.store (c.first Store) (c.journals Store)) (sym same) st.store_kept) k.2 in
      (d, record { first = refl; journals = λ name. sym (append-nil (c.journals name)); regs = k.1; common = now.common }, now)
