-- A flush reaches as far as both horizons and the registry let it.
use Rattle.std.specs.Prelude.{◌≡◌, ℕ, List, [], ◌∷◌, ◌++◌, Option, Some, None, Result, Ok, Bool, true, false, cond}
use Rattle.std.proofs.Common.{sym, ap, subst, ◌∙◌, append-nil, ⊎_elim}
use Rattle.sk_model.specs.declared.engine.EngineName.{EngineName}
use Rattle.sk_model.specs.declared.engine.EngineName.TheVariants.{Mem, Store}
use Rattle.sk_model.specs.declared.point.Point.{Point}
use Rattle.sk_model.specs.declared.call.EngineCall.TheVariants as call
use Rattle.sk_model.specs.declared.call.EngineFault.TheVariants as fault
use Rattle.sk_model.specs.declared.call.EngineReply.TheVariants as reply
use Rattle.sk_model.specs.declared.call.Entry.{Entry}
use Rattle.sk_model.specs.Engine.{EngineTable}
use Rattle.sk_model.specs.EngineReplies.{horizon_of}
use Rattle.sk_model.specs.Legal.{Legal, after_entries}
use Rattle.sk_weave.specs.declared.answer.CutFound.{CutFound}
use Rattle.sk_weave.specs.Registry.{Regs, cut_found}
use Rattle.sk_linked.specs.Traces.{horizon_entry}
use Rattle.sk_linked.proofs.Causes.{legal_at}
use Rattle.sk_mem.specs.declared.engine.MemEngine.{MemEngine}
use Rattle.sk_store.specs.declared.engine.StoreEngine.{StoreEngine}
use Rattle.sk_session.specs.Common.{Common}
use Rattle.sk_shared.specs.declared.shared.Shared.{Shared}
use Rattle.sk_shared.specs.Flushing.{FindsCut}
use Rattle.sk_kept.specs.Flushing.{AnsweredFlush}
use Rattle.sk_run.specs.Flushing.{Gives}
use Rattle.sk_run.specs.Reaching.{decided, is_past, reach_from, IsCut, Reaches}

-- ---- a horizon is that of the table

-- it is what the table is due
horizon_due : (e : EngineTable) (js : List Entry) (n : ℕ) → Legal e (js ++ horizon_entry n ∷ []) → n ≡ horizon_of (after_entries e js)
horizon_due e js n h = ⊎_elim (λ (d : (false ≡ true) × (reply.Number n ≡ reply.Fault fault.Device)). absurd (never d.0)) (λ (d : reply.Number (horizon_of (after_entries e js)) ≡ reply.Number n). let same : n ≡ horizon_of (after_entries e js) = cc in same)
    (legal_at e js (horizon_entry n) [] h)
  where
    never : false ≡ true → ⊥
    never k = cc

-- the entries and the first tables are those of the run so far, with the call
table_then : (c d : Common) (name : EngineName) (more : List Entry) → d.first ≡ c.first → d.journals name ≡ c.journals name ++ more → after_entries (d.first name) (d.journals name) ≡ after_entries (c.first name) (c.journals name ++ more)
table_then c d name more first journals = ap (λ (f : EngineName → EngineTable). after_entries (f name) (d.journals name)) first ∙ ap (after_entries (c.first name)) journals

legal_then : (c d : Common) (name : EngineName) (more : List Entry) → d.first ≡ c.first → d.journals name ≡ c.journals name ++ more → Legal (d.first name) (d.journals name) → Legal (c.first name) (c.journals name ++ more)
legal_then c d name more first journals h = subst (Legal (c.first name)) journals (subst (λ (f : EngineName → EngineTable). Legal (f name) (d.journals name)) first h)

is_decided : (c d : Common) (name : EngineName) (n : ℕ) → AnsweredFlush c name call.Horizon (reply.Number n) d → n ≡ decided name c
is_decided c d Mem n a = horizon_due (c.first Mem) (c.journals Mem) n (legal_then c d Mem (horizon_entry n ∷ []) a.first (a.journals Mem) (a.common.legal Mem))
is_decided c d Store n a = horizon_due (c.first Store) (c.journals Store) n (legal_then c d Store (horizon_entry n ∷ []) a.first (a.journals Store) (a.common.legal Store))

-- the horizon of the storage engine stays, where that of the memory engine was asked
stays_decided : (c d : Common) (n : ℕ) → AnsweredFlush c Mem call.Horizon (reply.Number n) d → decided Store d ≡ decided Store c
stays_decided c d n a = ap horizon_of (table_then c d Store [] a.first (a.journals Store) ∙ ap (after_entries (c.first Store)) (append-nil (c.journals Store)))

cut_at : (r s : Regs) (x y u v : ℕ) → s ≡ r → x ≡ u → y ≡ v → (cut_found s x y s.store).cut ≡ (cut_found r u v r.store).cut
cut_at r s x y u v is at_x at_y =
    ap (λ (k : Regs). (cut_found k x y k.store).cut) is ∙ ap (λ (n : ℕ). (cut_found r n y r.store).cut) at_x ∙ ap (λ (n : ℕ). (cut_found r u n r.store).cut) at_y

module _ (mem : MemEngine → EngineTable → List Entry → Type 0) (store : StoreEngine → EngineTable → List Entry → Type 0) where
  -- ---- the cut

  pub finds_cut : {E : Type 0} (old one two new : Shared) (x y : ℕ) (result : Result CutFound E) (found : CutFound) → result ≡ Ok found → Gives mem store old Mem call.Horizon (reply.Number x) one
      → Gives mem store one Store call.Horizon (reply.Number y) two → FindsCut mem store two x y result new → IsCut mem store old found.cut
  finds_cut {E = E} old one two new x y result found is g h cuts c st =
      let a = g c st in
      let b = h a.0 a.2 in
      let at_x : x ≡ decided Mem c = is_decided c a.0 Mem x a.1 in
      let at_y : y ≡ decided Store c = is_decided a.0 b.0 Store y b.1 ∙ stays_decided c a.0 x a.1 in
      let k = subst (λ (r : Result CutFound E). FindsCut mem store two x y r new) is cuts b.0 b.2 in
      ap (λ (f : CutFound). f.cut) k.1.is ∙ cut_at c.regs b.0.regs x y (decided Mem c) (decided Store c) (b.1.regs ∙ a.1.regs) at_x at_y

  -- ---- what a flush finds

  -- the cut, which is past the durable one
  pub reaches_on : (old : Shared) (durable cut : Point) (o : Option Point) → o ≡ Some cut → is_past cut durable ≡ true → IsCut mem store old o → Reaches mem store old durable cut
  reaches_on old durable cut o is past h c st = sym (ap (λ (b : Bool). cond b cut durable) past) ∙ ap (reach_from durable) (sym is ∙ h c st)

  -- the durable cut, where the cut is not past it
  pub reaches_same : (old : Shared) (durable cut : Point) (o : Option Point) → o ≡ Some cut → is_past cut durable ≡ false → IsCut mem store old o → Reaches mem store old durable durable
  reaches_same old durable cut o is past h c st = sym (ap (λ (b : Bool). cond b cut durable) past) ∙ ap (reach_from durable) (sym is ∙ h c st)

  -- and where there is none
  pub reaches_none : (old : Shared) (durable : Point) (o : Option Point) → o ≡ None → IsCut mem store old o → Reaches mem store old durable durable
  reaches_none old durable o is h c st = ap (reach_from durable) (sym is ∙ h c st)
