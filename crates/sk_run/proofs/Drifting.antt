-- What a flush asks of the engines and of the registry leaves a run that goes on.
use Rattle.std.specs.Prelude.{◌≡◌, ℕ, ◌<◌, List, [], ◌∷◌, ◌++◌, Option, Some, None, Result, Ok, Err, length}
use Rattle.std.proofs.Common.{refl, sym, subst, ◌∙◌, append-nil, inl, inr}
use Rattle.std.proofs.lemmas.List.{append_assoc}
use Rattle.sk_rows.specs.declared.table.Table.{Table}
use Rattle.sk_rows.specs.Catalog.{IsCatalog}
use Rattle.sk_model.specs.declared.engine.EngineName.{EngineName}
use Rattle.sk_model.specs.declared.engine.EngineName.TheVariants.{Mem, Store}
use Rattle.sk_model.specs.declared.point.Point.{Point}
use Rattle.sk_model.specs.declared.call.EngineCall.{EngineCall}
use Rattle.sk_model.specs.declared.call.EngineCall.TheVariants as call
use Rattle.sk_model.specs.declared.call.EngineReply.{EngineReply}
use Rattle.sk_model.specs.declared.call.EngineReply.TheVariants as reply
use Rattle.sk_model.specs.declared.call.Entry.{Entry}
use Rattle.sk_model.specs.Engine.{EngineTable}
use Rattle.sk_model.proofs.Lists.{each_weaker}
use Rattle.sk_weave.specs.declared.answer.CutFound.{CutFound}
use Rattle.sk_linked.specs.Traces.{In, horizon_entry}
use Rattle.sk_mem.specs.declared.engine.MemEngine.{MemEngine}
use Rattle.sk_store.specs.declared.engine.StoreEngine.{StoreEngine}
use Rattle.sk_store.specs.Loading.{AreOpeningRows}
use Rattle.sk_chain.specs.Applying.{entered_reply}
use Rattle.sk_session.specs.declared.session.Session.{Session}
use Rattle.sk_session.specs.Common.{Common}
use Rattle.sk_session.specs.Denied.{SessionDenied}
use Rattle.sk_session.proofs.Denying.{denied_by_more}
use Rattle.sk_shared.specs.Shared.{Stands}
use Rattle.sk_shared.specs.declared.shared.Shared.{Shared}
use Rattle.sk_shared.specs.Flushing.{FlushedWith, Flushed, HasCut, FindsCut, FindsOldest}
use Rattle.sk_kept.specs.Flushing.{Cuts}
use Rattle.sk_kept.specs.Sessions.{Player, IsRun}
use Rattle.sk_kept.proofs.Flushing.{flush_calls_keep, cuts_keep}
use Rattle.sk_recorded.specs.Flushes.{Flush, AllFlush}
use Rattle.sk_recorded.specs.Growing.{HeardBy}
use Rattle.sk_recorded.proofs.Grown.{grows_none, grows_more, flush_calls_grow, cuts_grow}
use Rattle.sk_recorded.proofs.Denied.{heard_on}
use Rattle.sk_run.specs.Told.{RunLine, AreTold}
use Rattle.sk_run.specs.State.{RunState}
use Rattle.sk_run.specs.Over.{HaveSome}
use Rattle.sk_run.specs.Kept.{Beginning, HasKept, IsKept}
use Rattle.sk_run.specs.Flushing.{DriftsTo, Drifts, Gives, KeepsStill}
use Rattle.sk_run.proofs.Going.{begins_still, flushes_still}

pub in_last : {X : Type 0} (x : X) (ys : List X) → In x (ys ++ x ∷ [])
in_last x [] = inl refl
in_last x (y ∷ ys) = inr (in_last x ys)

module _ (mem : MemEngine → EngineTable → List Entry → Type 0) (store : StoreEngine → EngineTable → List Entry → Type 0) where
  abbrev Goes : List Table → Point → List Point → Common → List Player → Shared → Type 0
  Goes catalog first points c players x = DriftsTo (Stands mem store) catalog first points c players x

  -- what it stood for it stands for
  pub drifts_same : (old new : Shared) → ((c : Common) → Stands mem store old c → Stands mem store new c) → Drifts mem store old new
  drifts_same old new same catalog first points c players st run = record {
    common = c;
    stood = same c st;
    grows = grows_none c;
    more = [];
    run = subst (λ ps. IsRun catalog first ps c players) (sym (append-nil points)) run;
  }

  pub drifts_equal : (old new : Shared) → new ≡ old → Drifts mem store old new
  drifts_equal old new is = drifts_same old new (λ c st. subst (λ x. Stands mem store x c) (sym is) st)

  pub drifts_on : (old mid new : Shared) → Drifts mem store old mid → Drifts mem store mid new → Drifts mem store old new
  drifts_on old mid new h g catalog first points c players st run =
      let a : Goes catalog first points c players mid = h catalog first points c players st run in
      let b : Goes catalog first (points ++ a.more) a.common players new = g catalog first (points ++ a.more) a.common players a.stood a.run in
      record {
        common = b.common;
        stood = b.stood;
        grows = grows_more c a.common b.common a.grows b.grows;
        more = a.more ++ b.more;
        run = subst (λ ps. IsRun catalog first ps b.common players) (append_assoc points a.more b.more) b.run;
      }

  pub gives_drifts : (old new : Shared) (name : EngineName) (asked : EngineCall) (said : EngineReply) → Gives mem store old name asked said new → Drifts mem store old new
  gives_drifts old new name asked said gives catalog first points c players st run =
      let k = gives c st in
      record {
        common = k.0;
        stood = k.2;
        grows = flush_calls_grow c k.0 name asked said k.1;
        more = [];
        run = subst (λ ps. IsRun catalog first ps k.0 players) (sym (append-nil points)) (flush_calls_keep catalog first points c k.0 players name asked said run k.1);
      }

  with_drifts : (old new : Shared) (name : EngineName) (asked : EngineCall) (o : Option EngineReply) → FlushedWith mem store old name asked o new → Drifts mem store old new
  with_drifts old new name asked None h = drifts_same old new h
  with_drifts old new name asked (Some said) h = gives_drifts old new name asked said h

  -- a call of a flush, however it was answered
  pub flushed_drifts : {E : Type 0} (old new : Shared) (name : EngineName) (asked : EngineCall) (result : Result EngineReply E) → Flushed mem store old name asked result new → Drifts mem store old new
  flushed_drifts old new name asked (Ok said) h = with_drifts old new name asked (entered_reply said) h
  flushed_drifts old new name asked (Err e) h = with_drifts old new name asked None h

  -- the cut at two horizons that were answered
  cut_keeps : (old one two new : Shared) (x y : ℕ) → Gives mem store old Mem call.Horizon (reply.Number x) one → Gives mem store one Store call.Horizon (reply.Number y) two
      → ((c : Common) → Stands mem store two c → (found : CutFound) × (d : Common) × HasCut c x y found d × Stands mem store new d) → Drifts mem store old new
  cut_keeps old one two new x y first_given then_given cuts catalog first points c players st run =
      let a = first_given c st in
      let b = then_given a.0 a.2 in
      let k = cuts b.0 b.2 in
      let ran : IsRun catalog first points b.0 players = flush_calls_keep catalog first points a.0 b.0 players Store call.Horizon (reply.Number y) (flush_calls_keep catalog first points c a.0 players Mem call.Horizon (reply.Number x) run a.1) b.1 in
      let mem_is : b.0.journals Mem ≡ c.journals Mem ++ horizon_entry x ∷ [] = b.1.journals Mem ∙ append-nil (a.0.journals Mem) ∙ a.1.journals Mem in
      let cut : Cuts b.0 x y k.1 = record {
        mem = subst (In (horizon_entry x)) (sym mem_is) (in_last (horizon_entry x) (c.journals Mem));
        store = subst (In (horizon_entry y)) (sym (b.1.journals Store)) (in_last (horizon_entry y) (a.0.journals Store));
        drawn_mem = k.2.drawn_mem;
        drawn_store = k.2.drawn_store;
        first = k.2.first;
        journals = k.2.journals;
        regs = k.2.regs;
        common = k.2.common;
      } in
      let went = cuts_keep catalog first points b.0 k.1 players x y ran cut in
      record {
        common = k.1;
        stood = k.3;
        grows = grows_more c b.0 k.1 (grows_more c a.0 b.0 (flush_calls_grow c a.0 Mem call.Horizon (reply.Number x) a.1) (flush_calls_grow a.0 b.0 Store call.Horizon (reply.Number y) b.1)) (cuts_grow b.0 k.1 x y cut);
        more = went.0;
        run = went.1;
      }

  pub cut_drifts : {E : Type 0} (old one two new : Shared) (x y : ℕ) (result : Result CutFound E) → Gives mem store old Mem call.Horizon (reply.Number x) one → Gives mem store one Store call.Horizon (reply.Number y) two
      → FindsCut mem store two x y result new → Drifts mem store old new
  cut_drifts old one two new x y (Ok found) g h cuts = cut_keeps old one two new x y g h (λ c st. let k = cuts c st in (found, k.0, k.1, k.2))
  cut_drifts old one two new x y (Err e) g h cuts =
      drifts_on old one new (gives_drifts old one Mem call.Horizon (reply.Number x) g) (drifts_on one two new (gives_drifts one two Store call.Horizon (reply.Number y) h) (drifts_same two new cuts))

  pub oldest_drifts : (old new : Shared) (q : Point) → FindsOldest mem store old q new → Drifts mem store old new
  oldest_drifts old new q h = drifts_same old new (λ c st. (h c st).1)

  -- where the same sessions went on so, and these flushes were made, it has kept these
  pub kept_with : (old new : RunState) → new.catalog ≡ old.catalog → new.sessions ≡ old.sessions → (b : Beginning) (lines : List RunLine) (fs : List Flush) (k : HasKept mem store b lines fs old)
      (g : Goes old.catalog b.first k.points k.common k.players new.shared) (made : List Flush) → AllFlush (b.first ∷ k.points ++ g.more) g.common.journals b.first made → HasKept mem store b lines made new
  kept_with old new catalog sessions b lines fs k g made flushed = record {
    tables = subst IsCatalog (sym catalog) k.tables;
    opening = subst (λ (tables : List Table). AreOpeningRows tables b.rows) (sym catalog) k.opening;
    few = subst (λ (ss : List Session). length ss < 65536) (sym sessions) k.few;
    common = g.common;
    stood = g.stood;
    begun = begins_still k.common.first g.common.first old.catalog new.catalog b.rows b.first catalog g.grows.first k.begun;
    points = k.points ++ g.more;
    players = k.players;
    sessions_are = sessions ∙ k.sessions_are;
    run = subst (λ (tables : List Table). IsRun tables b.first (k.points ++ g.more) g.common k.players) (sym catalog) g.run;
    between = k.between;
    denied = each_weaker (λ (p : Player). SessionDenied (HeardBy k.common) p.session) (λ (p : Player). SessionDenied (HeardBy g.common) p.session) (λ p d. denied_by_more (HeardBy k.common) (HeardBy g.common) (heard_on k.common g.common g.grows) p.session d) k.players k.denied;
    over = subst HaveSome (sym sessions) k.over;
    told = subst (AreTold 1 lines) (sym sessions) k.told;
    short = k.short;
    flushed = flushed;
  }

  -- so the run has kept what it kept
  pub keeps_still : (old new : RunState) → new.catalog ≡ old.catalog → new.sessions ≡ old.sessions → Drifts mem store old.shared new.shared → KeepsStill mem store old new
  keeps_still old new catalog sessions drifts = record {
    catalog = catalog;
    sessions = sessions;
    kept = λ b lines fs k.
        let g : Goes old.catalog b.first k.points k.common k.players new.shared = drifts old.catalog b.first k.points k.common k.players k.stood k.run in
        kept_with old new catalog sessions b lines fs k g fs (flushes_still k.common g.common b.first k.points g.more fs g.grows k.flushed);
  }

  -- and goes on being a run
  pub kept_still : (old new : RunState) → KeepsStill mem store old new → IsKept mem store old → IsKept mem store new
  kept_still old new still (b, lines, fs, k) = (b, lines, fs, still.kept b lines fs k)
