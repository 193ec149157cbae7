-- What a flush finds is a flush of the run behind the others.
use Rattle.std.specs.Prelude.{◌≡◌, ℕ, zero, suc, ◌*◌, ◌≤◌, List, [], ◌∷◌, ◌++◌, Option, Some, None, Result, Ok, Err, IfOk, Bool, true, false, cond, ◌⊎◌, drop}
use Rattle.std.proofs.Common.{refl, sym, ap, subst, ◌∙◌, append-nil, inl, inr, ⊎_elim, arith}
use Rattle.sk_model.specs.declared.engine.EngineName.{EngineName}
use Rattle.sk_model.specs.declared.engine.EngineName.TheVariants.{Mem, Store}
use Rattle.sk_model.specs.declared.point.Point.{Point}
use Rattle.sk_model.specs.declared.commit.Commit.{Commit}
use Rattle.sk_model.specs.declared.call.EngineCall.TheVariants as call
use Rattle.sk_model.specs.declared.call.EngineReply.TheVariants as reply
use Rattle.sk_model.specs.declared.call.Entry.{Entry}
use Rattle.sk_model.specs.Engine.{EngineTable}
use Rattle.sk_weave.specs.declared.answer.CutFound.{CutFound}
use Rattle.sk_weave.specs.Points.{Ascends, Staircase}
use Rattle.sk_linked.specs.Reads.{number_at}
use Rattle.sk_weave.specs.Registry.{Regs, is_within, live_of, after_cut, greatest_within}
use Rattle.sk_linked.specs.Traces.{In}
use Rattle.sk_linked.proofs.Members.{in_front}
use Rattle.sk_mem.specs.declared.engine.MemEngine.{MemEngine}
use Rattle.sk_store.specs.declared.engine.StoreEngine.{StoreEngine}
use Rattle.sk_session.specs.Common.{Common}
use Rattle.sk_shared.specs.Shared.{Stands}
use Rattle.sk_shared.specs.declared.shared.Shared.{Shared}
use Rattle.sk_shared.specs.Flushing.{HasCut, FindsCut, ShowsPoints}
use Rattle.sk_kept.specs.Flushing.{AnsweredFlush}
use Rattle.sk_kept.specs.Sessions.{IsRun}
use Rattle.sk_kept.proofs.Flushing.{flush_calls_keep}
use Rattle.sk_recorded.specs.Joined.{joined, from_number}
use Rattle.sk_recorded.specs.Entries.{records_entry, AreEnough}
use Rattle.sk_recorded.specs.Flushes.{Flush, last_cut}
use Rattle.sk_recorded.proofs.Points.{points_from}
use Rattle.sk_recorded.proofs.Growing.{flushes_go_on}
use Rattle.sk_recorded.proofs.Grown.{grows_more, flush_calls_grow}
use Rattle.sk_run.specs.State.{RunState}
use Rattle.sk_run.specs.Told.{RunLine}
use Rattle.sk_run.specs.Kept.{Beginning, HasKept}
use Rattle.sk_run.specs.Flushing.{DriftsTo, Drifts, Gives, SameNumbers, IsPast, FindsNothing, FindsFlush, FindsBatch, FindsPoint, Joins, FlushesTo, FlushesOn, FindsOn}
use Rattle.sk_run.specs.declared.flushing.Found.{Found}
use Rattle.sk_run.proofs.Going.{flushes_still}
use Rattle.sk_run.proofs.Drifting.{in_last, kept_with}
use Rattle.sk_run.proofs.Showing.{cut_among}

-- ---- the cut is a point

in_drop : {X : Type 0} (x : X) (n : ℕ) (xs : List X) → In x (drop n xs) → In x xs
in_drop x zero xs i = i
in_drop x (suc n) [] i = absurd i
in_drop x (suc n) (y ∷ ys) i = inr (in_drop x n ys i)

-- what is found among points is one of them, or the one that was best so far
found_among : (x y : ℕ) (best : Option Point) (points : List Point) (q : Point) → greatest_within x y best points ≡ Some q → (best ≡ Some q) ⊎ In q points
found_among x y best [] q e = inl e
found_among x y best (p ∷ ps) q e = at (is_within x y p) (found_among x y (cond (is_within x y p) (Some p) best) ps q e)
  where
    at : (b : Bool) → (cond b (Some p) best ≡ Some q) ⊎ In q ps → (best ≡ Some q) ⊎ In q (p ∷ ps)
    at true h = ⊎_elim (λ (k : Some p ≡ Some q). let same : q ≡ p = cc in inr (inl same)) (λ (k : In q ps). inr (inr k)) h
    at false h = ⊎_elim (λ (k : best ≡ Some q). inl k) (λ (k : In q ps). inr (inr k)) h

live_among : (x y : ℕ) (r : Regs) (q : Point) → greatest_within x y None (live_of r) ≡ Some q → In q r.points
live_among x y r q e = ⊎_elim (λ (k : None ≡ Some q). absurd (none k)) (λ (k : In q (live_of r)). in_drop q (r.low * r.size) r.points k) (found_among x y None (live_of r) q e)
  where
    none : None ≡ Some q → ⊥
    none k = cc

-- ---- which flush it is

abbrev answers_of : List Commit → List Commit → EngineName → List Commit
answers_of ms ss Mem = ms
answers_of ms ss Store = ss

abbrev flush_at : Point → List Point → List Commit → List Commit → Flush
flush_at cut points ms ss = record { cut = cut; points = points; answers = answers_of ms ss }

-- no number of the cut is below the point's
goes_past : (cut durable low : Point) → IsPast cut durable → SameNumbers durable low → (name : EngineName) → number_at name low ≤ number_at name cut
goes_past cut durable low past same Mem = let a : durable.a ≤ cut.a = past.0 in let e : durable.a ≡ low.a = same.0 in omega (arith, a, e)
goes_past cut durable low past same Store = let a : durable.b ≤ cut.b = past.1 in let e : durable.b ≡ low.b = same.1 in omega (arith, a, e)

-- the points from its number on are enough
enough_from : (name : EngineName) (points : List Point) (low cut : Point) → Ascends points → In low points → In cut points → low.a ≤ cut.a → AreEnough name points (from_number Mem low.a points) (number_at name low) (number_at name cut)
enough_from name points low cut up i k le =
    subst (λ ps. AreEnough name ps (from_number Mem low.a points) (number_at name low) (number_at name cut)) (append-nil points) (points_from name points [] low cut (subst Ascends (sym (append-nil points)) up) i k le)

behind_ascend : (points : List Point) → Staircase points → Ascends points
behind_ascend [] s = tt
behind_ascend (p ∷ ps) s = s.1

-- both entries stand in the journals
both_told : (c d e : Common) (low cut : Point) (ms ss : List Commit) → AnsweredFlush c Mem (call.Records (number_at Mem low) (number_at Mem cut)) (reply.Commits ms) d
    → AnsweredFlush d Store (call.Records (number_at Store low) (number_at Store cut)) (reply.Commits ss) e → (name : EngineName) → In (records_entry (number_at name low) (number_at name cut) (answers_of ms ss name)) (e.journals name)
both_told c d e low cut ms ss x y Mem =
    subst (In (records_entry low.a cut.a ms)) (sym (y.journals Mem ∙ append-nil (d.journals Mem) ∙ x.journals Mem)) (in_last (records_entry low.a cut.a ms) (c.journals Mem))
both_told c d e low cut ms ss x y Store = subst (In (records_entry low.b cut.b ss)) (sym (y.journals Store)) (in_last (records_entry low.b cut.b ss) (d.journals Store))

module _ (mem : MemEngine → EngineTable → List Entry → Type 0) (store : StoreEngine → EngineTable → List Entry → Type 0) where
  -- the cut that the registry found
  point_found : (old one two new : Shared) (x y : ℕ) (found : CutFound) → Gives mem store old Mem call.Horizon (reply.Number x) one → Gives mem store one Store call.Horizon (reply.Number y) two
      → ((c : Common) → Stands mem store two c → (d : Common) × HasCut c x y found d × Stands mem store new d) → (cut : Option Point) → found.cut ≡ cut → FindsPoint mem store old cut new
  point_found old one two new x y found g h cuts None is = tt
  point_found old one two new x y found g h cuts (Some q) is = λ c e st now.
      let a = g c st in
      let b = h a.0 a.2 in
      let k = cuts b.0 b.2 in
      let here : In q (after_cut b.0.regs x y b.0.regs.store).points = live_among x y (after_cut b.0.regs x y b.0.regs.store) q (sym (ap (λ (f : CutFound). f.cut) k.1.is) ∙ is) in
      subst (In q) (sym (ap (λ (r : Regs). r.points) k.1.regs) ∙ sym k.2.logged.all ∙ now.logged.all) here

  pub finds_point : {E : Type 0} (old one two new : Shared) (x y : ℕ) (result : Result CutFound E) (found : CutFound) → result ≡ Ok found → Gives mem store old Mem call.Horizon (reply.Number x) one
      → Gives mem store one Store call.Horizon (reply.Number y) two → FindsCut mem store two x y result new → FindsPoint mem store old found.cut new
  finds_point old one two new x y result found is g h cuts = point_found old one two new x y found g h (subst (λ r. FindsCut mem store two x y r new) is cuts) found.cut refl

  -- the same by numbers of another point
  joins_at : (old new : Shared) (name : EngineName) (durable low cut : Point) (cs : List Commit) → SameNumbers durable low → Joins mem store old name (number_at name durable) (number_at name cut) durable.a cs new
      → Joins mem store old name (number_at name low) (number_at name cut) low.a cs new
  joins_at old new Mem durable low cut cs same j = subst (λ (n : ℕ). Joins mem store old Mem n cut.a n cs new) same.0 j
  joins_at old new Store durable low cut cs same j =
      subst (λ (n : ℕ). Joins mem store old Store n cut.b low.a cs new) same.1 (subst (λ (n : ℕ). Joins mem store old Store durable.b cut.b n cs new) same.0 j)

  pub joins_points : (old new : Shared) (name : EngineName) (from to : ℕ) (durable : Point) (answered cs : List Commit) (points : List Point) → Gives mem store old name (call.Records from to) (reply.Commits answered) new → ShowsPoints mem store new durable points
      → cs ≡ joined name points answered → Joins mem store old name from to durable.a cs new
  joins_points old new name from to durable answered cs points gives shows is = record {
    answered = answered;
    gives = gives;
    joins = λ c st. is ∙ ap (λ (ps : List Point). joined name ps answered) (shows c st);
  }

  -- so what was found is a flush from the point on that has the durable cut's numbers
  pub flushes_on : (old one two new : Shared) (durable cut : Point) (ms ss : List Commit) → IsPast cut durable → Drifts mem store old one → FindsPoint mem store old (Some cut) one
      → Joins mem store one Mem (number_at Mem durable) (number_at Mem cut) durable.a ms two → Joins mem store two Store (number_at Store durable) (number_at Store cut) durable.a ss new
      → FlushesOn mem store old durable (record { cut = cut; mem = ms; store = ss }) new
  flushes_on old one two new durable cut ms ss past drifts point told_mem told_store catalog first points c players low st run i same =
      let g : DriftsTo (Stands mem store) catalog first points c players one = drifts catalog first points c players st run in
      let jm : Joins mem store one Mem (number_at Mem low) (number_at Mem cut) low.a ms two = joins_at one two Mem durable low cut ms same told_mem in
      let js : Joins mem store two Store (number_at Store low) (number_at Store cut) low.a ss new = joins_at two new Store durable low cut ss same told_store in
      let all : List Point = first ∷ points ++ g.more in
      let used : List Point = from_number Mem low.a all in
      let a = jm.gives g.common g.stood in
      let e = js.gives a.0 a.2 in
      let ran : IsRun catalog first (points ++ g.more) a.0 players = flush_calls_keep catalog first (points ++ g.more) g.common a.0 players Mem (call.Records low.a cut.a) (reply.Commits jm.answered) g.run a.1 in
      let now : IsRun catalog first (points ++ g.more) e.0 players = flush_calls_keep catalog first (points ++ g.more) a.0 e.0 players Store (call.Records low.b cut.b) (reply.Commits js.answered) ran e.1 in
      let here : In cut all = subst (In cut) g.run.running.held.points_are (point c g.common st g.stood) in
      let there : In low all = in_front low (first ∷ points) g.more i in
      let up : Ascends all = behind_ascend all (subst Staircase now.running.held.points_are now.running.held.common.sound.stairs) in
      record {
        goes = record {
          common = e.0;
          stood = e.2;
          grows = grows_more c g.common e.0 g.grows
              (grows_more g.common a.0 e.0 (flush_calls_grow g.common a.0 Mem (call.Records low.a cut.a) (reply.Commits jm.answered) a.1) (flush_calls_grow a.0 e.0 Store (call.Records low.b cut.b) (reply.Commits js.answered) e.1));
          more = g.more;
          run = now;
        };
        flush = flush_at cut used jm.answered js.answered;
        is = record {
          cut = refl;
          past = past;
          mem = append-nil (joined Mem used jm.answered) ∙ sym (jm.joins a.0 a.2 ∙ ap (λ (ps : List Point). joined Mem (from_number Mem low.a ps) jm.answered) ran.running.held.points_are);
          store = append-nil (joined Store used js.answered) ∙ sym (js.joins e.0 e.2 ∙ ap (λ (ps : List Point). joined Store (from_number Mem low.a ps) js.answered) now.running.held.points_are);
        };
        flushes = record {
          cut = here;
          goes_on = goes_past cut durable low past same;
          asked = both_told g.common a.0 e.0 low cut jm.answered js.answered a.1 e.1;
          enough = λ name. enough_from name all low cut up there here (goes_past cut durable low past same Mem);
        };
      }

  -- ---- of the run

  pub finds_batch : {E : Type 0} (old new : RunState) (durable : Point) (result : Result Found E) → new.catalog ≡ old.catalog → new.sessions ≡ old.sessions
      → IfOk result (λ (found : Found). FindsOn mem store old.shared durable found new.shared) → IfOk result (λ (found : Found). FindsBatch mem store old durable found new)
  finds_batch old new durable (Err e) catalog sessions h = tt
  finds_batch old new durable (Ok found) catalog sessions h = λ b lines fs k same.
      ⊎_elim (λ (n : FindsNothing durable found). inl n) (λ (on : FlushesOn mem store old.shared durable found new.shared). inr (one b lines fs k same on)) h
    where
      one : (b : Beginning) (lines : List RunLine) (fs : List Flush) (k : HasKept mem store b lines fs old) → SameNumbers durable (last_cut b.first fs) → FlushesOn mem store old.shared durable found new.shared → FindsFlush mem store b lines fs durable found new
      one b lines fs k same on =
          let t : FlushesTo mem store old.catalog b.first k.points k.common k.players (last_cut b.first fs) durable found new.shared =
          on old.catalog b.first k.points k.common k.players (last_cut b.first fs) k.stood k.run (cut_among b k.points k.common.journals fs k.flushed) same in
          record {
            flush = t.flush;
            is = t.is;
            kept = kept_with mem store old new catalog sessions b lines fs k t.goes (fs ++ t.flush ∷ [])
                (flushes_go_on (b.first ∷ k.points ++ t.goes.more) t.goes.common.journals b.first fs t.flush
                (flushes_still k.common t.goes.common b.first k.points t.goes.more fs t.goes.grows k.flushed) t.flushes).all;
          }
