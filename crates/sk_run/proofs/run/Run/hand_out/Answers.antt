-- What is handed out is of the run's lines, and its list of its sessions.
use Rattle.std.proofs.Common.{List, sym, ap, subst, ◌∙◌, refl, map}
use Rattle.sk_model.specs.declared.commit.Commit.{Commit}
use Rattle.sk_model.specs.declared.record.Record.{Record}
use Rattle.sk_model.specs.Places.{place}
use Rattle.sk_model.specs.Records.{InTurn}
use Rattle.sk_session.specs.Starting.{records_now}
use Rattle.sk_linked.specs.Kept.{Play}
use Rattle.sk_run.specs.State.{RunState}
use Rattle.sk_recorded.specs.Flushes.{Flush}
use Rattle.sk_run.specs.Told.{RunLine}
use Rattle.sk_run.specs.Kept.{Beginning}
use Rattle.sk_run.specs.Ended.{HandsOut}
use Rattle.sk_run.specs.declared.ended.Ended.{Ended}
use Rattle.sk_run.proofs.Stands.{mem_stands, store_stands}
use Rattle.sk_linked.specs.Traces.{In}
use Rattle.sk_run.specs.Over.{AllRest, HasAllOver, HasOnlyOver}
use Rattle.sk_run.proofs.Over.{over_is_out, out_is_over}
use Rattle.sk_run.proofs.Ending.{same_left, was_left, in_turn, ended}
use Rattle.sk_run.proofs.run.Run.hand_out.Goals as goal

pub order-requires : goal.order-requires
order-requires c =
    let left = was_left mem_stands store_stands _ c.into_parts-mem_journal.result c.in_ok-records.records c.self.invariant c.into_parts-mem_journal.ensures c.in_ok-records.ensures in
    (left.0, same_left left.0 _ _ _ _ _ _ c.as_slice.ensures c.as_slice-2.ensures left.1)

pub places-requires-clause-by_mem : goal.places-requires-clause-by_mem
places-requires-clause-by_mem c = subst (InTurn (λ (d : Commit). d.mem)) (sym c.as_slice-3.ensures)
    (in_turn mem_stands store_stands _ c.into_parts-mem_journal.result c.in_ok-records.records c.in_ok-order.order c.self.invariant c.into_parts-mem_journal.ensures c.in_ok-records.ensures
    (λ (p : Play) left. c.in_ok-order.ensures p (same_left p _ _ _ _ _ _ c.as_slice.ensures c.as_slice-2.ensures left))).0

pub places-requires-clause-by_store : goal.places-requires-clause-by_store
places-requires-clause-by_store c = subst (InTurn (λ (d : Commit). d.store)) (sym c.as_slice-3.ensures)
    (in_turn mem_stands store_stands _ c.into_parts-mem_journal.result c.in_ok-records.records c.in_ok-order.order c.self.invariant c.into_parts-mem_journal.ensures c.in_ok-records.ensures
    (λ (p : Play) left. c.in_ok-order.ensures p (same_left p _ _ _ _ _ _ c.as_slice.ensures c.as_slice-2.ensures left))).1

pub returns-clause-hands_out : goal.returns-clause-hands_out
returns-clause-hands_out c =
    let out : Ended = record {
      records = c.in_ok-records.records;
      order = c.in_ok-order.order;
      places = c.in_ok-places.places;
      mem = c.into_parts-mem_journal.result.mem_journal;
      store = c.into_parts-mem_journal.result.store_journal;
      points = c.into_parts-mem_journal.result.points;
    } in
    subst (λ (x : RunState). HandsOut mem_stands store_stands x out) c.self.view_is
    (λ (b : Beginning) (lines steps : List RunLine) (fs : List Flush) are k. ended mem_stands store_stands b lines steps fs _ c.into_parts-mem_journal.result out (map records_now c.self.inside.sessions.items) are k c.into_parts-mem_journal.ensures
    (λ (p : Play) left. c.in_ok-order.ensures p (same_left p _ _ _ _ _ _ c.as_slice.ensures c.as_slice-2.ensures left)) refl c.in_ok-records.ensures
    (c.in_ok-places.ensures ∙ ap (λ (cs : List Commit). map (λ (r : Record). place cs r.mem r.store) c.as_slice-4.result.now) c.as_slice-3.ensures ∙ ap (map (λ (r : Record). place c.in_ok-order.order r.mem r.store)) c.as_slice-4.ensures)
    refl refl refl)

pub returns-clause-over : goal.returns-clause-over
returns-clause-over c = subst (λ (x : RunState). HasAllOver x c.in_ok-records.records) c.self.view_is (λ r o. subst (In r) (sym c.in_ok-records.ensures) (over_is_out _ r o))

pub returns-clause-only : goal.returns-clause-only
returns-clause-only c = subst (λ (x : RunState). AllRest x → HasOnlyOver x c.in_ok-records.records) c.self.view_is (λ rest r i. out_is_over _ r c.self.invariant.3.over rest (subst (In r) c.in_ok-records.ensures i))
