use Rattle.std.proofs.Common.{rules, arith, ◌≡◌, ◌+◌, ◌<◌, length, drop, true, false, List, Bor, sym, ap, ◌∙◌}
use Rattle.std.specs.List.{list_any}
use Rattle.std.proofs.lemmas.List.{take_rest}
use Rattle.sk_device.specs.declared.change.Change.{Change}
use Rattle.sk_device.specs.declared.change.Change.TheVariants.{Wrote, Synced}
use Rattle.sk_device.specs.declared.memory.MemDevice.{MemDevice}
use Rattle.sk_device.specs.declared.tear.Tear.{Tear}
use Rattle.sk_device.specs.Changes.{syncs, rewritten, cut_short, left_by}
use Rattle.sk_device.specs.Memory.{memory_image}
use Rattle.sk_device.proofs.Histories.{same_image}
use Rattle.sk_device.proofs.Stops.{next, ended, wrote_whole, wrote_torn, synced, chosen_whole, chosen_torn, chosen_next, chosen_all}
use Rattle.sk_device.proofs.stopping.remains.Goals as goal
use Rattle.sk_device.proofs.stopping.remains.Goals.{in-Wrote+then-is_synced+in_ok-redo-in-Wrote, in-Wrote+else-is_synced+in_ok-redo_torn-in-Wrote, in-Synced}

pub changes-preserved : goal.changes-preserved
changes-preserved c =
    let log = c.args.log.now in
    let base = memory_image c.args.base in
    let done = c.changes.done in
    let lt : done < length log = search rules in
    let was = memory_image c.changes.device in
    let now = memory_image c.match-log-done.device in
    let d = c.index-log-done.result in
    let later = drop (done + 1) log in
    let begun = c.changes.invariant in
    record {
      within = omega (arith, lt);
      redone = elim c.match-log-done.branch [
        | in-Wrote+then-is_synced+in_ok-redo-in-Wrote w ↦
            let write = w.in-Wrote.write in
            let made : now ≡ rewritten write was = same_image now (rewritten write was) (λ file. ap (λ (m : MemDevice). memory_image m file) w.device-is ∙ w.in_ok-redo-in-Wrote.ensures file) in
            next base log done d (Wrote write) was now lt (sym c.index-log-done.is ∙ w.in-Wrote.is) (λ redone. wrote_whole base _ _ was now write redone made) begun.redone
        | in-Wrote+else-is_synced+in_ok-redo_torn-in-Wrote w ↦
            let write = w.in-Wrote.write in
            let unsynced : list_any (syncs write.file) (drop (done + 1) log) ≡ false =
            ap (λ (l : List Change). list_any (syncs write.file) l) (sym (take_rest log (done + 1))) ∙ sym w.is_synced.ensures ∙ w.if-is_synced.false in
            let made : now ≡ cut_short write w.first.result was = same_image now (cut_short write w.first.result was) (λ file. ap (λ (m : MemDevice). memory_image m file) w.device-is ∙ w.in_ok-redo_torn-in-Wrote.ensures file) in
            next base log done d (Wrote write) was now lt (sym c.index-log-done.is ∙ w.in-Wrote.is) (λ redone. wrote_torn base _ _ was now write w.first.result redone unsynced made) begun.redone
        | in-Synced w ↦
            next base log done d (Synced w.in-Synced.field-0) was now lt (sym c.index-log-done.is ∙ w.in-Synced.is)
            (λ redone. synced base _ _ was now w.in-Synced.field-0 (ap (λ (m : MemDevice). memory_image m) w.device-is) redone) begun.redone
      ];
      chosen = elim c.match-log-done.branch [
        | in-Wrote+then-is_synced+in_ok-redo-in-Wrote w ↦
            let write = w.in-Wrote.write in
            let settled : list_any (syncs write.file) later ≡ true =
            ap (λ (l : List Change). list_any (syncs write.file) l) (sym (take_rest log (done + 1))) ∙ sym w.is_synced.ensures ∙ w.if-is_synced.true in
            let made : now ≡ rewritten write was = same_image now (rewritten write was) (λ file. ap (λ (m : MemDevice). memory_image m file) w.device-is ∙ w.in_ok-redo-in-Wrote.ensures file) in
            chosen_next log done d (Wrote write) c.changes.open.now c.match-log-done.open.now was now _ lt (sym c.index-log-done.is ∙ w.in-Wrote.is)
            (ap (λ (s : Bor (List Tear)). left_by later s.now now) w.open-is ∙ chosen_whole later c.changes.open.now was now write settled made) begun.chosen
        | in-Wrote+else-is_synced+in_ok-redo_torn-in-Wrote w ↦
            let write = w.in-Wrote.write in
            let unsynced : list_any (syncs write.file) later ≡ false =
            ap (λ (l : List Change). list_any (syncs write.file) l) (sym (take_rest log (done + 1))) ∙ sym w.is_synced.ensures ∙ w.if-is_synced.false in
            let made : now ≡ cut_short write w.first.result was = same_image now (cut_short write w.first.result was) (λ file. ap (λ (m : MemDevice). memory_image m file) w.device-is ∙ w.in_ok-redo_torn-in-Wrote.ensures file) in
            chosen_next log done d (Wrote write) c.changes.open.now c.match-log-done.open.now was now _ lt (sym c.index-log-done.is ∙ w.in-Wrote.is)
            (ap (λ (s : Bor (List Tear)). left_by later s.now now) w.open-is
            ∙ chosen_torn later c.changes.open.now was now write w.rest-open.result.now w.first.result unsynced w.rest-open.ensures w.first.ensures made) begun.chosen
        | in-Synced w ↦
            chosen_next log done d (Synced w.in-Synced.field-0) c.changes.open.now c.match-log-done.open.now was now _ lt (sym c.index-log-done.is ∙ w.in-Synced.is)
            (ap (λ (s : Bor (List Tear)). left_by later s.now now) w.open-is ∙ ap (λ (m : MemDevice). left_by later c.changes.open.now (memory_image m)) w.device-is) begun.chosen
      ];
    }

pub returns-clause-left : goal.returns-clause-left
returns-clause-left c = ended (memory_image c.args.base) c.args.log.now _ c.changes.done _ _ c.changes-test.false c.changes.invariant.redone c.restarted.ensures.left

pub returns-clause-chosen : goal.returns-clause-chosen
returns-clause-chosen c = chosen_all c.args.log.now c.changes.done c.changes.open.now _ _ _ c.changes-test.false c.changes.invariant.chosen c.restarted.ensures.left
