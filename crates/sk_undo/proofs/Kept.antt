-- The laws of undo records, from the lemmas on each of their steps.
use Rattle.std.proofs.Common.{◌≡◌, Some, None, sym, ◌∙◌, arith}
use Rattle.sk_undo.specs.Laws.{CutKeeps, DropKeeps, PushKeeps, TrimKeeps}
use Rattle.sk_undo.specs.Log.{cut, newest_for}
use Rattle.sk_undo.proofs.Frees.{first_unnamed}
use Rattle.sk_undo.proofs.Keeping.{cut_keeps, dropped_keeps, found_low}
use Rattle.sk_undo.proofs.Places.{at_end}
use Rattle.sk_undo.proofs.Pushes.{push_keeps}
use Rattle.sk_undo.proofs.Trims.{trim_keeps}

pub pushing : PushKeeps
pushing log at older n row from snapshot h free empty fits avoid = push_keeps log at record { older = older; newer = None; n = n; row = row } from snapshot h.0 free empty fits avoid

pub trimming : TrimKeeps
trimming log upto from snapshot h stays le = trim_keeps upto snapshot log from le h.0 stays

pub cutting : CutKeeps
cutting log path upto None snapshot h first le = at_end (cut log path upto) snapshot ∙ sym (at_end log snapshot)
cutting log path upto (Some from) snapshot h first le =
    cut_keeps log (newest_for log path upto) from snapshot h (first_unnamed log (Some from) h.0 first) (λ at e. let low = found_low log path upto at e in omega arith)

pub dropping : DropKeeps
dropping log at from snapshot h first other_first apart =
    dropped_keeps log (Some at) from snapshot h (first_unnamed log (Some at) h.0 first) (first_unnamed log (Some from) h.0 other_first) (λ e. apart (let same : at ≡ from = cc in sym same))
