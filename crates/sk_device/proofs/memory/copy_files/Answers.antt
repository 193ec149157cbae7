use Rattle.std.proofs.Common.{arith, inl, inr, ◌∙◌, sym}
use Rattle.std.proofs.lemmas.Bool.{cases_lt}
use Rattle.sk_device.proofs.Histories.{image_past}
use Rattle.sk_device.proofs.memory.copy_files.Goals as goal

pub returns : goal.returns
returns c = λ file. elim (cases_lt file c.loop-file.file) [
  | inl lt ↦ c.loop-file.invariant.done file lt
  | inr ge ↦ c.loop-file.invariant.rest file ge ∙ sym (image_past c.args.files.now file (omega (arith, ge, c.loop-file-test.false)))
]
