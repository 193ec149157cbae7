use Rattle.std.proofs.Common.{◌∷◌, ◌∙◌, ap, List, reverse}
use Rattle.sk_device.specs.declared.change.Change.{Change}
use Rattle.sk_device.specs.declared.change.Change.TheVariants.{Wrote}
use Rattle.sk_device.proofs.tearing.put.Goals as goal

pub returns-clause-keeps : goal.returns-clause-keeps
returns-clause-keeps c = record {
  write = c.in_ok-write.write;
  is_file = c.in_ok-write.ensures.file;
  is_at = c.in_ok-write.ensures.at;
  is_size = c.in_ok-write.ensures.size;
  is_bytes = c.in_ok-write.ensures.bytes;
  pushed = c.keep.ensures ∙ ap (λ (l : List Change). Wrote c.in_ok-write.write ∷ reverse l) c.prepared.ensures.log;
}
