use Rattle.std.proofs.Common.{ap, ◌∙◌}
use Rattle.sk_script.specs.Body.{rest_of}
use Rattle.sk_script.proofs.Rising.{rest_is_line}
use Rattle.sk_script.proofs.line.with_option.Goals as goal

pub option_line-requires : goal.option_line-requires
option_line-requires c = rest_is_line _ _ c.args.front.now.end (c.rest_of-words.ensures ∙ ap rest_of c.as_slice.ensures) c.requires
