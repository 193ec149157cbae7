use Rattle.std.proofs.Common.{◌≡◌, ap, subst, sym, ◌∙◌}
use Rattle.sk_script.specs.Legible.{capped, reach, with_text}
use Rattle.sk_script.specs.Lines.{IsLine}
use Rattle.sk_script.proofs.Rising.{front_is_line}
use Rattle.sk_script.proofs.legible.legible_front.Goals as goal

pub returns-clause-ordered : goal.returns-clause-ordered
returns-clause-ordered c =
    let end = c.capped-end.result in
    let scanned = c.in_ok-tokens.ensures in
    let front = c.in_ok-tokens.field-0 in
    let is_end : end ≡ capped (reach c.args.line.now front.fault) = c.capped-end.ensures.value ∙ ap capped c.reach.ensures in
    let is = c.in_ok-with_text.ensures ∙ ap (with_text front.tokens end) c.open_from.ensures in
    subst (λ ts. IsLine ts end) (sym is) (front_is_line c.args.line.now front.fault front.tokens end is_end scanned.spans scanned.before scanned.begun scanned.placed)
