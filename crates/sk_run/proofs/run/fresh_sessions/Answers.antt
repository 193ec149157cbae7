-- The next session has the next number.
use Rattle.std.proofs.Common.{◌+◌, ◌++◌, ◌∷◌, [], sym, ap, ◌∙◌, arith}
use Rattle.std.proofs.lemmas.List.FromFn.{map-range_with_len_more}
use Rattle.sk_session.specs.declared.session.Session.{Session}
use Rattle.sk_session.specs.Starting.{fresh}
use Rattle.sk_run.proofs.run.fresh_sessions.Goals as goal

pub loop-before-preserved : goal.loop-before-preserved
loop-before-preserved c =
    c.in_ok-push.ensures.items ∙ ap (λ (s : Session). c.loop-before.all.items ++ s ∷ []) c.new.ensures.value
    ∙ ap (λ xs. xs ++ fresh (c.loop-before.before + 1) ∷ []) c.loop-before.invariant ∙ sym (map-range_with_len_more fresh 1 c.loop-before.before (c.loop-before.before + 1) (omega arith))
