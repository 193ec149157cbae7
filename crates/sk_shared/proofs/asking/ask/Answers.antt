-- An answer is of the kind that was asked for, and its entry stands behind the others.
use Rattle.std.proofs.Common.{◌≡◌, ◌<◌, ◌||◌, true, is_some, length, sym, ap, ◌∙◌}
use Rattle.sk_model.specs.Journal.{most_entries}
use Rattle.sk_chain.specs.Noting.{journal_of}
use Rattle.sk_chain.specs.Applying.{entered_reply, takes_memory}
use Rattle.sk_shared.proofs.Entries.{in_use, call_fits, entry_kept, none_kept, is_stopped, has_place}
use Rattle.sk_shared.proofs.asking.ask.Goals as goal

pub apply-reply-requires : goal.apply-reply-requires
apply-reply-requires g c = in_use g.G.Engine.told g.G.Engine.faults g.G.Engine.stands c.requires.told c.args.engine.now c.requires.kept

pub returns-then-is_answered-clause-fits : goal.returns-then-is_answered-clause-fits
returns-then-is_answered-clause-fits g c =
    let answered : (takes_memory c.args.call || is_some (entered_reply c.apply-reply.result)) ≡ true
    = ap (λ b. b || is_some (entered_reply c.apply-reply.result)) (sym c.takes_memory-may_want.ensures) ∙ sym c.is_answered.ensures ∙ c.if-is_answered.true in
    call_fits g.G.Engine.told g.G.Engine.faults g.G.Engine.stands c.requires.told c.args.engine.now c.apply-reply.new.self c.args.call c.apply-reply.result c.requires.kept c.requires.asked answered c.apply-reply.ensures.applies

pub returns-then-is_answered-clause-asks : goal.returns-then-is_answered-clause-asks
returns-then-is_answered-clause-asks g c =
    let room : length (journal_of c.args.engine.now) < most_entries = has_place g.G.Engine.stands c.args.engine.now c.entries.result c.requires.kept c.entries.ensures c.if-entries-eq18446744073709551615.false in
    λ first js. entry_kept g.G.Engine.told g.G.Engine.faults g.G.Engine.stands c.requires.told c.args.engine.now c.apply-reply.new.self c.args.call (entered_reply c.apply-reply.result) first js room c.apply-reply.ensures.applies

pub returns-else-is_answered-clause-asks : goal.returns-else-is_answered-clause-asks
returns-else-is_answered-clause-asks g c =
    let room : length (journal_of c.args.engine.now) < most_entries = has_place g.G.Engine.stands c.args.engine.now c.entries.result c.requires.kept c.entries.ensures c.if-entries-eq18446744073709551615.false in
    none_kept g.G.Engine.told g.G.Engine.faults g.G.Engine.stands c.requires.told c.args.engine.now c.apply-reply.new.self c.args.call (entered_reply c.apply-reply.result)
    (is_stopped c.takes_memory-may_want.result (is_some (entered_reply c.apply-reply.result)) (sym c.is_answered.ensures ∙ c.if-is_answered.false)) room c.apply-reply.ensures.applies
