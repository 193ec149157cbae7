-- The call was allowed, and the entry of an answer stands behind the others.
use Rattle.std.proofs.Common.{◌<◌, is_some, length, sym, ◌∙◌}
use Rattle.sk_model.specs.Legal.{after_entries}
use Rattle.sk_model.specs.Journal.{most_entries}
use Rattle.sk_chain.specs.Noting.{journal_of}
use Rattle.sk_chain.specs.Applying.{entered_reply}
use Rattle.sk_shared.proofs.Entries.{in_use, entry_kept, none_kept, is_stopped, has_place}
use Rattle.sk_shared.proofs.asking.ask_for_nobody.Goals as goal

pub apply-reply-requires : goal.apply-reply-requires
apply-reply-requires g c = in_use g.G.Engine.told g.G.Engine.faults g.G.Engine.stands c.requires.told c.args.engine.now c.requires.kept

pub returns-then-is_answered-clause-may : goal.returns-then-is_answered-clause-may
returns-then-is_answered-clause-may g c = λ first js kept. sym (c.may.ensures (after_entries first js) js kept.from.stood) ∙ c.if-not-may.false

pub returns-then-is_answered-clause-asks : goal.returns-then-is_answered-clause-asks
returns-then-is_answered-clause-asks g c =
    let room : length (journal_of c.args.engine.now) < most_entries = has_place g.G.Engine.stands c.args.engine.now c.entries.result c.requires.kept c.entries.ensures c.if-entries-eq18446744073709551615.false in
    λ first js. entry_kept g.G.Engine.told g.G.Engine.faults g.G.Engine.stands c.requires.told c.args.engine.now c.apply-reply.new.self c.args.call (entered_reply c.apply-reply.result) first js room c.apply-reply.ensures.applies

pub returns-else-is_answered-clause-asks : goal.returns-else-is_answered-clause-asks
returns-else-is_answered-clause-asks g c =
    let room : length (journal_of c.args.engine.now) < most_entries = has_place g.G.Engine.stands c.args.engine.now c.entries.result c.requires.kept c.entries.ensures c.if-entries-eq18446744073709551615.false in
    none_kept g.G.Engine.told g.G.Engine.faults g.G.Engine.stands c.requires.told c.args.engine.now c.apply-reply.new.self c.args.call (entered_reply c.apply-reply.result)
    (is_stopped c.takes_memory-may_want.result (is_some (entered_reply c.apply-reply.result)) (sym c.is_answered.ensures ∙ c.if-is_answered.false)) room c.apply-reply.ensures.applies
