use Rattle.std.proofs.Common.{◌≡◌, ◌<◌, ◌≤◌, ◌+◌, length, arith, rules}
use Rattle.std.proofs.lemmas.Grind.{common_steps}
use Rattle.sk_outside.proofs.Wholes.{read_ended, read_full, rest_ended, rest_full, read_more}
use Rattle.sk_outside.proofs.whole.read_whole.Goals as goal

pub returns-in-Ok-eq0-clause-bytes : goal.returns-in-Ok-eq0-clause-bytes
returns-in-Ok-eq0-clause-bytes g c =
    let bytes = c.in-Ok-eq0.ensures.bytes in
    let some : 0 < length c.read.new.out = grind (arith, common_steps) in
    read_ended _ _ _ c.turns.bytes.items c.read.new.out c.in-Ok-eq0.field-0 16777217 c.in-Ok-eq0.field-0-test c.turns.invariant.taken bytes.0 (bytes.1 c.in-Ok-eq0.field-0-test some) c.turns.invariant.most

pub returns-clause-bytes : goal.returns-clause-bytes
returns-clause-bytes g c =
    let full : length c.turns.bytes.items ≡ 16777217 = search rules in
    read_full _ _ c.turns.bytes.items 16777217 c.turns.invariant.taken full

pub returns-in-Ok-eq0-clause-rest : goal.returns-in-Ok-eq0-clause-rest
returns-in-Ok-eq0-clause-rest g c =
    let bytes = c.in-Ok-eq0.ensures.bytes in
    let some : 0 < length c.read.new.out = grind (arith, common_steps) in
    rest_ended _ _ _ c.turns.bytes.items c.read.new.out c.in-Ok-eq0.field-0 16777217 c.in-Ok-eq0.field-0-test c.turns.invariant.taken bytes.0 (bytes.1 c.in-Ok-eq0.field-0-test some) c.turns.invariant.most

pub returns-in_err-extend_from_slice-in-Ok-clause-within : goal.returns-in_err-extend_from_slice-in-Ok-clause-within
returns-in_err-extend_from_slice-in-Ok-clause-within g c =
    let fits : length c.turns.bytes.items + c.in-Ok.count ≤ 16777217 = grind (arith, common_steps) in
    read_more _ _ _ c.turns.bytes.items c.read.new.out c.in-Ok.count 16777217 c.turns.invariant.taken c.in-Ok.ensures.bytes.0 fits

pub returns-clause-rest : goal.returns-clause-rest
returns-clause-rest g c =
    let full : length c.turns.bytes.items ≡ 16777217 = search rules in
    rest_full _ _ c.turns.bytes.items 16777217 c.turns.invariant.taken full
