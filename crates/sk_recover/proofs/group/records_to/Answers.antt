use Rattle.std.proofs.Common.{true}
use Rattle.std.proofs.lemmas.Result.{err_from_is_err_and}
use Rattle.sk_codec.specs.Reading.{rest_of}
use Rattle.sk_log.specs.Groups.{records_to}
use Rattle.sk_recover.proofs.Ranges.{records_on, records_end, records_reached, records_done}
use Rattle.sk_recover.proofs.group.records_to.Goals as goal

pub returns-then-left-end : goal.returns-then-left-end
returns-then-left-end c = record { value = records_reached c.args.tables.now true c.args.end c.args.upto c.loop.logged.items c.args.fuel c.loop.counter c.loop.last (rest_of c.loop.left) (records_to c.args.tables.now true c.args.fuel c.args.end c.args.upto c.args.above (rest_of c.args.rest)) c.loop-test.true c.if-left-end.true c.loop.invariant.reads }

pub returns-in_err-found : goal.returns-in_err-found
returns-in_err-found c =
    let p = err_from_is_err_and c.from_residual.result c.from_residual.ensures.1 in
    record { value = rw (p.1, p.2) (records_end c.args.tables.now true c.args.end c.args.upto c.in_err-found.field-0.0 c.loop.logged.items c.args.fuel c.loop.counter c.loop.last (rest_of c.loop.left) (records_to c.args.tables.now true c.args.fuel c.args.end c.args.upto c.args.above (rest_of c.args.rest)) c.loop-test.true c.if-left-end.false c.in_err-found.ensures.value c.loop.invariant.reads) }

pub loop-preserved : goal.loop-preserved
loop-preserved c = record {
  reads = rw (c.in_ok-push.ensures.items, c.number_of-last.ensures) (records_on c.args.tables.now true c.args.end c.args.upto c.loop.logged.items c.args.fuel c.loop.counter c.loop.last (rest_of c.loop.left) c.in_ok-found.found (rest_of c.in_ok-found.after) (records_to c.args.tables.now true c.args.fuel c.args.end c.args.upto c.args.above (rest_of c.args.rest)) c.loop-test.true c.if-left-end.false c.in_ok-found.ensures.value c.loop.invariant.reads);
  place = c.in_ok-found.ensures.place;
  small = rw c.number_of-last.ensures c.in_ok-found.ensures.small;
}

pub returns : goal.returns
returns c = record { value = records_done c.args.tables.now true c.args.end c.args.upto c.loop.logged.items c.args.fuel c.loop.counter c.loop.last (rest_of c.loop.left) (records_to c.args.tables.now true c.args.fuel c.args.end c.args.upto c.args.above (rest_of c.args.rest)) c.loop-test.false c.loop.invariant.reads }
