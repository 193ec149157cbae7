use Rattle.std.proofs.lemmas.Result.{err_from_is_err_and}
use Rattle.sk_codec.specs.Reading.{rest_of}
use Rattle.sk_codec.proofs.Loops.{items_on, items_end, items_done}
use Rattle.sk_log.specs.Groups.{number_of, logged_at, records_at}
use Rattle.sk_recover.proofs.group.records_at.Goals as goal

pub returns-in_err-found-clause-value : goal.returns-in_err-found-clause-value
returns-in_err-found-clause-value c =
    let p = err_from_is_err_and c.from_residual.result c.from_residual.ensures.1 in
    rw (p.1, p.2) (items_end c.in_err-found.field-0.0 (logged_at c.args.tables.now c.args.store c.args.upto) (λ _ f. number_of c.args.store f) c.loop.logged.items c.args.count c.loop.counter c.loop.last (rest_of c.loop.left) (records_at c.args.tables.now c.args.store c.args.count c.args.upto c.args.above (rest_of c.args.rest)) c.loop-test.true c.in_err-found.ensures.value c.loop.invariant.reads)

pub loop-preserved : goal.loop-preserved
loop-preserved c = record {
  reads = rw (c.in_ok-push.ensures.items, c.number_of-last.ensures) (items_on (logged_at c.args.tables.now c.args.store c.args.upto) (λ _ f. number_of c.args.store f) c.loop.logged.items c.args.count c.loop.counter c.loop.last (rest_of c.loop.left) c.in_ok-found.found (rest_of c.in_ok-found.after) (records_at c.args.tables.now c.args.store c.args.count c.args.upto c.args.above (rest_of c.args.rest)) c.loop-test.true c.in_ok-found.ensures.value c.loop.invariant.reads);
  place = c.in_ok-found.ensures.place;
  small = rw c.number_of-last.ensures c.in_ok-found.ensures.small;
}

pub returns-clause-value : goal.returns-clause-value
returns-clause-value c = items_done (logged_at c.args.tables.now c.args.store c.args.upto) (λ _ f. number_of c.args.store f) c.loop.logged.items c.args.count c.loop.counter c.loop.last (rest_of c.loop.left) (records_at c.args.tables.now c.args.store c.args.count c.args.upto c.args.above (rest_of c.args.rest)) c.loop-test.false c.loop.invariant.reads
