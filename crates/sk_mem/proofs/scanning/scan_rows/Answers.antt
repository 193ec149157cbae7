use Rattle.std.proofs.Common.{◌≡◌, ◌++◌, length, sym, ap, ◌∙◌, rules}
use Rattle.std.proofs.lemmas.Iterator.Consumers.{YieldsList-turn, YieldsList-so_far, YieldsList-from_rest}
use Rattle.sk_mem.specs.Scanning.{rows_seen, row_listed, waits_for}
use Rattle.sk_mem.proofs.Listing.{refused_at, rows_more_of, waits_more_of}
use Rattle.sk_mem.proofs.scanning.scan_rows.Goals as goal

pub returns-in-Err-clause-gives : goal.returns-in-Err-clause-gives
returns-in-Err-clause-gives c =
    let all = YieldsList-from_rest c.args.chains.now.entries c.into_iter-key-iterator.ensures.into_iter_gives.0 in
    let t = YieldsList-turn all c.loop-key.yielded _ c.loop-key.yielded_by _ _ (c.in-Some.key, c.in-Some.chain) c.in-Some.is c.next.ensures.steps in
    let so_far = YieldsList-so_far all c.loop-key.yielded _ c.loop-key.yielded_by in
    refused_at c.args.by c.args.snapshot c.args.chains.now.entries (length c.loop-key.yielded) (c.in-Some.key.now, c.in-Some.chain.now) (rows_seen c.args.by c.args.snapshot c.args.chains.now.entries) c.in-Err.fault t.0 t.1
    (ap (waits_for c.args.by c.args.snapshot) (sym so_far) ∙ c.loop-key.invariant.free) c.in-Err.ensures

pub loop-key-preserved : goal.loop-key-preserved
loop-key-preserved c =
    let added : c.add_row.new.rows ≡ c.loop-key.rows ++ row_listed c.in-Some.key.now c.in-Ok.row = search rules in
    record {
      rows = added ∙ ap (λ rows. rows ++ row_listed c.in-Some.key.now c.in-Ok.row) c.loop-key.invariant.rows
          ∙ sym (rows_more_of c.args.by c.args.snapshot c.loop-key.yielded (λ e. (e.0.now, e.1.now)) (c.in-Some.key, c.in-Some.chain) c.in-Ok.row c.in-Ok.ensures);
      free = waits_more_of c.args.by c.args.snapshot c.loop-key.yielded (λ e. (e.0.now, e.1.now)) (c.in-Some.key, c.in-Some.chain) c.in-Ok.row c.in-Ok.ensures c.loop-key.invariant.free;
    }
