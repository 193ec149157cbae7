use Rattle.std.proofs.Common.{◌≡◌, None, map}
use Rattle.sk_mem.specs.Scanning.{rows_seen, waits_for}
use Rattle.sk_mem.proofs.scanning.scan_rows.Given as goal

-- the rows so far are seen, and none of them has to be waited for
abbrev pub invariant-loop-key : goal.invariant-loop-key
invariant-loop-key l = record {
  rows : l.rows ≡ rows_seen l.by l.snapshot (map (λ e. (e.0.now, e.1.now)) l.yielded);
  free : waits_for l.by l.snapshot (map (λ e. (e.0.now, e.1.now)) l.yielded) ≡ None;
}
