-- The sessions so far have ended, and the store was left alone.
use Rattle.std.proofs.Common.{ℕ, ◌≡◌, ◌≤◌, length}
use Rattle.sk_run.specs.Over.{RestsAt}
use Rattle.sk_run.specs.Ended.{Settles}
use Rattle.sk_run.proofs.Stands.{mem_stands, store_stands}
use Rattle.sk_script.specs.Limits.{most_sessions}
use Rattle.sk_serial.specs.Saving.{saved_in}
use Rattle.sk_serial.specs.Waiting.{WaitsOn}
use Rattle.sk_serial.proofs.ending.settle.Given as goal

abbrev pub invariant-loop-before : goal.invariant-loop-before
invariant-loop-before g l = record {
  settles : Settles mem_stands store_stands l.fn.run l.run;
  tables : l.run.catalog ≡ l.fn.run.catalog;
  known : length l.run.sessions ≡ most_sessions;
  disk : l.store.disk ≡ l.fn.store.disk;
  limit : l.store.logmax ≡ l.fn.store.logmax;
  whole : l.store.broken ≡ l.fn.store.broken;
  saved : saved_in l.store ≡ saved_in l.fn.store;
  waits : WaitsOn l.fn.run l.fn.store l.run l.store;
  rest : (n : ℕ) → 1 ≤ n → n ≤ l.before → RestsAt l.run n;
}
