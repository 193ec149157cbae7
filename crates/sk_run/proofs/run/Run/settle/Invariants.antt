-- So far it was told some lines more that are no statements.
use Rattle.std.proofs.Common.{◌≡◌, length}
use Rattle.sk_run.specs.Ended.{Settles}
use Rattle.sk_run.specs.Over.{OverStay, OneMoreBy, OthersStay}
use Rattle.sk_run.proofs.Stands.{mem_stands, store_stands}
use Rattle.sk_run.proofs.run.Run.settle.Given as goal

abbrev pub invariant-loop : goal.invariant-loop
invariant-loop l = record {
  kept : Settles mem_stands store_stands l.fn.self l.run;
  over : OverStay l.fn.self l.run;
  one : OneMoreBy l.fn.self l.fn.session l.run;
  others : OthersStay l.fn.self l.fn.session l.run;
  tables : l.run.catalog ≡ l.fn.self.catalog;
  sessions : length l.run.sessions ≡ length l.fn.self.sessions;
}
