use Rattle.std.proofs.Common.{◌≡◌, ◌++◌, List, map, take}
use Rattle.sk_model.specs.declared.commit.Commit.{Commit}
use Rattle.sk_model.specs.declared.record.Record.{Record}
use Rattle.sk_model.specs.Places.{place}
use Rattle.sk_places.specs.Index.{IsIndexOf}
use Rattle.sk_places.proofs.index.PlaceIndex.add.Given as goal

-- The places of the records so far are added.
abbrev pub invariant-loop-kept : goal.invariant-loop-kept
invariant-loop-kept l = (order : List Commit) → IsIndexOf order l.self → l.places ≡ l.initial.places ++ map (λ (r : Record). place order r.mem r.store) (take l.kept-index l.records)
