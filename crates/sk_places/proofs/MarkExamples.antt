-- The marks of three commits, and where snapshots end.
use Rattle.std.specs.Prelude.{ℕ, List, [], ◌∷◌, Option, Some, None, ◌≡◌}
use Rattle.std.proofs.Common.{refl}
use Rattle.sk_model.specs.declared.commit.Commit.{Commit}
use Rattle.sk_model.specs.declared.engine.EngineName.TheVariants.{Mem, Store}
use Rattle.sk_places.specs.declared.marks.Mark.{Mark}
use Rattle.sk_places.specs.Marks.{marks, last_end}

abbrev commit : Option ℕ → Option ℕ → Commit
commit mem store = record { label = record { session = 1; k = 1 }; mem = mem; store = store; writes = [] }

abbrev three : List Commit
three = commit (Some 2) None ∷ commit None (Some 3) ∷ commit (Some 5) (Some 7) ∷ []

abbrev mark : ℕ → ℕ → Mark
mark n end = record { n = n; end = end }

mem_marks : marks Mem 0 three ≡ mark 2 1 ∷ mark 5 3 ∷ []
mem_marks = refl

store_marks : marks Store 0 three ≡ mark 3 2 ∷ mark 7 3 ∷ []
store_marks = refl

before : last_end 0 (Some 1) (marks Mem 0 three) ≡ 0
before = refl

between : last_end 0 (Some 4) (marks Mem 0 three) ≡ 1
between = refl

at : last_end 0 (Some 5) (marks Mem 0 three) ≡ 3
at = refl

absent : last_end 0 None (marks Mem 0 three) ≡ 0
absent = refl
