-- The commits of an engine one by one, and the points with their first.
use Rattle.std.specs.Prelude.{◌≡◌, ◌<◌, ◌+◌, ◌-◌, ℕ, Bool, true, false, cond, List, [], ◌∷◌, ◌++◌, length, take, slice_index_or}
use Rattle.std.proofs.Common.{refl, sym, ap, ◌∙◌, arith}
use Rattle.std.proofs.lemmas.List.{take_more}
use Rattle.std.proofs.Math.Seq.{take-length}
use Rattle.std.specs.List.{filter}
use Rattle.sk_rows.specs.declared.table.Table.{Table}
use Rattle.sk_model.specs.declared.engine.EngineName.{EngineName}
use Rattle.sk_model.specs.declared.commit.Commit.{Commit}
use Rattle.sk_model.specs.declared.commit.Write.{Write}
use Rattle.sk_weave.specs.Woven.{own_writes}
use Rattle.sk_linked.specs.Traces.{Transaction, counts, commit_in, added, commits_in}
use Rattle.sk_linked.specs.State.{Actor, transaction_of}
use Rattle.sk_core.specs.Reopening.{commits_onto, transactions_of}

pub own_more : (owns : ℕ → Bool) (ws vs : List Write) → own_writes owns (ws ++ vs) ≡ own_writes owns ws ++ own_writes owns vs
own_more owns [] vs = refl
own_more owns (w ∷ ws) vs =
    elim (owns w.table) as (λ b. cond b (w ∷ own_writes owns (ws ++ vs)) (own_writes owns (ws ++ vs)) ≡ cond b (w ∷ own_writes owns ws) (own_writes owns ws) ++ own_writes owns vs) [
      | true ↦ ap (λ (us : List Write). w ∷ us) (own_more owns ws vs)
      | false ↦ own_more owns ws vs
    ]

pub onto_none : (catalog : List Table) (name : EngineName) (rs : List Actor) → commits_onto catalog name rs [] ≡ commits_in catalog name (transactions_of rs)
onto_none catalog name [] = refl
onto_none catalog name (r ∷ rs) = ap (λ (cs : List Commit). added name (counts name (transaction_of r)) (commit_in catalog name (transaction_of r)) cs) (onto_none catalog name rs)

pub onto_more : (catalog : List Table) (name : EngineName) (rs : List Actor) (r : Actor) (cs : List Commit)
    → commits_onto catalog name (rs ++ r ∷ []) cs ≡ commits_onto catalog name rs (added name (counts name (transaction_of r)) (commit_in catalog name (transaction_of r)) cs)
onto_more catalog name [] r cs = refl
onto_more catalog name (x ∷ xs) r cs = ap (λ (ds : List Commit). added name (counts name (transaction_of x)) (commit_in catalog name (transaction_of x)) ds) (onto_more catalog name xs r cs)

split_last : (rs : List Actor) (r : Actor) → 0 < length rs → r ≡ slice_index_or rs (length rs - 1) r → take (length rs - 1) rs ++ r ∷ [] ≡ rs
split_last rs r some is =
    let last : length rs - 1 < length rs = omega arith in
    let whole : length rs - 1 + 1 ≡ length rs = omega arith in
    ap (λ (x : Actor). take (length rs - 1) rs ++ x ∷ []) is ∙ sym (take_more rs (length rs - 1) r last) ∙ ap (λ (n : ℕ). take n rs) whole ∙ take-length rs

-- the last transaction's commit comes first
pub onto_last : (catalog : List Table) (name : EngineName) (rs : List Actor) (r : Actor) (cs ds : List Commit) → 0 < length rs → r ≡ slice_index_or rs (length rs - 1) r
    → ds ≡ added name (counts name (transaction_of r)) (commit_in catalog name (transaction_of r)) cs
    → commits_onto catalog name (take (length rs - 1) rs) ds ≡ commits_onto catalog name rs cs
onto_last catalog name rs r cs ds some is adds =
    ap (λ (es : List Commit). commits_onto catalog name (take (length rs - 1) rs) es) adds
    ∙ sym (onto_more catalog name (take (length rs - 1) rs) r cs)
    ∙ ap (λ (xs : List Actor). commits_onto catalog name xs cs) (split_last rs r some is)
