-- Lists of writes and commits that are such as the due ones.
use Rattle.std.specs.Prelude.{◌≡◌, ℕ, ◌<◌, ◌+◌, suc, List, [], ◌∷◌, ◌++◌, Option, Some, None, Bool, map, take, length, get_or}
use Rattle.std.proofs.Common.{refl, sym, ap, subst, ◌∙◌, arith}
use Rattle.std.proofs.Math.Seq.{take-suc}
use Rattle.std.proofs.lemmas.List.{map-append}
use Rattle.std.proofs.lemmas.Grind.{flat_map-append}
use Rattle.sk_rows.specs.declared.table.Table.{Table}
use Rattle.sk_model.specs.declared.engine.EngineName.{EngineName}
use Rattle.sk_model.specs.declared.commit.Write.{Write}
use Rattle.sk_model.specs.declared.commit.Commit.{Commit}
use Rattle.sk_model.specs.EngineReplies.{mem_number, store_number}
use Rattle.sk_engine.specs.declared.row_id.RowId.{RowId}
use Rattle.sk_engine.specs.declared.numbers.Number.{Number}
use Rattle.sk_engine.specs.Rows.{Chains}
use Rattle.sk_engine.specs.Counts.{Used, used}
use Rattle.sk_engine.specs.Recording.{Alike, IsWrite, IsCommit, write_given, commit_by, commits_given}

pub alike_push : {X : Type 0} (P : X → X → Type 0) (ds xs : List X) (d x : X) → Alike P ds xs → P d x → Alike P (ds ++ d ∷ []) (xs ++ x ∷ [])
alike_push P [] [] d x h k = (k, tt)
alike_push P [] (y ∷ ys) d x h k = absurd h
alike_push P (e ∷ es) [] d x h k = absurd h
alike_push P (e ∷ es) (y ∷ ys) d x h k = (h.0, alike_push P es ys d x h.1 k)

next_used : (ns : List Number) (i : ℕ) (x : Number) → i < length ns → x ≡ get_or ns i x → map used (take (i + 1) ns) ≡ map used (take i ns) ++ used x ∷ []
next_used ns i x l is = ap (λ k. map used (take k ns)) (up i) ∙ ap (map used) (take-suc ns i x l ∙ ap (λ y. take i ns ++ y ∷ []) (sym is)) ∙ map-append used (take i ns) (x ∷ [])
  where
    up : (i : ℕ) → i + 1 ≡ suc i
    up i = omega arith

module _ (told : Bool) (tables : List Table) (name : EngineName) (chains : Chains) where
  next_commits : (us : List Used) (u : Used) (o : Option (List RowId)) → u.wrote ≡ o → commits_given name chains (us ++ u ∷ []) ≡ commits_given name chains us ++ commit_by name chains u o
  next_commits us u o is = flat_map-append (λ u. commit_by name chains u u.wrote) us (u ∷ []) ∙ ap (λ r. commits_given name chains us ++ (commit_by name chains u r ++ [])) is ∙ ap (λ cs. commits_given name chains us ++ cs) (go o)
    where
      go : (o : Option (List RowId)) → commit_by name chains u o ++ [] ≡ commit_by name chains u o
      go None = refl
      go (Some row_ids) = refl

  end_none : (cs : List Commit) → cs ++ [] ≡ cs
  end_none [] = refl
  end_none (c ∷ cs) = ap (λ xs. c ∷ xs) (end_none cs)

  -- a voided number is no commit
  pub commits_same : (ns : List Number) (i : ℕ) (x : Number) (cs : List Commit) → i < length ns → x ≡ get_or ns i x → (used x).wrote ≡ None
      → Alike (IsCommit told tables) (commits_given name chains (map used (take i ns))) cs → Alike (IsCommit told tables) (commits_given name chains (map used (take (i + 1) ns))) cs
  commits_same ns i x cs l is none h =
      subst (λ ds. Alike (IsCommit told tables) ds cs)
      (sym (ap (commits_given name chains) (next_used ns i x l is) ∙ next_commits (map used (take i ns)) (used x) None none ∙ end_none (commits_given name chains (map used (take i ns))))) h

  -- a stamped one is a commit more
  pub commits_more : (ns : List Number) (i : ℕ) (x : Number) (row_ids : List RowId) (ws : List Write) (cs : List Commit) (c : Commit) → i < length ns → x ≡ get_or ns i x → (used x).wrote ≡ Some row_ids
      → c ≡ record { label = x.by; mem = mem_number name x.n; store = store_number name x.n; writes = ws } → Alike (IsWrite told tables) (map (write_given chains x.n) row_ids) ws
      → Alike (IsCommit told tables) (commits_given name chains (map used (take i ns))) cs → Alike (IsCommit told tables) (commits_given name chains (map used (take (i + 1) ns))) (cs ++ c ∷ [])
  commits_more ns i x row_ids ws cs c l is some at h k =
      let due : Commit = record { label = x.by; mem = mem_number name x.n; store = store_number name x.n; writes = map (write_given chains x.n) row_ids } in
      subst (λ ds. Alike (IsCommit told tables) ds (cs ++ c ∷ []))
      (sym (ap (commits_given name chains) (next_used ns i x l is) ∙ next_commits (map used (take i ns)) (used x) (Some row_ids) some))
      (alike_push (IsCommit told tables) (commits_given name chains (map used (take i ns))) cs due c k (subst (λ c. IsCommit told tables due c) (sym at) (refl, h)))
