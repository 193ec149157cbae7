-- Commits of each engine's own tables, written behind those in both engines' logs.
use Rattle.std.specs.Prelude.{ℕ, List, [], ◌∷◌, ◌++◌, Bool, true, false, ◌≡◌}
use Rattle.std.proofs.Common.{refl, sym, ap, ◌∙◌, ⊎_elim}
use Rattle.std.specs.List.{filter, flat_map}
use Rattle.std.proofs.lemmas.Bool.{cases_Bool, false≢true}
use Rattle.std.proofs.lemmas.List.{append-nil}
use Rattle.std.proofs.lemmas.List.Concat.{flat_map-append}
use Rattle.std.proofs.lemmas.List.Sums.{fold-append}
use Rattle.std.proofs.lemmas.List.Elements.{filter-append}
use Rattle.sk_model.specs.declared.commit.Write.{Write}
use Rattle.sk_model.specs.declared.commit.Commit.{Commit}
use Rattle.sk_model.specs.Database.{Tables, after_commit, state}
use Rattle.sk_model.proofs.Lists.{Each, each_append}
use Rattle.sk_model.proofs.ByTable.{is_to, state_by_writes, same_tables, none_to}
use Rattle.sk_model.proofs.Reading.{length_state}
use Rattle.sk_weave.specs.Woven.{Owned}

abbrev all_writes : List Commit → List Write
all_writes cs = flat_map (λ (c : Commit). c.writes) cs

-- the writes to one table
abbrev writes_to : ℕ → List Commit → List Write
writes_to t cs = filter (is_to t) (all_writes cs)

to_both : (t : ℕ) (xs ys : List Commit) → writes_to t (xs ++ ys) ≡ writes_to t xs ++ writes_to t ys
to_both t xs ys = ap (filter (is_to t)) (flat_map-append (λ (c : Commit). c.writes) xs ys) ∙ filter-append (is_to t) (all_writes xs) (all_writes ys)

to_four : (t : ℕ) (xs ys zs ws : List Commit) → writes_to t ((xs ++ ys) ++ (zs ++ ws)) ≡ (writes_to t xs ++ writes_to t ys) ++ (writes_to t zs ++ writes_to t ws)
to_four t xs ys zs ws =
    to_both t (xs ++ ys) (zs ++ ws)
    ∙ ap (λ vs. vs ++ writes_to t (zs ++ ws)) (to_both t xs ys)
    ∙ ap (λ vs. (writes_to t xs ++ writes_to t ys) ++ vs) (to_both t zs ws)

-- two lists between two others change places, where the latter or the former are empty
swap_late : {X : Type 0} (xs ys zs ws : List X) → zs ≡ [] → ws ≡ [] → (xs ++ ys) ++ (zs ++ ws) ≡ (xs ++ zs) ++ (ys ++ ws)
swap_late xs ys zs ws e f = rw (e, f) (append-nil (xs ++ ys) ∙ ap (λ vs. vs ++ ys) (sym (append-nil xs)) ∙ ap (λ vs. (xs ++ []) ++ vs) (sym (append-nil ys)))

swap_early : {X : Type 0} (xs ys zs ws : List X) → xs ≡ [] → ys ≡ [] → (xs ++ ys) ++ (zs ++ ws) ≡ (xs ++ zs) ++ (ys ++ ws)
swap_early xs ys zs ws e f = rw (e, f) refl

module _ (is_store : ℕ → Bool) where
  -- it writes to tables of one kind alone: those of the storage engine, or those of the other
  abbrev pub OfKind : Bool → Commit → Type 0
  OfKind kind c = Each (λ (w : Write). is_store w.table ≡ kind) c.writes

  all_of : (kind : Bool) (cs : List Commit) → Each (OfKind kind) cs → Each (λ (w : Write). is_store w.table ≡ kind) (all_writes cs)
  all_of kind [] h = tt
  all_of kind (c ∷ cs) h = each_append (λ (w : Write). is_store w.table ≡ kind) c.writes (all_writes cs) h.0 (all_of kind cs h.1)

  -- commits of the other engine write nothing to a table
  to_none : (kind other : Bool) (cs : List Commit) (t : ℕ) → (kind ≡ other → ⊥) → is_store t ≡ other → Each (OfKind kind) cs → writes_to t cs ≡ []
  to_none kind other cs t ne e h = none_to is_store kind other (all_writes cs) t ne e (all_of kind cs h)

  -- so those of the one engine may change places with those of the other
  same_writes : (mem more_mem store more_store : List Commit) → Owned is_store mem store → Owned is_store more_mem more_store → (t : ℕ)
      → writes_to t ((mem ++ more_mem) ++ (store ++ more_store)) ≡ writes_to t ((mem ++ store) ++ (more_mem ++ more_store))
  same_writes mem more_mem store more_store o k t =
      to_four t mem more_mem store more_store
      ∙ ⊎_elim
      (λ (e : is_store t ≡ true). swap_early (writes_to t mem) (writes_to t more_mem) (writes_to t store) (writes_to t more_store)
      (to_none false true mem t false≢true e o.of_mem) (to_none false true more_mem t false≢true e k.of_mem))
      (λ (e : is_store t ≡ false). swap_late (writes_to t mem) (writes_to t more_mem) (writes_to t store) (writes_to t more_store)
      (to_none true false store t (λ c. false≢true (sym c)) e o.of_store) (to_none true false more_store t (λ c. false≢true (sym c)) e k.of_store))
      (cases_Bool (is_store t))
      ∙ sym (to_four t mem store more_mem more_store)

  -- commits behind those of both logs, each engine's behind its own, make what they make of the logs' tables
  pub state_behind : (base : Tables) (mem more_mem store more_store : List Commit) → Owned is_store mem store → Owned is_store more_mem more_store
      → state base ((mem ++ more_mem) ++ (store ++ more_store)) ≡ state (state base (mem ++ store)) (more_mem ++ more_store)
  state_behind base mem more_mem store more_store o k =
      let ours : List Commit = (mem ++ more_mem) ++ (store ++ more_store) in
      let theirs : List Commit = (mem ++ store) ++ (more_mem ++ more_store) in
      same_tables (state base ours) (state base theirs) (length_state base ours ∙ sym (length_state base theirs))
      (λ t. state_by_writes base ours theirs t (same_writes mem more_mem store more_store o k t))
      ∙ fold-append after_commit base (mem ++ store) (more_mem ++ more_store)
