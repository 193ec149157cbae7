-- What each engine tells of its commits, and the woven list.
use Rattle.std.specs.Prelude.{◌≡◌, ℕ, List, [], ◌∷◌, Bool, true, false, not, map}
use Rattle.std.proofs.Common.{refl, sym, ap, ◌∙◌}
use Rattle.sk_model.specs.declared.engine.EngineName.TheVariants.{Mem, Store}
use Rattle.sk_model.specs.declared.commit.Write.{Write}
use Rattle.sk_model.specs.declared.commit.Commit.{Commit}
use Rattle.sk_model.specs.Numbers.{Rises}
use Rattle.sk_model.specs.Halves.{half}
use Rattle.sk_model.proofs.Lists.{Each, each_weaker}
use Rattle.sk_weave.specs.Woven.{own_writes, mem_parts, store_parts}
use Rattle.sk_weave.specs.Laws.{ListHasHalves, half_of}
use Rattle.sk_weave.proofs.Holding.{has_all}

all_own : (owns : ℕ → Bool) (ws : List Write) → Each (λ (w : Write). owns w.table ≡ true) ws → own_writes owns ws ≡ ws
all_own owns [] h = refl
all_own owns (w ∷ ws) h = rw h.0 (ap (λ xs. w ∷ xs) (all_own owns ws h.1))

module _ (is_store : ℕ → Bool) where
  mem_halves : (low : ℕ) (cs : List Commit) → Rises (λ (c : Commit). c.mem) low cs → Each (λ c. Each (λ w. is_store w.table ≡ false) c.writes) cs → map (half_of Mem) (mem_parts is_store cs) ≡ map (half Mem) cs
  mem_halves low [] r o = refl
  mem_halves low (c ∷ cs) r o =
      let own : own_writes (λ t. not (is_store t)) c.writes ≡ c.writes = all_own (λ t. not (is_store t)) c.writes (each_weaker (λ (w : Write). is_store w.table ≡ false) (λ (w : Write). not (is_store w.table) ≡ true) (λ w e. ap not e) c.writes o.0) in
      rw (r.1, own, mem_halves r.0 cs r.3 o.1) refl

  store_halves : (low : ℕ) (cs : List Commit) → Rises (λ (c : Commit). c.store) low cs → Each (λ c. Each (λ w. is_store w.table ≡ true) c.writes) cs → map (half_of Store) (store_parts is_store cs) ≡ map (half Store) cs
  store_halves low [] r o = refl
  store_halves low (c ∷ cs) r o = rw (r.1, all_own is_store c.writes o.0, store_halves r.0 cs r.3 o.1) refl

pub has_halves : ListHasHalves
has_halves is_store points mem store p h o =
    let all = has_all is_store points mem store p h o in
    (sym (mem_halves is_store p.a mem h.mem_rises o.of_mem) ∙ ap (map (half_of Mem)) (sym all.0), sym (store_halves is_store p.b store h.store_rises o.of_store) ∙ ap (map (half_of Store)) (sym all.1))
