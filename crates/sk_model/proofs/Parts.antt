-- An engine's commits, with the other engine's numbers.
use Rattle.std.specs.Prelude.{◌≡◌, ℕ, List, [], ◌∷◌, Some, Bool, map}
use Rattle.std.proofs.Common.{refl, sym, subst, ◌∙◌, inl, inr, ⊎_elim}
use Rattle.std.specs.List.{filter}
use Rattle.sk_model.specs.declared.engine.EngineName.{EngineName}
use Rattle.sk_model.specs.declared.engine.EngineName.TheVariants.{Mem, Store}
use Rattle.sk_model.specs.declared.commit.Commit.{Commit}
use Rattle.sk_model.specs.Database.{net}
use Rattle.sk_model.specs.Numbers.{Rises}
use Rattle.sk_model.specs.Engine.{EngineTable, Version, engine_at}
use Rattle.sk_model.specs.EngineReplies.{is_stamped_with, commit_of}
use Rattle.sk_model.specs.Legal.{after_entries}
use Rattle.sk_model.specs.Stamped.{number_in, v_number, writes_of, Has}
use Rattle.sk_model.specs.Halves.{half, own_part, SameIn, PartsAreCommits, HalvesAreCommits}
use Rattle.sk_model.proofs.Lists.{Each, each_weaker}
use Rattle.sk_model.proofs.Listed.{are_commits}

part_number : (name : EngineName) (owns : ℕ → Bool) (d : Commit) → number_in name (own_part owns d) ≡ number_in name d
part_number Mem owns d = refl
part_number Store owns d = refl

half_number : (name : EngineName) (d : Commit) → number_in name (half name d) ≡ number_in name d
half_number Mem d = refl
half_number Store d = refl

half_writes : (name : EngineName) (d : Commit) → (half name d).writes ≡ d.writes
half_writes Mem d = refl
half_writes Store d = refl

module _ (name : EngineName) (owns : ℕ → Bool) (versions : List Version) where
  abbrev Wrote : Commit → Type 0
  Wrote c = (n : ℕ) → number_in name c ≡ Some n → c.writes ≡ net (writes_of (filter (is_stamped_with n) versions))

  rises_too : (low : ℕ) (cs ds : List Commit) → SameIn name owns cs ds → Rises (number_in name) low cs → Rises (number_in name) low (map (own_part owns) ds)
  rises_too low [] [] s r = tt
  rises_too low [] (d ∷ ds) s r = absurd s
  rises_too low (c ∷ cs) [] s r = absurd s
  rises_too low (c ∷ cs) (d ∷ ds) s r = (r.0, part_number name owns d ∙ sym s.0 ∙ r.1, r.2, rises_too r.0 cs ds s.2 r.3)

  wrote_too : (cs ds : List Commit) → SameIn name owns cs ds → Each Wrote cs → Each Wrote (map (own_part owns) ds)
  wrote_too [] [] s h = tt
  wrote_too [] (d ∷ ds) s h = absurd s
  wrote_too (c ∷ cs) [] s h = absurd s
  wrote_too (c ∷ cs) (d ∷ ds) s h = ((λ n e. sym s.1 ∙ h.0 n (s.0 ∙ sym (part_number name owns d) ∙ e)), wrote_too cs ds s.2 h.1)

  has_too : (n : ℕ) (cs ds : List Commit) → SameIn name owns cs ds → Has (number_in name) n cs → Has (number_in name) n (map (own_part owns) ds)
  has_too n [] [] s h = h
  has_too n [] (d ∷ ds) s h = absurd s
  has_too n (c ∷ cs) [] s h = absurd s
  has_too n (c ∷ cs) (d ∷ ds) s h = ⊎_elim
      (λ (e : number_in name c ≡ Some n). inl (part_number name owns d ∙ sym s.0 ∙ e))
      (λ (k : Has (number_in name) n cs). inr (has_too n cs ds s.2 k))
      h

pub parts_are_commits : PartsAreCommits
parts_are_commits name owns low versions cs ds k s = record {
  rises = rises_too name owns versions low cs ds s k.rises;
  writes = wrote_too name owns versions cs ds s k.writes;
  all = each_weaker (λ (v : Version). (n : ℕ) → v_number v ≡ Some n → Has (number_in name) n cs) (λ (v : Version). (n : ℕ) → v_number v ≡ Some n → Has (number_in name) n (map (own_part owns) ds))
      (λ v h n e. has_too name owns versions n cs ds s (h n e)) versions k.all;
}

same_halves : (name : EngineName) (owns : ℕ → Bool) (ds : List Commit) → SameIn name owns (map (λ d. half name (own_part owns d)) ds) ds
same_halves name owns [] = tt
same_halves name owns (d ∷ ds) = (half_number name (own_part owns d) ∙ part_number name owns d, half_writes name (own_part owns d), same_halves name owns ds)

pub halves_are_commits : HalvesAreCommits
halves_are_commits name catalog rows start js owns ds h =
    let e : EngineTable = after_entries (engine_at name catalog rows start) js in
    parts_are_commits name owns start e.versions (map (commit_of e) e.stamped) ds (are_commits name catalog rows start js) (subst (λ xs. SameIn name owns xs ds) (sym h) (same_halves name owns ds))
