-- One number further up.
use Rattle.std.specs.Prelude.{◌≡◌, ℕ, zero, suc, ◌<◌, ◌+◌, ◌-◌, Bool, true, false, cond}
use Rattle.std.proofs.Common.{sym, ap, ◌∙◌, arith}
use Rattle.sk_model.specs.EngineReplies.{climb}

one_less : (k : ℕ) → suc k - 1 ≡ k
one_less k = omega arith

pub climb_more : (k : ℕ) (used : ℕ → Bool) (n : ℕ) → 0 < k → used (n + 1) ≡ true → climb (k - 1) used (n + 1) ≡ climb k used n
climb_more zero used n some is = absurd (omega arith)
climb_more (suc k) used n some is = ap (λ j. climb j used (n + 1)) (one_less k) ∙ sym (ap (λ b. cond b (climb k used (n + 1)) n) is)

pub climb_ends : (k : ℕ) (used : ℕ → Bool) (n : ℕ) → 0 < k → used (n + 1) ≡ false → n ≡ climb k used n
climb_ends zero used n some is = absurd (omega arith)
climb_ends (suc k) used n some is = sym (ap (λ b. cond b (climb k used (n + 1)) n) is)
