-- Draws.
use Rattle.std.proofs.Common.{◌≡◌, ℕ, ◌+◌, ◌<◌, ◌≤◌, true, false, refl, sym, subst, arith}
use Rattle.std.specs.Prelude.{Ok, Err, Some, nat_lt, ◌==◌}
use Rattle.std.proofs.lemmas.Bool.Decides.{nat_tests}
use Rattle.sk_weave.specs.declared.answer.DrawFault.TheVariants.{Spent, Early}
use Rattle.sk_weave.specs.declared.event.Event.TheVariants.{DrawMem, DrawStore}
use Rattle.sk_weave.specs.Registry.{drawn}
use Rattle.sk_clock.specs.declared.view.View.{View}
use Rattle.sk_clock.specs.Kept.{Swaps, Looks, CanExchange}
use Rattle.sk_clock.specs.Answers.{At}
use Rattle.sk_clock.proofs.Makings.{makes}

eq-false : (a b : ℕ) → a < b → (a == b) ≡ false
eq-false a b l = grind (arith, nat_tests)

lt-false : (a b : ℕ) → b ≤ a → nat_lt a b ≡ false
lt-false a b l = grind (arith, nat_tests)

pub drawn_next : (n floor : ℕ) → n < 2147483647 → floor ≤ n → drawn n floor ≡ Ok (n + 1)
drawn_next n floor l f = rw (eq-false n 2147483647 l, lt-false n floor f) refl

pub draws_mem : (v u w : View) (n floor : ℕ) → Looks v u → n < 2147483647 → floor ≤ n → Swaps u 0 n (DrawMem (n + 1)) w → At v (λ r. Ok (n + 1) ≡ drawn r.mem floor) (Some (DrawMem (n + 1))) w
draws_mem v u w n floor l m f h = makes v u w (λ r. Ok (n + 1) ≡ drawn r.mem floor) (DrawMem (n + 1)) l h.extends (subst (λ (k : ℕ). Ok (n + 1) ≡ drawn k floor) (sym h.was) (sym (drawn_next n floor m f)))

pub draws_store : (v u w : View) (n floor : ℕ) → Looks v u → n < 2147483647 → floor ≤ n → Swaps u 1 n (DrawStore (n + 1)) w → At v (λ r. Ok (n + 1) ≡ drawn r.store floor) (Some (DrawStore (n + 1))) w
draws_store v u w n floor l m f h = makes v u w (λ r. Ok (n + 1) ≡ drawn r.store floor) (DrawStore (n + 1)) l h.extends (subst (λ (k : ℕ). Ok (n + 1) ≡ drawn k floor) (sym h.was) (sym (drawn_next n floor m f)))
