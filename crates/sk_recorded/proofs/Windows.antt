-- Windows of a list in which the numbers rise.
use Rattle.std.specs.Prelude.{ℕ, List, [], ◌∷◌, ◌++◌, Some, ◌&&◌, ◌≡◌, ◌<◌, ◌≤◌, nat_le}
use Rattle.std.proofs.Common.{refl, sym, ap, ◌∙◌, arith}
use Rattle.std.specs.List.{filter}
use Rattle.std.proofs.lemmas.Bool.{lt-ltb}
use Rattle.std.proofs.lemmas.Bool.Decides.{nat_tests}
use Rattle.sk_model.specs.declared.engine.EngineName.{EngineName}
use Rattle.sk_model.specs.declared.engine.EngineName.TheVariants.{Mem, Store}
use Rattle.sk_model.specs.declared.commit.Commit.{Commit}
use Rattle.sk_model.specs.Numbers.{there, within, Rises}
use Rattle.sk_model.specs.Places.{upto}
use Rattle.sk_model.specs.Stamped.{number_in}
use Rattle.sk_model.proofs.Lists.{Each}
use Rattle.sk_model.proofs.Numbers.{split_at}
use Rattle.sk_model.proofs.Numbered.{filter_agree_on}
use Rattle.sk_recorded.specs.Windows.{window, upto_in, WindowsMeet, WindowsBegin}

-- by the number of whatever engine
pub window_is : (name : EngineName) (from to : ℕ) (cs : List Commit) → window name from to cs ≡ filter (λ (c : Commit). there (within from to) (number_in name c)) cs
window_is Mem from to cs = refl
window_is Store from to cs = refl

upto_is : (name : EngineName) (to : ℕ) (cs : List Commit) → upto_in name to cs ≡ filter (λ (c : Commit). upto (Some to) (number_in name c)) cs
upto_is Mem to cs = refl
upto_is Store to cs = refl

pub windows_meet : WindowsMeet
windows_meet name low x y z cs up l m =
    ap (λ front. front ++ window name y z cs) (window_is name x y cs)
    ∙ ap (λ back. filter (λ (c : Commit). there (within x y) (number_in name c)) cs ++ back) (window_is name y z cs)
    ∙ sym (split_at (number_in name) (within x z) (within x y) (within y z) y
    (λ n le. (grind (arith, nat_tests), grind (arith, nat_tests)))
    (λ n gt. (grind (arith, nat_tests), grind (arith, nat_tests)))
    low cs up)
    ∙ sym (window_is name x z cs)

-- past low each number up to another is in the window from low on
all_begin : (name : EngineName) (low from to : ℕ) (cs : List Commit) → Rises (number_in name) from cs → low ≤ from
    → Each (λ (c : Commit). there (within low to) (number_in name c) ≡ upto (Some to) (number_in name c)) cs
all_begin name low from to [] r l = tt
all_begin name low from to (c ∷ cs) r l = (
  (let past : low < r.0 = (let m : from < r.0 = r.2 in omega arith) in
      ap (there (within low to)) r.1 ∙ ap (λ b. b && nat_le r.0 to) (lt-ltb low r.0 past) ∙ sym (ap (upto (Some to)) r.1)),
  all_begin name low r.0 to cs r.3 (let m : from < r.0 = r.2 in omega arith),
)

pub windows_begin : WindowsBegin
windows_begin name low to cs up =
    window_is name low to cs
    ∙ filter_agree_on (λ (c : Commit). there (within low to) (number_in name c)) (λ (c : Commit). upto (Some to) (number_in name c)) cs (all_begin name low low to cs up (omega arith))
    ∙ sym (upto_is name to cs)
