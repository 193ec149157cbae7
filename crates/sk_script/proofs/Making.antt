-- Lists that are made from the front, a turn at a time.
use Rattle.std.proofs.Common.{◌≡◌, ◌<◌, ℕ, suc, ◌+◌, ◌-◌, List, [], ◌∷◌, ◌++◌, append_assoc, length, take, drop, refl, sym, ap, ◌∙◌, arith}
use Rattle.std.specs.Prelude.{OnOk, Result, Ok, Err}
use Rattle.sk_script.specs.declared.drawing.Transfer.{Transfer}
use Rattle.sk_script.specs.declared.script.Line.{Line}
use Rattle.sk_script.specs.declared.script.Line.TheVariants as line
use Rattle.sk_script.specs.Generated.{draw, lines, opening, round, rounds, stock_row, stocked, transfer_of, transfers}

turn : (n i : ℕ) → i < n → n - i ≡ suc (n - (i + 1))
turn n i below = omega arith

more_transfers : (made all : List Transfer) (x n i : ℕ) → i < n → made ++ transfers x (i + 1) (n - i) ≡ all
    → (made ++ transfer_of (i + 1) (draw x) (draw (draw x)) (draw (draw (draw x))) ∷ []) ++ transfers (draw (draw (draw x))) (i + 1 + 1) (n - (i + 1)) ≡ all
more_transfers made all x n i below is =
    append_assoc made (transfer_of (i + 1) (draw x) (draw (draw x)) (draw (draw (draw x))) ∷ []) (transfers (draw (draw (draw x))) (i + 1 + 1) (n - (i + 1)))
    ∙ ap (λ k. made ++ transfers x (i + 1) k) (sym (turn n i below)) ∙ is

pub one_drawn : (made new all : List Transfer) (x p q r n i : ℕ) (t : Transfer) → i < n → made ++ transfers x (i + 1) (n - i) ≡ all → p ≡ draw x → q ≡ draw p → r ≡ draw q → t ≡ transfer_of (i + 1) p q r → new ≡ made ++ t ∷ []
    → new ++ transfers r (i + 1 + 1) (n - (i + 1)) ≡ all
one_drawn made new all x p q r n i t below is first second third drawn put =
    let more : ℕ → List Transfer = λ (y : ℕ). transfers y (i + 1 + 1) (n - (i + 1)) in
    let all_second : q ≡ draw (draw x) = second ∙ ap draw first in
    ap (λ (ts : List Transfer). ts ++ more r) put
    ∙ ap (λ (u : Transfer). (made ++ u ∷ []) ++ more r) drawn
    ∙ ap (λ (y : ℕ). (made ++ transfer_of (i + 1) y q r ∷ []) ++ more r) first
    ∙ ap (λ (y : ℕ). (made ++ transfer_of (i + 1) (draw x) y r ∷ []) ++ more r) all_second
    ∙ ap (λ (y : ℕ). (made ++ transfer_of (i + 1) (draw x) (draw (draw x)) y ∷ []) ++ more y) (third ∙ ap draw all_second)
    ∙ more_transfers made all x n i below is

pub more_rounds : (made all : List Line) (ts : List Transfer) (n i : ℕ) → i < n → made ++ rounds (n - i) ts ≡ all → (made ++ round (take 8 ts)) ++ rounds (n - (i + 1)) (drop 8 ts) ≡ all
more_rounds made all ts n i below is =
    append_assoc made (round (take 8 ts)) (rounds (n - (i + 1)) (drop 8 ts)) ∙ ap (λ k. made ++ rounds k ts) (sym (turn n i below)) ∙ is

pub more_stock : (made all : List Line) (n i : ℕ) → i < n → made ++ stocked (i + 1) (n - i) ≡ all → (made ++ line.Says 1 (stock_row (i + 1)) ∷ []) ++ stocked (i + 1 + 1) (n - (i + 1)) ≡ all
more_stock made all n i below is =
    append_assoc made (line.Says 1 (stock_row (i + 1)) ∷ []) (stocked (i + 1 + 1) (n - (i + 1))) ∙ ap (λ k. made ++ stocked (i + 1) k) (sym (turn n i below)) ∙ is

-- a line, more lines, and one line behind them
pub three_parts : (old one two : List Line) (b c : Line) (rows : List Line) → one ≡ old ++ b ∷ [] → two ≡ one ++ rows → two ++ c ∷ [] ≡ old ++ (b ∷ rows ++ c ∷ [])
three_parts old one two b c rows first more =
    ap (λ ls. ls ++ c ∷ []) (more ∙ ap (λ ls. ls ++ rows) first)
    ∙ append_assoc (old ++ b ∷ []) rows (c ∷ [])
    ∙ append_assoc old (b ∷ []) (rows ++ c ∷ [])

-- what is equal may stand for it behind an Ok
pub on_ok_by : {A E : Type 0} (r : Result A E) (x y z : List Line) → y ≡ z → OnOk r (x ≡ y) → OnOk r (x ≡ z)
on_ok_by (Ok a) x y z same is = is ∙ same
on_ok_by (Err e) x y z same is = is

-- ---- worked examples

-- with the seed 1, 3 go from row 6 to row 2, and then 7 from row 13 to row 4
first_two : transfers 1 1 2 ≡ record { number = 1; from = 6; to = 2; count = 3 } ∷ record { number = 2; from = 13; to = 4; count = 7 } ∷ []
first_two = refl

-- a second row that is drawn as the first is the next one, and row 1 comes behind row 16
next_row : transfer_of 1 4 20 8 ≡ record { number = 1; from = 5; to = 6; count = 9 }
next_row = refl

row_1_again : transfer_of 1 15 31 0 ≡ record { number = 1; from = 16; to = 1; count = 1 }
row_1_again = refl

-- without transfers there are the rows of stock, between their two lines, and the last look at them
no_transfers : length (lines 1 0) ≡ 19
unfolding lines opening
no_transfers = refl
