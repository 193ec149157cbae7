-- Bytes cut at their line ends, and a script read from the pieces.
use Rattle.std.proofs.Common.{◌≡◌, ℕ, ◌+◌, ◌<◌, ◌≤◌, Bool, true, false, List, [], ◌∷◌, length, take, drop, refl, sym, ap, ◌-◌, ◌∙◌, arith, ⊎_elim}
use Rattle.std.specs.Prelude.{◌==◌, suc}
use Rattle.std.specs.List.{prefix_len}
use Rattle.std.proofs.lemmas.Bool.{cases_Bool}
use Rattle.std.proofs.lemmas.List.{take_rest}
use Rattle.sk_script.specs.declared.script.Script.{Script}
use Rattle.sk_script.specs.Script.{pieces, onto, goes_on, read_from, gone_on, with_line, without_return}

take_more : (n b : ℕ) (bs : List ℕ) → take (1 + n) (b ∷ bs) ≡ b ∷ take n bs
take_more n b bs = let e : 1 + n ≡ suc n = omega arith in rw e refl

drop_more : (n b : ℕ) (bs : List ℕ) → drop (1 + n + 1) (b ∷ bs) ≡ drop (n + 1) bs
drop_more n b bs = let e : 1 + n + 1 ≡ suc (n + 1) = omega arith in rw e refl

-- the bytes up to the first line end are a piece, and those behind it are cut by themselves
pub first_piece : (bs : List ℕ) → prefix_len goes_on bs < length bs → pieces bs ≡ take (prefix_len goes_on bs) bs ∷ pieces (drop (prefix_len goes_on bs + 1) bs)
first_piece [] short = absurd (omega arith)
first_piece (b ∷ bs) short = ⊎_elim
    (λ (e : (b == 10) ≡ true). rw e refl)
    (λ (e : (b == 10) ≡ false).
    let less : prefix_len goes_on bs < length bs = (let s = rw e at short in omega arith) in
    rw e (rw (take_more (prefix_len goes_on bs) b bs, drop_more (prefix_len goes_on bs) b bs) (ap (onto b) (first_piece bs less))))
    (cases_Bool (b == 10))

-- the same as slices have it
pub piece_at : (bs : List ℕ) (n : ℕ) → n ≡ prefix_len goes_on bs → n < length bs → pieces bs ≡ take n bs ∷ pieces (take (length bs - (n + 1)) (drop (n + 1) bs))
piece_at bs n e short =
    let first : pieces bs ≡ take n bs ∷ pieces (drop (n + 1) bs) = rw e (first_piece bs (rw e at short)) in
    first ∙ ap (λ (rest : List ℕ). take n bs ∷ pieces rest) (sym (take_rest bs (n + 1)))

-- bytes with no line end are one piece
pub one_piece : (bs : List ℕ) → length bs ≤ prefix_len goes_on bs → pieces bs ≡ bs ∷ []
one_piece [] long = refl
one_piece (b ∷ bs) long = ⊎_elim
    (λ (e : (b == 10) ≡ true). let l = rw e at long in absurd (omega arith))
    (λ (e : (b == 10) ≡ false).
    let more : length bs ≤ prefix_len goes_on bs = (let l = rw e at long in omega arith) in
    rw e (ap (onto b) (one_piece bs more)))
    (cases_Bool (b == 10))

-- there is always a piece
pub some_piece : (bs : List ℕ) → (p : List ℕ) × (ps : List (List ℕ)) × (pieces bs ≡ p ∷ ps)
some_piece [] = ([], [], refl)
some_piece (b ∷ bs) = ⊎_elim
    (λ (e : (b == 10) ≡ true). ([], pieces bs, rw e refl))
    (λ (e : (b == 10) ≡ false).
    let rest = some_piece bs in
    (b ∷ rest.0, rest.1, rw e (ap (onto b) rest.2)))
    (cases_Bool (b == 10))

-- a line that is ended, and then what stands behind it
pub one_line : (long : Bool) (script : Script) (n : ℕ) (line bs : List ℕ)
    → read_from long script n (line ∷ pieces bs) ≡ gone_on n (with_line false script n (without_return line)) (λ after. read_from long after (n + 1) (pieces bs))
one_line long script n line bs = let some = some_piece bs in rw some.2 refl
