-- What the answer to some tokens says by the grammar.
use Rattle.std.proofs.Common.{◌≡◌, ◌==◌, ℕ, zero, suc, ◌-◌, Bool, true, false, cond, List, [], ◌∷◌, ◌++◌, length, length-append, take, drop, refl, sym, ap, subst, ◌∙◌, append-nil, arith}
use Rattle.std.specs.Prelude.{Result, Ok, Err}
use Rattle.std.proofs.Math.Seq.{drop-append_seam, take-append_seam}
use Rattle.std.proofs.lemmas.Bool.Decides.{nat_tests}
use Rattle.std.proofs.lemmas.List.{take-append-drop}
use Rattle.sk_lex.specs.declared.token.Token.{Token}
use Rattle.sk_lex.specs.declared.token.Word.{Word}
use Rattle.sk_rows.specs.declared.statement.Statement.{Statement}
use Rattle.sk_parse.specs.declared.fault.ParseFault.{ParseFault}
use Rattle.sk_parse.specs.declared.fault.ParseFault.TheVariants as fault
use Rattle.sk_parse.specs.Input.{Input, Outcome, refuse}
use Rattle.sk_parse.specs.Places.{IsAnswer, IsFirstFault, IsRefused, words}
use Rattle.sk_parse.specs.Saying.{Says}
use Rattle.sk_rows.specs.Memory.{Gives}
use Rattle.sk_parse.specs.Statements.{answer, place, place_of, said, statement, wants_memory, whole}
use Rattle.sk_parse.proofs.CompleteStatement.{whole_read}
use Rattle.sk_parse.proofs.Local.{refused_rightly}
use Rattle.sk_parse.proofs.GoesOnStatements.{reached}
use Rattle.sk_parse.proofs.Sound.{Gave, bind_ok, same}
use Rattle.sk_parse.proofs.SoundStatement.{whole_sound}

nothing_left : (j : Input) → (length j == 0) ≡ true → j ≡ []
nothing_left [] is = refl
nothing_left (w ∷ j) is = let bad : suc (length j) ≡ 0 = grind (arith, nat_tests) in absurd (omega arith)

-- a statement that was read leaves nothing
whole_ends : (ws : List Word) (s : Statement) (r : Input) → Gave (whole ws) s r → r ≡ []
unfolding whole
whole_ends ws s r is =
    let a = bind_ok (said ws) (λ found j. cond (length j == 0) (Ok (found, j)) (refuse j)) s r is in
    by a.0 a.1 (length a.1 == 0) refl a.3
  where
    by : (found : Statement) (j : Input) (t : Bool) → (length j == 0) ≡ t → Gave (cond t (Ok (found, j)) (refuse j)) s r → r ≡ []
    by found j true at given = sym (same found s j r given).1 ∙ nothing_left j at
    by found j false at given = absurd cc

words-take : (n : ℕ) (ts : List Token) → words (take n ts) ≡ take n (words ts)
words-take zero ts = refl
words-take (suc n) [] = refl
words-take (suc n) (t ∷ ts) = ap (λ l. t.word ∷ l) (words-take n ts)

words-drop : (n : ℕ) (ts : List Token) → words (drop n ts) ≡ drop n (words ts)
words-drop zero ts = refl
words-drop (suc n) [] = refl
words-drop (suc n) (t ∷ ts) = words-drop n ts

length-words : (ts : List Token) → length (words ts) ≡ length ts
length-words [] = refl
length-words (t ∷ ts) = ap suc (length-words ts)

abbrev place_or : ℕ → Result Statement ParseFault → ℕ
place_or d (Err (fault.Unexpected p)) = p
place_or d _ = d

abbrev said_or : Statement → Result Statement ParseFault → Statement
said_or d (Ok s) = s
said_or d (Err f) = d

-- the next word is refused, at the words before it and its rest
next_refused : (us : List Word) (vs : List Token) → whole (us ++ words vs) ≡ Err (length (words vs)) → IsRefused us vs
next_refused us (t ∷ ts) failed = λ zs s. refused_rightly us t.word (words ts) failed zs s
next_refused us [] failed = λ s says. by s (whole_read (us ++ []) s (subst (λ z. Says z s) (sym (append-nil us)) says))
  where
    by : (s : Statement) → Gave (whole (us ++ [])) s [] → ⊥
    by s read = absurd cc

first_fault : (tokens : List Token) (end n : ℕ) → whole (words tokens) ≡ Err n → IsFirstFault tokens end (place tokens end n)
unfolding place
first_fault tokens end n failed =
    let b = reached (words tokens) n failed in
    let k = length b.0 in
    let len : length tokens - n ≡ k = let l = ap length b.4 in let m = length-append b.0 b.1 in let w = length-words tokens in omega (arith, b.5) in
    let front : words (take k tokens) ≡ b.0 = words-take k tokens ∙ ap (take k) b.4 ∙ take-append_seam b.0 b.1 in
    let back : words (drop k tokens) ≡ b.1 = words-drop k tokens ∙ ap (drop k) b.4 ∙ drop-append_seam b.0 b.1 in
    let split : tokens ≡ take k tokens ++ drop k tokens = sym (take-append-drop k tokens) in
    let all : words tokens ≡ words (take k tokens) ++ words (drop k tokens) = b.4 ∙ ap (λ l. l ++ b.1) (sym front) ∙ ap (λ l. words (take k tokens) ++ l) (sym back) in
    let here : whole (words (take k tokens) ++ words (drop k tokens)) ≡ Err (length (words (drop k tokens))) = ap whole (sym all) ∙ failed ∙ ap Err (b.5 ∙ ap length (sym back)) in (
      take k tokens,
      drop k tokens,
      split,
      ap (λ m. place_of end (drop m tokens)) len,
      (b.2, b.3, subst (λ l. Says (l ++ b.2) b.3) (sym front) b.6),
      next_refused (words (take k tokens)) (drop k tokens) here,
    )

pub answered : (tokens : List Token) (end : ℕ) (r : Result Statement ParseFault) → Gives wants_memory r (statement tokens end) → IsAnswer tokens end r
unfolding statement
answered tokens end (Ok s) gives = by (whole (words tokens)) refl gives
  where
    by : (o : Outcome Statement) → whole (words tokens) ≡ o → answer tokens end o ≡ Ok s → Says (words tokens) s
    by (Ok q) at is =
        let ends = whole_ends (words tokens) q.0 q.1 at in
        let same_said : q.0 ≡ s = ap (said_or q.0) is in
        subst (Says (words tokens)) same_said (whole_sound (words tokens) q.0 (at ∙ ap (λ z. Ok (q.0, z)) ends))
    by (Err n) at is = absurd cc
answered tokens end (Err (fault.Unexpected p)) gives = by (whole (words tokens)) refl gives
  where
    by : (o : Outcome Statement) → whole (words tokens) ≡ o → answer tokens end o ≡ Err (fault.Unexpected p) → IsFirstFault tokens end p
    by (Ok q) at is = absurd cc
    by (Err n) at is = subst (IsFirstFault tokens end) (ap (place_or p) is) (first_fault tokens end n at)
answered tokens end (Err fault.NoMemory) gives = tt
