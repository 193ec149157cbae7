-- What came of lines, and more of it.
use Rattle.std.specs.Prelude.{◌≡◌, ℕ, List, [], ◌∷◌, ◌++◌, Option, Some}
use Rattle.std.proofs.Common.{refl, sym, ap, subst, ◌∙◌}
use Rattle.std.proofs.lemmas.List.{append-nil}
use Rattle.std.proofs.lemmas.Grind.{flat_map-append}
use Rattle.sk_model.specs.declared.reply.Reply.{Reply}
use Rattle.sk_model.proofs.Lists.{Each, each_append}
use Rattle.sk_script.specs.declared.script.ScriptLine.{ScriptLine}
use Rattle.sk_serial.specs.Saving.{Saved, saved_by}
use Rattle.sk_serial.specs.Played.{Came, Answered, Flushed, IsOf, AreOf, HasBroken, told_in, lines_text, came_text, reply_after, saved_after, FullPast}

pub told_more : (front back : List Came) → told_in (front ++ back) ≡ told_in front ++ told_in back
told_more [] back = refl
told_more (Answered t ∷ cs) back = ap (λ ts. t ∷ ts) (told_more cs back)
told_more (Flushed note ∷ cs) back = told_more cs back

pub text_more : (came : List Came) (c : Came) → lines_text (came ++ c ∷ []) ≡ lines_text came ++ came_text c
text_more came c = flat_map-append came_text came (c ∷ []) ∙ ap (λ xs. lines_text came ++ xs) (append-nil (came_text c))

pub reply_more : (last : Option Reply) (front back : List Came) → reply_after last (front ++ back) ≡ reply_after (reply_after last front) back
reply_more last [] back = refl
reply_more last (Answered t ∷ cs) back = reply_more (Some t.line.1) cs back
reply_more last (Flushed note ∷ cs) back = reply_more last cs back

pub saved_more : (s : Saved) (front back : List Came) → saved_after s (front ++ back) ≡ saved_after (saved_after s front) back
saved_more s [] back = refl
saved_more s (Answered t ∷ cs) back = saved_more s cs back
saved_more s (Flushed note ∷ cs) back = saved_more (saved_by note s) cs back

pub of_more : (came : List Came) (lines : List ScriptLine) (c : Came) (l : ScriptLine) → AreOf came lines → IsOf c l.what → AreOf (came ++ c ∷ []) (lines ++ l ∷ [])
of_more [] [] c l h is = (is, tt)
of_more [] (x ∷ xs) c l h is = absurd h
of_more (y ∷ ys) [] c l h is = absurd h
of_more (y ∷ ys) (x ∷ xs) c l h is = (h.0, of_more ys xs c l h.1 is)

pub broken_more : (came more : List Came) → HasBroken more → HasBroken (came ++ more)
broken_more came more (front, note, is, broken) = (came ++ front, note, ap (λ xs. came ++ xs) is ∙ append_assoc_back came front (Flushed note ∷ []), broken)
  where
    append_assoc_back : (xs ys zs : List Came) → xs ++ (ys ++ zs) ≡ (xs ++ ys) ++ zs
    append_assoc_back [] ys zs = refl
    append_assoc_back (x ∷ xs) ys zs = ap (λ ws. x ∷ ws) (append_assoc_back xs ys zs)

-- with one more, where a log may be as long as before
pub full_more : (was logmax : ℕ) → logmax ≡ was → (came : List Came) (c : Came) → Each (FullPast was) came → FullPast logmax c → Each (FullPast logmax) (came ++ c ∷ [])
full_more was logmax same came c h f = each_append (FullPast logmax) came (c ∷ []) (subst (λ (n : ℕ). Each (FullPast n) came) (sym same) h) (f, tt)
