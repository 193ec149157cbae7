-- How the spelling of some words is put together.
use Rattle.std.proofs.Common.{◌≡◌, ℕ, zero, suc, ◌+◌, ◌%◌, Bool, true, false, cond, List, [], ◌∷◌, ◌++◌, refl, sym, ap, subst, ◌∙◌, append_assoc, append-nil, arith, Option, Some, None}
use Rattle.std.specs.Prelude.{ℤ, pos, negsuc, nat_lt, ◌<ℤ◌, unsigned_abs}
use Rattle.std.proofs.lemmas.Grind.{flat_map-append}
use Rattle.sk_lex.specs.declared.token.Keyword.TheVariants as key
use Rattle.sk_lex.specs.declared.token.Word.{Word}
use Rattle.sk_lex.specs.declared.token.Word.TheVariants as word
use Rattle.sk_rows.specs.declared.value.Value.{Value}
use Rattle.sk_rows.specs.declared.value.Value.TheVariants as value
use Rattle.sk_rows.specs.declared.expr.Expr.{Expr, roll-Expr, map-Expr}
use Rattle.sk_rows.specs.declared.expr.Expr.TheOpen.{Expr-F}
use Rattle.sk_rows.specs.declared.expr.Expr.TheFolds.{fold-roll-Expr, ind-Expr}
use Rattle.sk_rows.specs.declared.statement.Begun.{Begun}
use Rattle.sk_rows.specs.declared.statement.Begun.TheVariants as begun
use Rattle.sk_rows.specs.declared.statement.SetItem.{SetItem}
use Rattle.sk_rows.specs.declared.statement.Statement.{Statement}
use Rattle.sk_rows.specs.declared.statement.Statement.TheVariants as st
use Rattle.sk_parse.specs.Printed.{wrapped, strength, left_at, right_at, op_word, literal_words, print_step, printed, more_words, listed_words, name_words, set_words, cond_words, begun_words, shown_words, said_words}
use Rattle.sk_lex.specs.Spelling.{digits, spaced, spelled}
use Rattle.sk_lex.specs.Marks as mark
use Rattle.sk_parse.specs.Spelled.{opened, closed, literal_text, front_digits, text_step, text, more_text, listed_text, name_text, set_text, cond_text, begun_text, shown_text, insert_text, select_text, update_text, delete_text, said_text}

pub spelled_append : (a b : List Word) → spelled (a ++ b) ≡ spelled a ++ spelled b
unfolding spelled
spelled_append a b = flat_map-append spaced a b

pub spelled_wrapped : (asked : Bool) (ws : List Word) → spelled (wrapped asked ws) ≡ opened asked ++ spelled ws ++ closed asked
unfolding spelled
spelled_wrapped true ws = ap (λ z. spaced (word.Mark mark.open_paren mark.none) ++ z) (flat_map-append spaced ws (word.Mark mark.close_paren mark.none ∷ []))
spelled_wrapped false ws = sym (append-nil (spelled ws))

abbrev IsSpelled : Expr → Type 0
IsSpelled x = (at : ℕ) → text x at ≡ spelled (printed x at)

layer : (y : Expr-F Expr) → ((at : ℕ) → text_step (map-Expr Expr (ℕ → List ℕ) text y) at ≡ spelled (print_step (map-Expr Expr (ℕ → List Word) printed y) at)) → IsSpelled (roll-Expr y)
layer y is at = ap (λ f. f at) (fold-roll-Expr (ℕ → List ℕ) text_step y) ∙ is at ∙ sym (ap (λ f. spelled (f at)) (fold-roll-Expr (ℕ → List Word) print_step y))

nothing : [] ≡ spelled []
unfolding spelled
nothing = refl

one : (w : Word) → spaced w ≡ spelled (w ∷ [])
unfolding spelled
one w = sym (append-nil (spaced w))

literal : (v : Value) → literal_text v ≡ spelled (literal_words v)
unfolding spelled
literal (value.Int (pos n)) = one (word.Number n)
literal (value.Int (negsuc n)) = ap (λ z. spaced (word.Mark mark.minus mark.none) ++ z) (one (word.Number (suc n)))
literal (value.Text t) = one (word.Text t)
literal (value.Bool true) = one (word.Key key.True)
literal (value.Bool false) = one (word.Key key.False)

front : (vs : List Word) (w : Word) → spelled (w ∷ vs) ≡ spaced w ++ spelled vs
unfolding spelled
front vs w = refl

middle : (us vs : List Word) (w : Word) → spelled (us ++ w ∷ vs) ≡ spelled us ++ (spaced w ++ spelled vs)
unfolding spelled
middle us vs w = flat_map-append spaced us (w ∷ vs)

step : (y : Expr-F ((x : Expr) × IsSpelled x)) → IsSpelled (roll-Expr (map-Expr ((x : Expr) × IsSpelled x) Expr (λ p. p.0) y))
step (Expr-F.Lit v) = layer (Expr-F.Lit v) (λ at. literal v)
step (Expr-F.Col t) = layer (Expr-F.Col t) (λ at. one (word.Name t))
step (Expr-F.Not a) = layer (Expr-F.Not a.0) (λ at.
    let o = opened (nat_lt 2 at) in
    let c = closed (nat_lt 2 at) in
    let n = spaced (word.Key key.Not) in
    ap (λ z. o ++ n ++ z ++ c) (a.1 2)
    ∙ ap (λ z. z ++ c) (append_assoc o n (spelled (printed a.0 2)))
    ∙ ap (λ z. o ++ z ++ c) (sym (front (printed a.0 2) (word.Key key.Not)))
    ∙ sym (spelled_wrapped (nat_lt 2 at) (word.Key key.Not ∷ printed a.0 2)))
step (Expr-F.Two op a b) = layer (Expr-F.Two op a.0 b.0) (λ at.
    let o = opened (nat_lt (strength op) at) in
    let c = closed (nat_lt (strength op) at) in
    let w = spaced (op_word op) in
    let us = printed a.0 (left_at op) in
    let vs = printed b.0 (right_at op) in
    ap (λ z. o ++ z ++ w ++ text b.0 (right_at op) ++ c) (a.1 (left_at op))
    ∙ ap (λ z. o ++ spelled us ++ w ++ z ++ c) (b.1 (right_at op))
    ∙ ap (λ z. z ++ c) (append_assoc (o ++ spelled us) w (spelled vs) ∙ append_assoc o (spelled us) (w ++ spelled vs))
    ∙ ap (λ z. o ++ z ++ c) (sym (middle us vs (op_word op)))
    ∙ sym (spelled_wrapped (nat_lt (strength op) at) (us ++ op_word op ∷ vs)))

-- what is written of an expression is the words that are printed
is_spelling : (x : Expr) (at : ℕ) → text x at ≡ spelled (printed x at)
is_spelling = ind-Expr IsSpelled (λ x y is. subst (λ z. IsSpelled (roll-Expr z)) is (step y))

pub negative_text : (n : ℤ) → n <ℤ pos 0 → literal_text (value.Int n) ≡ spaced (word.Mark mark.minus mark.none) ++ spaced (word.Number (unsigned_abs n))
negative_text (pos n) less = absurd (grind arith)
negative_text (negsuc n) less = refl

pub positive_text : (n : ℤ) (m : ℕ) → n ≡ pos m → literal_text (value.Int n) ≡ spaced (word.Number m)
positive_text n m is = ap (λ z. literal_text (value.Int z)) is

pub digits_none : (k n : ℕ) → k ≡ 0 → digits k n ≡ []
unfolding digits
digits_none zero n is = refl
digits_none (suc k) n is = absurd (omega arith)

pub digits_more : (k m n : ℕ) → k ≡ suc m → digits k n ≡ front_digits m n ++ (48 + n % 10) ∷ []
unfolding digits
digits_more zero m n is = absurd (omega arith)
digits_more (suc k) m n is = let same : k ≡ m = omega arith in ap (λ z. front_digits z n ++ (48 + n % 10) ∷ []) same

-- ---- statements

more_spelled : {A : Type 0} (f : A → List ℕ) (g : A → List Word) → ((x : A) → f x ≡ spelled (g x)) → (xs : List A) → more_text f xs ≡ spelled (more_words g xs)
unfolding spelled
more_spelled f g each [] = refl
more_spelled f g each (x ∷ xs) =
    append_assoc (spaced (word.Mark mark.comma mark.none)) (f x) (more_text f xs)
    ∙ ap (λ z. spaced (word.Mark mark.comma mark.none) ++ z) (ap (λ z. z ++ more_text f xs) (each x) ∙ ap (λ z. spelled (g x) ++ z) (more_spelled f g each xs) ∙ sym (spelled_append (g x) (more_words g xs)))

listed_spelled : {A : Type 0} (f : A → List ℕ) (g : A → List Word) → ((x : A) → f x ≡ spelled (g x)) → (xs : List A) → listed_text f xs ≡ spelled (listed_words g xs)
unfolding spelled
listed_spelled f g each [] = refl
listed_spelled f g each (x ∷ xs) = ap (λ z. z ++ more_text f xs) (each x) ∙ ap (λ z. spelled (g x) ++ z) (more_spelled f g each xs) ∙ sym (spelled_append (g x) (more_words g xs))

set_spelled : (item : SetItem) → set_text item ≡ spelled (set_words item)
unfolding spelled
set_spelled item =
    append_assoc (spaced (word.Name item.column)) (spaced (word.Mark mark.equals mark.none)) (text item.value 0)
    ∙ ap (λ z. spaced (word.Name item.column) ++ (spaced (word.Mark mark.equals mark.none) ++ z)) (is_spelling item.value 0)

cond_spelled : (cond : Option Expr) → cond_text cond ≡ spelled (cond_words cond)
unfolding spelled
cond_spelled None = refl
cond_spelled (Some e) = ap (λ z. spaced (word.Key key.Where) ++ z) (is_spelling e 0)

begun_spelled : (begun : Begun) → begun_text begun ≡ spelled (begun_words begun)
begun_spelled begun.Cross = nothing
begun_spelled begun.Mem = one (word.Key key.Memory)
begun_spelled begun.Store = one (word.Key key.Storage)

shown_spelled : (columns : Option (List (List ℕ))) → shown_text columns ≡ spelled (shown_words columns)
shown_spelled None = one (word.Mark mark.star mark.none)
shown_spelled (Some names) = listed_spelled name_text name_words (λ t. one (word.Name t)) names

-- the pieces of a statement, regrouped
seven : (a b c d e f g : List ℕ) → (((((a ++ b) ++ c) ++ d) ++ e) ++ f) ++ g ≡ a ++ (b ++ (c ++ (d ++ (e ++ (f ++ g)))))
seven a b c d e f g = simp append_assoc

five : (a b c d e : List ℕ) → (((a ++ b) ++ c) ++ d) ++ e ≡ a ++ (b ++ (c ++ (d ++ e)))
five a b c d e = simp append_assoc

four : (a b c d : List ℕ) → ((a ++ b) ++ c) ++ d ≡ a ++ (b ++ (c ++ d))
four a b c d = simp append_assoc

insert_spelled : (table : List ℕ) (values : List Value) → insert_text table values ≡ spelled (said_words (st.Insert table values))
unfolding insert_text spelled
insert_spelled table values =
    let i = spaced (word.Key key.Insert) in
    let into = spaced (word.Key key.Into) in
    let name = spaced (word.Name table) in
    let v = spaced (word.Key key.Values) in
    let o = spaced (word.Mark mark.open_paren mark.none) in
    let c = spaced (word.Mark mark.close_paren mark.none) in
    let items = listed_words literal_words values in
    let inner : listed_text literal_text values ++ c ≡ spelled (items ++ word.Mark mark.close_paren mark.none ∷ []) =
    ap (λ y. y ++ c) (listed_spelled literal_text literal_words literal values) ∙ ap (λ y. spelled items ++ y) (one (word.Mark mark.close_paren mark.none)) ∙ sym (spelled_append items (word.Mark mark.close_paren mark.none ∷ [])) in
    seven i into name v o (listed_text literal_text values) c ∙ ap (λ x. i ++ (into ++ (name ++ (v ++ (o ++ x))))) inner

select_spelled : (table : List ℕ) (columns : Option (List (List ℕ))) (cond : Option Expr) → select_text table columns cond ≡ spelled (said_words (st.Select table columns cond))
unfolding select_text spelled
select_spelled table columns cond =
    let s = spaced (word.Key key.Select) in
    let from = spaced (word.Key key.From) in
    let name = spaced (word.Name table) in
    let shown = shown_words columns in
    let inner : shown_text columns ++ (from ++ (name ++ cond_text cond)) ≡ spelled (shown ++ (word.Key key.From ∷ word.Name table ∷ cond_words cond)) =
    ap (λ y. y ++ (from ++ (name ++ cond_text cond))) (shown_spelled columns) ∙ ap (λ y. spelled shown ++ (from ++ (name ++ y))) (cond_spelled cond)
    ∙ sym (spelled_append shown (word.Key key.From ∷ word.Name table ∷ cond_words cond)) in
    five s (shown_text columns) from name (cond_text cond) ∙ ap (λ x. s ++ x) inner

update_spelled : (table : List ℕ) (sets : List SetItem) (cond : Option Expr) → update_text table sets cond ≡ spelled (said_words (st.Update table sets cond))
unfolding update_text spelled
update_spelled table sets cond =
    let u = spaced (word.Key key.Update) in
    let name = spaced (word.Name table) in
    let set = spaced (word.Key key.Set) in
    let items = listed_words set_words sets in
    let inner : listed_text set_text sets ++ cond_text cond ≡ spelled (items ++ cond_words cond) =
    ap (λ y. y ++ cond_text cond) (listed_spelled set_text set_words set_spelled sets) ∙ ap (λ y. spelled items ++ y) (cond_spelled cond) ∙ sym (spelled_append items (cond_words cond)) in
    five u name set (listed_text set_text sets) (cond_text cond) ∙ ap (λ x. u ++ (name ++ (set ++ x))) inner

delete_spelled : (table : List ℕ) (cond : Option Expr) → delete_text table cond ≡ spelled (said_words (st.Delete table cond))
unfolding delete_text spelled
delete_spelled table cond =
    let d = spaced (word.Key key.Delete) in
    let from = spaced (word.Key key.From) in
    let name = spaced (word.Name table) in
    four d from name (cond_text cond) ∙ ap (λ y. d ++ (from ++ (name ++ y))) (cond_spelled cond)

begin_spelled : (begun : Begun) → said_text (st.Begin begun) ≡ spelled (said_words (st.Begin begun))
unfolding spelled
begin_spelled begun = ap (λ y. spaced (word.Key key.Begin) ++ y) (begun_spelled begun)

-- what is written of a statement is the words that are printed
pub is_said : (s : Statement) → said_text s ≡ spelled (said_words s)
is_said (st.Begin begun) = begin_spelled begun
is_said st.Commit = one (word.Key key.Commit)
is_said st.Rollback = one (word.Key key.Rollback)
is_said (st.Insert table values) = insert_spelled table values
is_said (st.Select table columns cond) = select_spelled table columns cond
is_said (st.Update table sets cond) = update_spelled table sets cond
is_said (st.Delete table cond) = delete_spelled table cond
