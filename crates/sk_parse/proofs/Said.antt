-- The words that are printed of a statement say it, and the tokens of the line are read as it.
use Rattle.std.proofs.Common.{◌≡◌, ℕ, Bool, true, ◌&&◌, List, [], ◌∷◌, length, map, refl, sym, ap, ◌∙◌, arith, Option, Some, None}
use Rattle.std.specs.Prelude.{nat_le, Result, Ok, Err}
use Rattle.std.specs.List.{list_all}
use Rattle.std.proofs.lemmas.Bool.{and_parts, leb-true}
use Rattle.sk_lex.specs.declared.token.LexFault.{LexFault}
use Rattle.sk_lex.specs.declared.token.Token.{Token}
use Rattle.sk_lex.specs.declared.token.Word.{Word}
use Rattle.sk_lex.specs.Laws.{words_of}
use Rattle.sk_lex.specs.Scanning.{tokens}
use Rattle.sk_lex.specs.Spelling.{can_be_spelled as is_spelled_word, joined}
use Rattle.sk_lex.proofs.Lexed.{lexed}
use Rattle.sk_rows.specs.Names.{is_name}
use Rattle.sk_rows.specs.declared.expr.Expr.{Expr}
use Rattle.sk_rows.specs.declared.statement.Begun.{Begun}
use Rattle.sk_rows.specs.declared.statement.Begun.TheVariants as begun
use Rattle.sk_rows.specs.declared.statement.SetItem.{SetItem}
use Rattle.sk_rows.specs.declared.statement.Statement.{Statement}
use Rattle.sk_rows.specs.declared.statement.Statement.TheVariants as st
use Rattle.sk_parse.specs.Printed.{IsSaidBack, are_shown, are_some, begun_words, can_be_printed, can_be_spelled, cond_words, is_condition, is_expression, is_literal, is_set, listed_words, literal_words, more_words, name_words, nesting, printed, said_words, set_words, shown_words}
use Rattle.sk_parse.specs.Rules.{IsLiteral}
use Rattle.sk_parse.specs.Saying.{AreListed, AreMore, AreShown, IsAlone, IsBegun, IsExpr, IsName, IsSet, IsWhere, Says}
use Rattle.sk_parse.specs.Spelled.{IsReadAs}
use Rattle.sk_parse.specs.Statements.{answer, statement, whole}
use Rattle.sk_parse.proofs.CompleteStatement.{whole_read}
use Rattle.sk_parse.proofs.Prints.{is_derived, literal}
use Rattle.sk_parse.proofs.Sound.{same}

says_expr : (x : Expr) → is_expression x ≡ true → IsExpr (printed x 0) x
unfolding is_expression
says_expr x is =
    let parts = and_parts (can_be_spelled x) (nat_le (nesting x 0) 64) is in
    is_derived x parts.0 0 64 (omega arith) (leb-true (nesting x 0) 64 parts.1)

says_name : (t : List ℕ) → is_name t ≡ true → IsName (name_words t) t
says_name t is = (refl, is)

says_set : (item : SetItem) → is_set item ≡ true → IsSet (set_words item) item
says_set item is =
    let parts = and_parts (is_name item.column) (is_expression item.value) is in
    (printed item.value 0, refl, parts.0, says_expr item.value parts.1)

says_more : {A : Type 0} (p : A → Bool) (f : A → List Word) (Item : List Word → A → Type 0) → ((x : A) → p x ≡ true → Item (f x) x)
    → (xs : List A) → list_all p xs ≡ true → AreMore Item (more_words f xs) xs
says_more p f Item each [] all = refl
says_more p f Item each (x ∷ xs) all =
    let parts = and_parts (p x) (list_all p xs) all in
    (f x, more_words f xs, refl, each x parts.0, says_more p f Item each xs parts.1)

says_listed : {A : Type 0} (p : A → Bool) (f : A → List Word) (Item : List Word → A → Type 0) → ((x : A) → p x ≡ true → Item (f x) x)
    → (xs : List A) → are_some p xs ≡ true → AreListed Item (listed_words f xs) xs
says_listed p f Item each [] all = absurd cc
says_listed p f Item each (x ∷ xs) all =
    let parts = and_parts (p x) (list_all p xs) all in
    (f x, more_words f xs, refl, each x parts.0, says_more p f Item each xs parts.1)

says_where : (c : Option Expr) → is_condition c ≡ true → IsWhere (cond_words c) c
says_where None is = refl
says_where (Some e) is = (printed e 0, refl, says_expr e is)

says_begun : (b : Begun) → IsBegun (begun_words b) b
says_begun begun.Cross = refl
says_begun begun.Mem = refl
says_begun begun.Store = refl

says_shown : (columns : Option (List (List ℕ))) → are_shown columns ≡ true → AreShown (shown_words columns) columns
says_shown None is = refl
says_shown (Some names) is = says_listed is_name name_words IsName says_name names is

says_words : (s : Statement) → can_be_printed s ≡ true → Says (said_words s) s
says_words (st.Begin b) is = (begun_words b, refl, says_begun b)
says_words st.Commit is = refl
says_words st.Rollback is = refl
says_words (st.Insert t values) is =
    let parts = and_parts (is_name t) (are_some is_literal values) is in
    (listed_words literal_words values, refl, parts.0, says_listed is_literal literal_words IsLiteral literal values parts.1)
says_words (st.Select t columns c) is =
    let parts = and_parts (is_name t && are_shown columns) (is_condition c) is in
    let front = and_parts (is_name t) (are_shown columns) parts.0 in
    (shown_words columns, cond_words c, refl, says_shown columns front.1, front.0, says_where c parts.1)
says_words (st.Update t sets c) is =
    let parts = and_parts (is_name t && are_some is_set sets) (is_condition c) is in
    let front = and_parts (is_name t) (are_some is_set sets) parts.0 in
    (listed_words set_words sets, cond_words c, refl, front.0, says_listed is_set set_words IsSet says_set sets front.1, says_where c parts.1)
says_words (st.Delete t c) is =
    let parts = and_parts (is_name t) (is_condition c) is in
    (cond_words c, refl, parts.0, says_where c parts.1)

pub said_back : IsSaidBack
said_back s is = whole_read (said_words s) s (says_words s is)

pub alone : IsAlone
alone ws s t says_s says_t =
    (same s t [] [] (sym (whole_read ws s says_s) ∙ whole_read ws t says_t)).0

-- ---- the tokens of the line

abbrev Made : Result (List Token) LexFault → List Token → Type 0
Made r ts = r ≡ Ok ts

abbrev words_or : List Word → Result (List Word) LexFault → List Word
words_or d (Ok l) = l
words_or d (Err e) = d

from_words : (r : Result (List Token) LexFault) (ws : List Word) → words_of r ≡ Ok ws → (ts : List Token) × Made r ts × (map (λ t. t.word) ts ≡ ws)
from_words (Ok ts) ws is = (ts, refl, ap (words_or ws) is)
from_words (Err f) ws is = absurd cc

pub read_as : (s : Statement) → can_be_printed s ≡ true → list_all is_spelled_word (said_words s) ≡ true → IsReadAs (joined (said_words s)) s
unfolding statement
read_as s can spelled =
    let ts = from_words (tokens (joined (said_words s))) (said_words s) (lexed (said_words s) spelled) in
    let end = length (joined (said_words s)) in
    (ts.0, ts.1, ap (λ ws. answer ts.0 end (whole ws)) ts.2 ∙ ap (answer ts.0 end) (said_back s can))
