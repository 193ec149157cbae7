-- The grammar of statements as a relation, apart from any parser: which words say which statement.
use Rattle.std.specs.Prelude.{◌≡◌, ◌↔◌, ℕ, true, List, [], ◌∷◌, ◌++◌, Option, Some, None, Ok}
use Rattle.sk_lex.specs.declared.token.Keyword.TheVariants as key
use Rattle.sk_lex.specs.declared.token.Word.{Word}
use Rattle.sk_lex.specs.declared.token.Word.TheVariants as word
use Rattle.sk_lex.specs.Marks as mark
use Rattle.sk_rows.specs.declared.expr.Expr.{Expr}
use Rattle.sk_rows.specs.declared.statement.Begun.{Begun}
use Rattle.sk_rows.specs.declared.statement.Begun.TheVariants as begun
use Rattle.sk_rows.specs.declared.statement.SetItem.{SetItem}
use Rattle.sk_rows.specs.declared.statement.Statement.{Statement}
use Rattle.sk_rows.specs.declared.statement.Statement.TheVariants as st
use Rattle.sk_rows.specs.Names.{is_name}
use Rattle.sk_parse.specs.declared.terms.Level.TheVariants as level
use Rattle.sk_parse.specs.Rules.{Derives, IsLiteral, Rule}
use Rattle.sk_parse.specs.Statements.{whole}
use Rattle.sk_parse.specs.Limits.{most_nested}

abbrev pub IsName : List Word → List ℕ → Type 0
IsName ws t = (ws ≡ word.Name t ∷ []) × (is_name t ≡ true)

-- expr, with no more parentheses and NOTs open together than may be
abbrev pub IsExpr : List Word → Expr → Type 0
IsExpr = Derives (Rule.Chain level.Or) most_nested

-- { "," item }
abbrev pub AreMore : {A : Type 0} → (List Word → A → Type 0) → List Word → List A → Type 0
AreMore Item ws [] = ws ≡ []
AreMore Item ws (x ∷ xs) = (us : List Word) × (vs : List Word) × (ws ≡ word.Mark mark.comma mark.none ∷ us ++ vs) × Item us x × AreMore Item vs xs

-- item { "," item }
abbrev pub AreListed : {A : Type 0} → (List Word → A → Type 0) → List Word → List A → Type 0
AreListed Item ws [] = ⊥
AreListed Item ws (x ∷ xs) = (us : List Word) × (vs : List Word) × (ws ≡ us ++ vs) × Item us x × AreMore Item vs xs

-- [ "WHERE" expr ]
abbrev pub IsWhere : List Word → Option Expr → Type 0
IsWhere ws None = ws ≡ []
IsWhere ws (Some e) = (us : List Word) × (ws ≡ word.Key key.Where ∷ us) × IsExpr us e

-- [ "MEMORY" | "STORAGE" ]
abbrev pub IsBegun : List Word → Begun → Type 0
IsBegun ws begun.Cross = ws ≡ []
IsBegun ws begun.Mem = ws ≡ word.Key key.Memory ∷ []
IsBegun ws begun.Store = ws ≡ word.Key key.Storage ∷ []

-- "*" | name { "," name }
abbrev pub AreShown : List Word → Option (List (List ℕ)) → Type 0
AreShown ws None = ws ≡ word.Mark mark.star mark.none ∷ []
AreShown ws (Some names) = AreListed IsName ws names

-- name "=" expr
abbrev pub IsSet : List Word → SetItem → Type 0
IsSet ws item = (us : List Word) × (ws ≡ word.Name item.column ∷ word.Mark mark.equals mark.none ∷ us) × (is_name item.column ≡ true) × IsExpr us item.value

-- statement
abbrev pub Says : List Word → Statement → Type 0
Says ws (st.Begin b) = (us : List Word) × (ws ≡ word.Key key.Begin ∷ us) × IsBegun us b
Says ws st.Commit = ws ≡ word.Key key.Commit ∷ []
Says ws st.Rollback = ws ≡ word.Key key.Rollback ∷ []
Says ws (st.Insert t values) =
    (us : List Word) × (ws ≡ word.Key key.Insert ∷ word.Key key.Into ∷ word.Name t ∷ word.Key key.Values ∷ word.Mark mark.open_paren mark.none ∷ us ++ word.Mark mark.close_paren mark.none ∷ [])
    × (is_name t ≡ true) × AreListed IsLiteral us values
Says ws (st.Select t columns c) =
    (us : List Word) × (vs : List Word) × (ws ≡ word.Key key.Select ∷ us ++ word.Key key.From ∷ word.Name t ∷ vs)
    × AreShown us columns × (is_name t ≡ true) × IsWhere vs c
Says ws (st.Update t sets c) =
    (us : List Word) × (vs : List Word) × (ws ≡ word.Key key.Update ∷ word.Name t ∷ word.Key key.Set ∷ us ++ vs)
    × (is_name t ≡ true) × AreListed IsSet us sets × IsWhere vs c
Says ws (st.Delete t c) = (us : List Word) × (ws ≡ word.Key key.Delete ∷ word.Key key.From ∷ word.Name t ∷ us) × (is_name t ≡ true) × IsWhere us c

-- Words say a statement by the grammar exactly where they are read as it, all of them.
abbrev pub IsGrammar : Type 0
IsGrammar = (ws : List Word) (s : Statement) → Says ws s ↔ (whole ws ≡ Ok (s, []))

-- the same words say one statement alone
abbrev pub IsAlone : Type 0
IsAlone = (ws : List Word) (s t : Statement) → Says ws s → Says ws t → s ≡ t
