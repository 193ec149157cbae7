-- The tables of single words, pinned row by row.
use Rattle.std.proofs.Common.{◌≡◌, [], ◌∷◌, map, codes, refl}
use Rattle.std.specs.Prelude.{Some, None, pos, negsuc, true, false}
use Rattle.std.specs.Str.{byte}
use Rattle.sk_lex.specs.declared.token.Keyword.TheVariants as key
use Rattle.sk_lex.specs.declared.token.Word.TheVariants as word
use Rattle.sk_rows.specs.declared.expr.Op.TheVariants as op
use Rattle.sk_rows.specs.declared.value.Value.TheVariants as value
use Rattle.sk_parse.specs.declared.terms.Level.TheVariants as level
use Rattle.sk_parse.specs.Terms.{comparison, grouping, negative_of, value_of}

truths : map (grouping level.Or) (word.Key key.Or ∷ word.Key key.And ∷ []) ≡ Some op.Or ∷ None ∷ []
truths = refl

both : map (grouping level.And) (word.Key key.And ∷ word.Key key.Or ∷ []) ≡ Some op.And ∷ None ∷ []
both = refl

sums : map (grouping level.Sum) (word.Mark (byte "+") 0 ∷ word.Mark (byte "-") 0 ∷ word.Mark (byte "*") 0 ∷ word.Mark (byte "+") 1 ∷ []) ≡ Some op.Add ∷ Some op.Sub ∷ None ∷ None ∷ []
sums = refl

products : map (grouping level.Prod) (word.Mark (byte "*") 0 ∷ word.Mark (byte "+") 0 ∷ []) ≡ Some op.Mul ∷ None ∷ []
products = refl

comparisons : map comparison (word.Mark (byte "=") 0 ∷ word.Mark (byte "<") (byte ">") ∷ word.Mark (byte "<") 0 ∷ word.Mark (byte "<") (byte "=") ∷ word.Mark (byte ">") 0 ∷ word.Mark (byte ">") (byte "=") ∷ [])
    ≡ Some op.Eq ∷ Some op.Ne ∷ Some op.Lt ∷ Some op.Le ∷ Some op.Gt ∷ Some op.Ge ∷ []
comparisons = refl

no_comparisons : map comparison (word.Mark (byte ",") 0 ∷ word.Mark (byte "+") 0 ∷ word.Mark (byte "=") (byte "=") ∷ word.Key key.Not ∷ []) ≡ None ∷ None ∷ None ∷ None ∷ []
no_comparisons = refl

literals : map value_of (word.Number 9223372036854775807 ∷ word.Number 9223372036854775808 ∷ word.Text (codes "it's") ∷ word.Key key.True ∷ word.Key key.False ∷ word.Key key.Not ∷ [])
    ≡ Some (value.Int (pos 9223372036854775807)) ∷ None ∷ Some (value.Text (codes "it's")) ∷ Some (value.Bool true) ∷ Some (value.Bool false) ∷ None ∷ []
literals = refl

negatives : map negative_of (word.Number 0 ∷ word.Number 9223372036854775808 ∷ word.Number 9223372036854775809 ∷ word.Key key.True ∷ [])
    ≡ Some (value.Int (pos 0)) ∷ Some (value.Int (negsuc 9223372036854775807)) ∷ None ∷ None ∷ []
negatives = refl
