-- Of a script that was read: the session of each line, and the texts that it writes.
use Rattle.std.proofs.Common.{◌≡◌, ℕ, ◌+◌, Bool, true, false, ◌&&◌, List, [], ◌∷◌, length, Some, refl, sym, ap, subst, ◌∙◌}
use Rattle.std.specs.Prelude.{IfOk, IfSome, nat_le, nat_lt, pos, Result, Ok, Err}
use Rattle.std.specs.List.{list_all, AllByRecursion}
use Rattle.sk_lex.specs.declared.token.Keyword.TheVariants as key
use Rattle.sk_lex.specs.declared.token.Word.{Word}
use Rattle.sk_lex.specs.declared.token.Word.TheVariants as word
use Rattle.sk_lex.specs.Front.{Text}
use Rattle.sk_rows.specs.declared.expr.Expr.{Expr}
use Rattle.sk_rows.specs.declared.expr.Expr.TheVariants as expr
use Rattle.sk_rows.specs.declared.expr.Expr.TheFolds.{fold-roll-Expr}
use Rattle.sk_rows.specs.declared.expr.Expr.TheOpen.{Expr-F}
use Rattle.sk_rows.specs.declared.statement.SetItem.{SetItem}
use Rattle.sk_rows.specs.declared.statement.Statement.{Statement}
use Rattle.sk_rows.specs.declared.statement.Statement.TheVariants as st
use Rattle.sk_rows.specs.declared.value.Value.{Value}
use Rattle.sk_rows.specs.declared.value.Value.TheVariants as value
use Rattle.sk_rows.specs.Memory.{Gives}
use Rattle.sk_model.specs.EngineConditions.{are_short, is_short}
use Rattle.sk_model.proofs.Layers.{of_col, of_lit, of_two}
use Rattle.sk_parse.specs.Rules.{Derives, IsLiteral, Rule}
use Rattle.sk_parse.specs.Saying.{AreListed, AreMore, IsSet, Says}
use Rattle.sk_parse.specs.Terms.{minus, negative_of, value_of}
use Rattle.sk_script.specs.declared.script.Line.{Line}
use Rattle.sk_script.specs.declared.script.Script.{Script}
use Rattle.sk_script.specs.declared.script.ScriptFault.{ScriptFault}
use Rattle.sk_script.specs.declared.script.ScriptFault.TheVariants as fault
use Rattle.sk_script.specs.declared.script.ScriptLine.{ScriptLine}
use Rattle.sk_script.specs.Rules.{AreBodies, IsBody, IsSaid, IsSession, session_in}
use Rattle.sk_script.specs.Script.{script_of, wants}
use Rattle.sk_model.specs.Texts.{expr_is_short, short_step, texts_are_short}
use Rattle.sk_script.specs.Texts.{says_short}
use Rattle.sk_script.proofs.Parts.{kept}
use Rattle.sk_script.proofs.ScriptRules.{script_stands}

-- ---- texts

value_short : (w : Word) (v : Value) → value_of w ≡ Some v → is_short v ≡ true
value_short (word.Number n) v at = subst (λ x. is_short x ≡ true) (kept (nat_lt n 9223372036854775808) (value.Int (pos n)) v at).1 refl
value_short (word.Text t) v at =
    let found = kept (nat_le (length t) 255) (value.Text t) v at in
    subst (λ x. is_short x ≡ true) found.1 found.0
value_short (word.Key key.True) v at = subst (λ x. is_short x ≡ true) (kept true (value.Bool true) v at).1 refl
value_short (word.Key key.False) v at = subst (λ x. is_short x ≡ true) (kept true (value.Bool false) v at).1 refl
value_short _ v at = absurd cc

negative_short : (w : Word) (v : Value) → negative_of w ≡ Some v → is_short v ≡ true
negative_short (word.Number n) v at = subst (λ x. is_short x ≡ true) (kept (nat_le n 9223372036854775808) (value.Int (minus n)) v at).1 refl
negative_short _ v at = absurd cc

literal_short : (ws : List Word) (v : Value) → IsLiteral ws v → is_short v ≡ true
literal_short _ _ (IsLiteral.plain w v at) = value_short w v at
literal_short _ _ (IsLiteral.negative w v at) = negative_short w v at

of_not : (a : Expr) → expr_is_short (expr.Not a) ≡ expr_is_short a
of_not a = ap expr_is_short (sym (expr.rolls-Not a)) ∙ fold-roll-Expr Bool short_step (Expr-F.Not a)

derived_short : (r : Rule) (n : ℕ) (ws : List Word) (a : Expr) → Derives r n ws a → expr_is_short a ≡ true
derived_short _ _ _ _ (Derives.chain_one n l ws a d) = derived_short _ _ _ _ d
derived_short _ _ _ _ (Derives.chain_more n l us w vs o a b d at e) = of_two Bool short_step o a b ∙ rw (derived_short _ _ _ _ d, derived_short _ _ _ _ e) refl
derived_short _ _ _ _ (Derives.neg_one n ws a d) = derived_short _ _ _ _ d
derived_short _ _ _ _ (Derives.neg_not n ws a d) = of_not a ∙ derived_short _ _ _ _ d
derived_short _ _ _ _ (Derives.comp_one n ws a d) = derived_short _ _ _ _ d
derived_short _ _ _ _ (Derives.comp_two n us w vs o a b d at e) = of_two Bool short_step o a b ∙ rw (derived_short _ _ _ _ d, derived_short _ _ _ _ e) refl
derived_short _ _ _ _ (Derives.atom_literal n ws v is) = of_lit Bool short_step v ∙ literal_short ws v is
derived_short _ _ _ _ (Derives.atom_name n t is) = of_col Bool short_step t
derived_short _ _ _ _ (Derives.atom_parens n ws a d) = derived_short _ _ _ _ d

more_pass : {A : Type 0} (Item : List Word → A → Type 0) (p : A → Bool) → ((ws : List Word) (x : A) → Item ws x → p x ≡ true) → (xs : List A) (ws : List Word) → AreMore Item ws xs → list_all p xs ≡ true
more_pass Item p each [] ws is = refl
more_pass Item p each (x ∷ xs) ws is = rw (each is.0 x is.3, more_pass Item p each xs is.1 is.4) refl

listed_pass : {A : Type 0} (Item : List Word → A → Type 0) (p : A → Bool) → ((ws : List Word) (x : A) → Item ws x → p x ≡ true) → (xs : List A) (ws : List Word) → AreListed Item ws xs → list_all p xs ≡ true
listed_pass Item p each [] ws is = absurd is
listed_pass Item p each (x ∷ xs) ws is = rw (each is.0 x is.3, more_pass Item p each xs is.1 is.4) refl

short_list : (vs : List Value) → are_short vs ≡ list_all is_short vs
short_list [] = refl
short_list (v ∷ vs) = ap (λ b. is_short v && b) (short_list vs)

set_short : (ws : List Word) (s : SetItem) → IsSet ws s → expr_is_short s.value ≡ true
set_short ws s is = derived_short _ _ is.0 s.value is.3

statement_short : (ws : List Word) (s : Statement) → Says ws s → texts_are_short s ≡ true
statement_short ws (st.Begin b) is = refl
statement_short ws st.Commit is = refl
statement_short ws st.Rollback is = refl
statement_short ws (st.Insert t values) is = short_list values ∙ listed_pass IsLiteral is_short literal_short values is.0 is.3
statement_short ws (st.Select t columns c) is = refl
statement_short ws (st.Update t sets c) is = listed_pass IsSet (λ (s : SetItem). expr_is_short s.value) set_short sets is.0 is.4
statement_short ws (st.Delete t c) is = refl

-- ---- lines

said_right : (n : ℕ) (us : List Word) (what : Line) → IsSession n → IsSaid n us what → IfSome (session_in what) IsSession × (says_short what ≡ true)
said_right n _ _ session IsSaid.step = (session, refl)
said_right n _ _ session (IsSaid.statement us s says) = (session, statement_short us s says)

body_right : (ws : List Word) (what : Line) → IsBody ws what → IfSome (session_in what) IsSession × (says_short what ≡ true)
body_right _ _ (IsBody.plain n us what session said) = said_right n us what session said
body_right _ _ (IsBody.closed n us what session said) = said_right n us what session said
body_right _ _ IsBody.flush = (tt, refl)
body_right _ _ IsBody.stop = (tt, refl)

abbrev HaveSessions : List ScriptLine → Type 0
HaveSessions = AllByRecursion (λ l. IfSome (session_in l.what) IsSession)

abbrev AreShort : List ScriptLine → Type 0
AreShort = AllByRecursion (λ l. says_short l.what ≡ true)

bodies_right : (n : ℕ) (lines : List Text) (said : List ScriptLine) → AreBodies n lines said → HaveSessions said × AreShort said
bodies_right _ _ _ (AreBodies.none n) = (tt, tt)
bodies_right _ _ _ (AreBodies.passed n line lines said is more) = bodies_right (n + 1) lines said more
bodies_right _ _ _ (AreBodies.body n line lines said ws what has made more) =
    let here = body_right ws what made in
    let rest = bodies_right (n + 1) lines said more in
    ((here.0, rest.0), (here.1, rest.1))

-- ---- what came back for the bytes

script_right : (bytes : Text) (script : Script) → script_of bytes ≡ Ok script → HaveSessions script.lines × AreShort script.lines
script_right bytes script is = let made = (script_stands bytes script is).made in bodies_right _ made.bodies script.lines made.said

pub given_sessions : (bytes : Text) (result : Result Script ScriptFault) → Gives wants result (script_of bytes) → IfOk result (λ script. AllByRecursion (λ l. IfSome (session_in l.what) IsSession) script.lines)
given_sessions bytes (Ok script) is = (script_right bytes script is).0
given_sessions bytes (Err (fault.At line place)) is = tt
given_sessions bytes (Err fault.NoMemory) is = tt

pub given_texts : (bytes : Text) (result : Result Script ScriptFault) → Gives wants result (script_of bytes) → IfOk result (λ script. AllByRecursion (λ l. says_short l.what ≡ true) script.lines)
given_texts bytes (Ok script) is = (script_right bytes script is).1
given_texts bytes (Err (fault.At line place)) is = tt
given_texts bytes (Err fault.NoMemory) is = tt
