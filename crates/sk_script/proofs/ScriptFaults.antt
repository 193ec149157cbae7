-- The fault that is answered for a script is its first.
use Rattle.std.proofs.Common.{◌≡◌, ℕ, ◌+◌, Bool, true, false, cond, not, ◌&&◌, List, [], ◌∷◌, ◌++◌, length, map, take, refl, sym, ap, subst, ◌∙◌, arith, ◌⊎◌, inl, inr}
use Rattle.std.specs.Prelude.{nat_lt, Result, Ok, Err}
use Rattle.sk_lex.specs.Front.{Text}
use Rattle.sk_parse.specs.declared.fault.ParseFault.{ParseFault}
use Rattle.sk_parse.specs.declared.fault.ParseFault.TheVariants as parse
use Rattle.sk_rows.specs.Memory.{Gives}
use Rattle.sk_script.specs.declared.script.Script.{Script}
use Rattle.sk_script.specs.declared.script.ScriptFault.{ScriptFault}
use Rattle.sk_script.specs.declared.script.ScriptFault.TheVariants as fault
use Rattle.sk_script.specs.Faults.{IsAnswer, IsFirstFaultAt, is_cut, line_of}
use Rattle.sk_script.specs.Rules.{IsScript}
use Rattle.sk_script.specs.Script.{gone_on, is_nil, nothing, read_from, script_of, with_last, wants, with_line, without_return}
use Rattle.sk_script.proofs.BodyFaults.{FailsAt}
use Rattle.sk_script.proofs.Cuts.{some_piece}
use Rattle.sk_script.proofs.LineFaults.{line_fault}
use Rattle.sk_script.proofs.ScriptRules.{run, run_makes, script_read, script_stands}
use Rattle.sk_script.proofs.Takings.{AreTaken, gone_parts, none_taken, taken_line}

taken_run : (lines : List Text) (script : Script) (n : ℕ) (last : Script) → AreTaken script → run script n lines ≡ Ok last → AreTaken last
taken_run [] script n last taken is = let same : script ≡ last = cc in subst AreTaken same taken
taken_run (line ∷ lines) script n last taken is =
    let parts = gone_parts n (with_line false script n line) (λ after. run after (n + 1) lines) last is in
    taken_run lines parts.0 (n + 1) last (taken_line false script n line parts.0 taken parts.1) parts.2

-- the first piece that is not read, behind the script of those before it
record Found (long : Bool) (script : Script) (m : ℕ) (ps : List Text) (n place : ℕ) : Type 0 where
  before : List Text
  piece : Text
  behind : List Text
  split : ps ≡ before ++ piece ∷ behind
  after : Script
  runs : run script m (map without_return before) ≡ Ok after
  number : n ≡ m + length before
  at : ℕ
  fails : FailsAt (with_line (is_cut long behind) after at (line_of piece behind)) place

gone_err : (m : ℕ) (r : Result Script ParseFault) (f : Script → Result Script ScriptFault) (n place : ℕ) → gone_on m r f ≡ Err (fault.At n place)
    → (FailsAt r place × (m ≡ n)) ⊎ ((after : Script) × (r ≡ Ok after) × (f after ≡ Err (fault.At n place)))
gone_err m (Ok after) f n place is = inr (after, refl, is)
gone_err m (Err (parse.Unexpected q)) f n place is =
    let same : fault.At m q ≡ fault.At n place = cc in
    let here : q ≡ place = cc in
    let line : m ≡ n = cc in
    inl (ap (λ p. Err (parse.Unexpected p)) here, line)
gone_err m (Err parse.NoMemory) f n place is = absurd cc

here : (long : Bool) (script : Script) (m : ℕ) (p : Text) (ps : List Text) (n place : ℕ) → FailsAt (with_line (is_cut long ps) script m (line_of p ps)) place → m ≡ n → Found long script m (p ∷ ps) n place
here long script m p ps n place fails number =
    record { before = []; piece = p; behind = ps; split = refl; after = script; runs = refl; number = omega (arith, number); at = m; fails = fails }

find : (long : Bool) (ps : List Text) (p : Text) (script : Script) (m n place : ℕ) → read_from long script m (p ∷ ps) ≡ Err (fault.At n place) → Found long script m (p ∷ ps) n place
unfolding with_last
find long [] p script m n place is = by (is_nil p && not long) is
  where
    on : (FailsAt (with_line long script m p) place × (m ≡ n)) ⊎ ((after : Script) × (with_line long script m p ≡ Ok after) × (Ok after ≡ Err (fault.At n place))) → Found long script m (p ∷ []) n place
    on (inl f) = here long script m p [] n place f.0 f.1
    on (inr r) = let e = r.2 in absurd cc

    by : (b : Bool) → cond b (Ok script) (gone_on m (with_line long script m p) (λ after. Ok after)) ≡ Err (fault.At n place) → Found long script m (p ∷ []) n place
    by true e = absurd cc
    by false e = on (gone_err m (with_line long script m p) (λ after. Ok after) n place e)
find long (q ∷ ps) p script m n place is =
    on (gone_err m (with_line false script m (without_return p)) (λ after. read_from long after (m + 1) (q ∷ ps)) n place is) (λ after. find long ps q after (m + 1) n place)
  where
    on : (FailsAt (with_line false script m (without_return p)) place × (m ≡ n))
        ⊎ ((after : Script) × (with_line false script m (without_return p) ≡ Ok after) × (read_from long after (m + 1) (q ∷ ps) ≡ Err (fault.At n place)))
        → ((after : Script) → read_from long after (m + 1) (q ∷ ps) ≡ Err (fault.At n place) → Found long after (m + 1) (q ∷ ps) n place)
        → Found long script m (p ∷ q ∷ ps) n place
    on (inl f) ih = here long script m p (q ∷ ps) n place f.0 f.1
    on (inr r) ih =
        let rest = ih r.0 r.2 in
        record {
          before = p ∷ rest.before;
          piece = rest.piece;
          behind = rest.behind;
          split = ap (λ l. p ∷ l) rest.split;
          after = rest.after;
          runs = ap (λ s. gone_on m s (λ after. run after (m + 1) (map without_return rest.before))) r.1 ∙ rest.runs;
          number = omega (arith, rest.number);
          at = rest.at;
          fails = rest.fails;
        }

pub first_fault : (bytes : Text) (n place : ℕ) → script_of bytes ≡ Err (fault.At n place) → IsFirstFaultAt bytes n place
unfolding script_of
first_fault bytes n place is =
    let long = nat_lt 16777216 (length bytes) in
    let some = some_piece (take 16777216 bytes) in
    let f = find long some.1 some.0 nothing 1 n place (ap (read_from long nothing 1) (sym some.2) ∙ is) in
    record {
      before = f.before;
      piece = f.piece;
      behind = f.behind;
      cut = some.2 ∙ f.split;
      number = f.number;
      script = f.after;
      made = run_makes (map without_return f.before) f.after f.runs (taken_run (map without_return f.before) nothing 1 f.after none_taken f.runs);
      fault = line_fault f.after (is_cut long f.behind) f.at (line_of f.piece f.behind) place f.fails;
    }

no_script : (bytes : Text) (n place : ℕ) → script_of bytes ≡ Err (fault.At n place) → (script : Script) → ¬ IsScript bytes script
no_script bytes n place is script stands =
    let bad : Ok script ≡ Err (fault.At n place) = sym (script_read bytes script stands) ∙ is in
    absurd cc

-- of what came back for the bytes
pub answered : (bytes : Text) (result : Result Script ScriptFault) → Gives wants result (script_of bytes) → IsAnswer bytes result
answered bytes (Ok script) is = script_stands bytes script is
answered bytes (Err (fault.At n place)) is = (no_script bytes n place is, first_fault bytes n place is)
answered bytes (Err fault.NoMemory) is = tt
