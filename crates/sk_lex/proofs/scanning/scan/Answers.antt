use Rattle.std.proofs.Common.{◌≡◌, ◌<◌, ◌+◌, ◌-◌, ◌∙◌, Some, None, Err, length, ap, subst, sym, arith}
use Rattle.std.proofs.lemmas.Grind.{common_steps}
use Rattle.std.proofs.lemmas.List.{take_rest}
use Rattle.std.proofs.lemmas.List.Elements.{All-push}
use Rattle.sk_lex.specs.declared.front.Misfit.TheVariants as misfit
use Rattle.sk_lex.specs.declared.scanning.ScanFault.TheVariants as scan_fault
use Rattle.sk_rows.specs.Memory.{Gives}
use Rattle.sk_lex.specs.Front.{wants_memory, front}
use Rattle.sk_lex.specs.Scanning.{begun, scan, token}
use Rattle.sk_lex.proofs.Begun.{all_begun, cut_off}
use Rattle.sk_lex.proofs.Scans.{scan_bad, scan_end, scan_goes, scan_open, scan_space}
use Rattle.sk_lex.proofs.Spans.{all_before, kept_space, kept_token}
use Rattle.sk_lex.proofs.scanning.scan.Goals as goal

pub loop-z-preserved-then-b-eq32 : goal.loop-z-preserved-then-b-eq32
loop-z-preserved-then-b-eq32 c =
    let z = c.loop-z.z.now in
    let goes = scan_space c.loop-z.found c.loop-z.at z (omega arith) c.if-b-eq32.true in
    let kept = kept_space c.args.line.now c.loop-z.found c.loop-z.at z c.loop-z.invariant.2 (omega arith) c.if-b-eq32.true in
    (rw (take_rest z 1) (goes ∙ c.loop-z.invariant.0), grind (arith, common_steps), rw (take_rest z 1) kept, c.loop-z.invariant.3)

pub loop-z-preserved : goal.loop-z-preserved
loop-z-preserved c =
    let z = c.loop-z.z.now in
    let goes = scan_goes c.loop-z.found c.loop-z.at z (c.in-Ok.word, c.in-Ok.len) (omega arith) c.if-b-eq32.false c.in-Ok.ensures.value c.in-Ok.ensures.within.0 in
    let kept = kept_token c.args.line.now c.loop-z.found c.loop-z.at z c.in-Ok.word c.in-Ok.len c.loop-z.invariant.2 c.in-Ok.ensures.value c.in-Ok.ensures.within.0 c.in-Ok.ensures.within.1 in
    let begun = All-push (λ t. t.from < c.args.most) c.loop-z.found (token c.loop-z.at (c.in-Ok.word, c.in-Ok.len)) c.loop-z.invariant.3 c.if-at-most.false in (
      rw (take_rest z c.in-Ok.len, c.in_ok-push-in-Ok.ensures.ok) (goes ∙ c.loop-z.invariant.0),
      grind (arith, common_steps),
      rw (take_rest z c.in-Ok.len, c.in_ok-push-in-Ok.ensures.ok) kept,
      rw c.in_ok-push-in-Ok.ensures.ok begun,
    )

pub returns-in-Err-Bad-clause-before : goal.returns-in-Err-Bad-clause-before
returns-in-Err-Bad-clause-before c =
    let kept = c.loop-z.invariant.2 in all_before c.args.line.now 0 c.loop-z.found c.loop-z.at kept.cut kept.last

pub returns-in-Err-Open-clause-before : goal.returns-in-Err-Open-clause-before
returns-in-Err-Open-clause-before c =
    let kept = c.loop-z.invariant.2 in all_before c.args.line.now 0 c.loop-z.found (c.loop-z.at + 1 - 1) kept.cut (omega (arith, kept.last))

pub returns-clause-before : goal.returns-clause-before
returns-clause-before c =
    let kept = c.loop-z.invariant.2 in all_before c.args.line.now 0 c.loop-z.found (length c.args.line.now) kept.cut (omega (arith, kept.last, kept.long))

pub returns-then-at-most-clause-value : goal.returns-then-at-most-clause-value
unfolding scan
returns-then-at-most-clause-value c =
    cut_off c.args.most c.loop-z.found 0 c.loop-z.at c.loop-z.z.now c.if-at-most.true c.loop-z.invariant.3 ∙ ap (begun c.args.most) c.loop-z.invariant.0

pub returns-in-Err-Bad-clause-value : goal.returns-in-Err-Bad-clause-value
unfolding scan
returns-in-Err-Bad-clause-value c =
    let n = c.in-Err-Bad.n in
    let z = c.loop-z.z.now in
    let found = c.loop-z.found in
    let at = c.loop-z.at in
    let is : front z ≡ Err (misfit.Bad n) = subst (λ f. Gives wants_memory (Err f) (front z)) c.in-Err-Bad.field-0-is c.in-Err-Bad.ensures.value in
    let scanned = scan_bad found at n z (omega arith) c.if-b-eq32.false is in
    rw c.in-Err-Bad.field-0-is (all_begun c.args.most found (Some (scan_fault.BadByte at (at + n + 1))) c.loop-z.invariant.3 c.if-at-most.false ∙ ap (begun c.args.most) (sym scanned ∙ c.loop-z.invariant.0))

pub returns-in-Err-Open-clause-value : goal.returns-in-Err-Open-clause-value
unfolding scan
returns-in-Err-Open-clause-value c =
    let z = c.loop-z.z.now in
    let found = c.loop-z.found in
    let at = c.loop-z.at in
    let is : front z ≡ Err misfit.Open = subst (λ f. Gives wants_memory (Err f) (front z)) c.in-Err-Open.field-0-is c.in-Err-Open.ensures.value in
    let scanned = scan_open found at z (omega arith) c.if-b-eq32.false is in
    all_begun c.args.most found (Some (scan_fault.OpenText (at + 1))) c.loop-z.invariant.3 (omega (arith, c.if-at-most.false)) ∙ ap (begun c.args.most) (sym scanned ∙ c.loop-z.invariant.0)

pub returns-clause-value : goal.returns-clause-value
unfolding scan
returns-clause-value c =
    let scanned = scan_end c.loop-z.found c.loop-z.at c.loop-z.z.now (omega (arith, c.in_default.len_below)) in
    all_begun c.args.most c.loop-z.found None c.loop-z.invariant.3 tt ∙ ap (begun c.args.most) (sym scanned ∙ c.loop-z.invariant.0)
