-- Calls behind others: what they open and write, and one more statement.
use Rattle.std.specs.Prelude.{◌≡◌, ℕ, List, [], ◌∷◌, ◌++◌, Option, Some, None, false, ◌&&◌, ◌||◌}
use Rattle.std.proofs.Common.{refl, sym, ap, subst, ◌∙◌, append-nil, append_assoc}
use Rattle.std.specs.List.{AllByRecursion}
use Rattle.std.proofs.lemmas.List.Folds.{list_any-append}
use Rattle.sk_rows.specs.declared.table.Table.{Table}
use Rattle.sk_model.specs.declared.label.Label.{Label}
use Rattle.sk_model.specs.declared.engine.EngineName.{EngineName}
use Rattle.sk_model.specs.declared.record.TxKind.{TxKind}
use Rattle.sk_model.specs.declared.record.Said.{Said}
use Rattle.sk_model.specs.Records.{some_writes}
use Rattle.sk_model.specs.Talks.{OwnCall, Talk, or_else, opened_in, opened, same_engine, writes_in_call, wrote}
use Rattle.sk_model.specs.Asking.{Asked}
use Rattle.sk_model.specs.RecordTalks.{Converses, is_last}

or_else_assoc : (x y z : Option ℕ) → or_else (or_else x y) z ≡ or_else x (or_else y z)
or_else_assoc None y z = refl
or_else_assoc (Some n) y z = refl

pub or_else_none : (x : Option ℕ) → or_else x None ≡ x
or_else_none None = refl
or_else_none (Some n) = refl

pub opened_append : (e : EngineName) (xs ys : Talk) → opened e (xs ++ ys) ≡ or_else (opened e xs) (opened e ys)
opened_append e [] ys = refl
opened_append e (c ∷ xs) ys = ap (or_else (opened_in e c)) (opened_append e xs ys) ∙ sym (or_else_assoc (opened_in e c) (opened e xs) (opened e ys))

pub wrote_append : (e : EngineName) (xs ys : Talk) → wrote e (xs ++ ys) ≡ (wrote e xs || wrote e ys)
wrote_append e xs ys = list_any-append (λ (c : OwnCall). same_engine e c.engine && some_writes (writes_in_call c)) xs ys

-- one more statement with its calls
pub spoken_push : (catalog : List Table) (tx : Label) (kind : TxKind) (pre : Talk) (said : List Said) (talk : Talk) (s : Said) (calls : Talk)
    → Converses catalog tx kind pre said talk → AllByRecursion (λ (x : Said). is_last x ≡ false) said → Asked catalog tx kind (pre ++ talk) s.statement calls s.reply
    → Converses catalog tx kind pre (said ++ s ∷ []) (talk ++ calls)
spoken_push catalog tx kind pre [] talk s calls spoken going asked =
    (calls, [], ap (λ t. t ++ calls) spoken ∙ sym (append-nil calls), subst (λ t. Asked catalog tx kind t s.statement calls s.reply) (ap (λ t. pre ++ t) spoken ∙ append-nil pre) asked, (λ l. refl), refl)
spoken_push catalog tx kind pre (x ∷ said) talk s calls spoken going asked =
    let first : Talk = spoken.0 in
    let more : Talk = spoken.1 in
    let is : talk ≡ first ++ more = spoken.2 in (
      first,
      more ++ calls,
      ap (λ t. t ++ calls) is ∙ append_assoc first more calls,
      spoken.3,
      (λ l. absurd (cc (l, going.0))),
      spoken_push catalog tx kind (pre ++ first) said more s calls spoken.5 going.1
          (subst (λ t. Asked catalog tx kind t s.statement calls s.reply) (ap (λ t. pre ++ t) is ∙ sym (append_assoc pre first more)) asked),
    )

pub going_push : (said : List Said) (s : Said) → AllByRecursion (λ (x : Said). is_last x ≡ false) said → is_last s ≡ false → AllByRecursion (λ (x : Said). is_last x ≡ false) (said ++ s ∷ [])
going_push [] s going e = (e, tt)
going_push (x ∷ said) s going e = (going.0, going_push said s going.1 e)
