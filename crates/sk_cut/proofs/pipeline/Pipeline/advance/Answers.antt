use Rattle.std.proofs.Common.{◌≡◌, ◌<◌, ℕ, List, false, IsTrue, sym, ap, ◌∙◌, subst}
use Rattle.sk_log.specs.declared.ends.Ends.{Ends}
use Rattle.sk_cut.specs.Batches.{AreBytes, as_cut, same_cut, stored_text, body_text}
use Rattle.sk_cut.specs.Flush.{AllAt, IsLawful}
use Rattle.sk_cut.specs.Receipts.{View}
use Rattle.sk_cut.proofs.Advancing.{law_of, steps_of, written_of}
use Rattle.sk_cut.proofs.Phases.{all_next}
use Rattle.sk_cut.proofs.pipeline.Pipeline.advance.Goals as goal

pub returns-in-Ok-clause-any_moment : goal.returns-in-Ok-clause-any_moment
returns-in-Ok-clause-any_moment g c =
    let disk = g.D.Device.disk in
    let batch = c.args.batch.now in
    let not_broken : c.self.inside.broken ≡ false = ap (λ (v : View _). v.broken) c.self.view_is ∙ c.requires.open in
    let is_store : c.deref-3.result.now ≡ stored_text batch = c.deref-3.ensures.value ∙ c.in_ok-texts.ensures.store in
    let stored : AreBytes (stored_text batch) = subst (λ (l : List ℕ). AreBytes l) (c.deref.ensures.value ∙ c.in_ok-texts.ensures.store) c.are_bytes.ensures in
    let bodied : AreBytes (body_text c.self.inside.ends batch) = subst (λ (l : List ℕ). AreBytes l) (c.deref-2.ensures.value ∙ c.in_ok-texts.ensures.body) c.are_bytes-2.ensures in
    let is_body : c.deref-4.result.now ≡ body_text c.self.inside.ends batch = c.deref-4.ensures.value ∙ c.in_ok-texts.ensures.body in
    let differs : same_cut batch.cut c.self.inside.cut ≡ false = sym c.same_cut.ensures ∙ c.if-same_cut.false in
    let lawful : IsTrue disk.tells → same_cut batch.cut c.self.inside.cut ≡ false → IsLawful disk c.self.inside.disk c.self.inside.cut batch =
    subst (λ (v : View _). IsTrue disk.tells → same_cut batch.cut v.cut ≡ false → IsLawful disk v.disk v.cut batch) (sym c.self.view_is) c.requires.lawful in
    rw (← c.self.view_is) (λ tells. steps_of disk c.self.inside.ends batch c.deref-3.result.now c.deref-4.result.now is_store is_body _ _ (c.in-Ok.ensures.any_moment (as_cut c.self.inside.cut) (as_cut batch.cut) batch.mem batch.store tells (c.self.invariant.1 not_broken tells) (law_of disk c.self.inside.ends batch c.deref-3.result.now c.deref-4.result.now is_store is_body c.self.inside.cut c.self.inside.disk c.in_ok-texts.ensures.room stored bodied (lawful tells differs))))

pub returns-clause-any_moment : goal.returns-clause-any_moment
returns-clause-any_moment g c =
    let disk = g.D.Device.disk in
    let batch = c.args.batch.now in
    let not_broken : c.self.inside.broken ≡ false = ap (λ (v : View _). v.broken) c.self.view_is ∙ c.requires.open in
    let is_store : c.deref-3.result.now ≡ stored_text batch = c.deref-3.ensures.value ∙ c.in_ok-texts.ensures.store in
    let stored : AreBytes (stored_text batch) = subst (λ (l : List ℕ). AreBytes l) (c.deref.ensures.value ∙ c.in_ok-texts.ensures.store) c.are_bytes.ensures in
    let bodied : AreBytes (body_text c.self.inside.ends batch) = subst (λ (l : List ℕ). AreBytes l) (c.deref-2.ensures.value ∙ c.in_ok-texts.ensures.body) c.are_bytes-2.ensures in
    let is_body : c.deref-4.result.now ≡ body_text c.self.inside.ends batch = c.deref-4.ensures.value ∙ c.in_ok-texts.ensures.body in
    let differs : same_cut batch.cut c.self.inside.cut ≡ false = sym c.same_cut.ensures ∙ c.if-same_cut.false in
    let lawful : IsTrue disk.tells → same_cut batch.cut c.self.inside.cut ≡ false → IsLawful disk c.self.inside.disk c.self.inside.cut batch =
    subst (λ (v : View _). IsTrue disk.tells → same_cut batch.cut v.cut ≡ false → IsLawful disk v.disk v.cut batch) (sym c.self.view_is) c.requires.lawful in
    rw (← c.self.view_is) (λ tells. steps_of disk c.self.inside.ends batch c.deref-3.result.now c.deref-4.result.now is_store is_body _ _ (c.in-Err.ensures.any_moment (as_cut c.self.inside.cut) (as_cut batch.cut) batch.mem batch.store tells (c.self.invariant.1 not_broken tells) (law_of disk c.self.inside.ends batch c.deref-3.result.now c.deref-4.result.now is_store is_body c.self.inside.cut c.self.inside.disk c.in_ok-texts.ensures.room stored bodied (lawful tells differs))))

pub returns-in-Ok-clause-written : goal.returns-in-Ok-clause-written
returns-in-Ok-clause-written g c =
    let disk = g.D.Device.disk in
    let batch = c.args.batch.now in
    let not_broken : c.self.inside.broken ≡ false = ap (λ (v : View _). v.broken) c.self.view_is ∙ c.requires.open in
    let is_store : c.deref-3.result.now ≡ stored_text batch = c.deref-3.ensures.value ∙ c.in_ok-texts.ensures.store in
    let stored : AreBytes (stored_text batch) = subst (λ (l : List ℕ). AreBytes l) (c.deref.ensures.value ∙ c.in_ok-texts.ensures.store) c.are_bytes.ensures in
    let bodied : AreBytes (body_text c.self.inside.ends batch) = subst (λ (l : List ℕ). AreBytes l) (c.deref-2.ensures.value ∙ c.in_ok-texts.ensures.body) c.are_bytes-2.ensures in
    let is_body : c.deref-4.result.now ≡ body_text c.self.inside.ends batch = c.deref-4.ensures.value ∙ c.in_ok-texts.ensures.body in
    let differs : same_cut batch.cut c.self.inside.cut ≡ false = sym c.same_cut.ensures ∙ c.if-same_cut.false in
    let lawful : IsTrue disk.tells → same_cut batch.cut c.self.inside.cut ≡ false → IsLawful disk c.self.inside.disk c.self.inside.cut batch =
    subst (λ (v : View _). IsTrue disk.tells → same_cut batch.cut v.cut ≡ false → IsLawful disk v.disk v.cut batch) (sym c.self.view_is) c.requires.lawful in
    rw (← c.self.view_is) (λ tells unlike. written_of disk c.self.inside.ends batch c.deref-3.result.now c.deref-4.result.now is_store is_body _ _ (c.in-Ok.ensures.written (as_cut c.self.inside.cut) (as_cut batch.cut) batch.mem batch.store tells (c.self.invariant.1 not_broken tells) (law_of disk c.self.inside.ends batch c.deref-3.result.now c.deref-4.result.now is_store is_body c.self.inside.cut c.self.inside.disk c.in_ok-texts.ensures.room stored bodied (lawful tells differs))))

pub returns-in-Ok-clause-durable : goal.returns-in-Ok-clause-durable
returns-in-Ok-clause-durable g c =
    let disk = g.D.Device.disk in
    let batch = c.args.batch.now in
    let not_broken : c.self.inside.broken ≡ false = ap (λ (v : View _). v.broken) c.self.view_is ∙ c.requires.open in
    let is_store : c.deref-3.result.now ≡ stored_text batch = c.deref-3.ensures.value ∙ c.in_ok-texts.ensures.store in
    let stored : AreBytes (stored_text batch) = subst (λ (l : List ℕ). AreBytes l) (c.deref.ensures.value ∙ c.in_ok-texts.ensures.store) c.are_bytes.ensures in
    let bodied : AreBytes (body_text c.self.inside.ends batch) = subst (λ (l : List ℕ). AreBytes l) (c.deref-2.ensures.value ∙ c.in_ok-texts.ensures.body) c.are_bytes-2.ensures in
    let is_body : c.deref-4.result.now ≡ body_text c.self.inside.ends batch = c.deref-4.ensures.value ∙ c.in_ok-texts.ensures.body in
    let differs : same_cut batch.cut c.self.inside.cut ≡ false = sym c.same_cut.ensures ∙ c.if-same_cut.false in
    let lawful : IsTrue disk.tells → same_cut batch.cut c.self.inside.cut ≡ false → IsLawful disk c.self.inside.disk c.self.inside.cut batch =
    subst (λ (v : View _). IsTrue disk.tells → same_cut batch.cut v.cut ≡ false → IsLawful disk v.disk v.cut batch) (sym c.self.view_is) c.requires.lawful in
    λ tells.
    let follow = law_of disk c.self.inside.ends batch c.deref-3.result.now c.deref-4.result.now is_store is_body c.self.inside.cut c.self.inside.disk c.in_ok-texts.ensures.room stored bodied (lawful tells differs) in
    let all = c.self.invariant.1 not_broken tells in
    let next = all_next disk (as_cut c.self.inside.cut) c.self.inside.ends c.self.invariant.0 _ all _ _ _ _ _ follow _ (c.in-Ok.ensures.written (as_cut c.self.inside.cut) (as_cut batch.cut) batch.mem batch.store tells (c.self.invariant.1 not_broken tells) (law_of disk c.self.inside.ends batch c.deref-3.result.now c.deref-4.result.now is_store is_body c.self.inside.cut c.self.inside.disk c.in_ok-texts.ensures.room stored bodied (lawful tells differs))) in
    subst (λ (e : Ends). AllAt disk (as_cut batch.cut) e c.write_group.new.disk) (sym c.in-Ok.ensures.ends) next

pub invariant_of-self : goal.invariant_of-self
invariant_of-self g c = (subst (λ (e : Ends). e.set < 2) (sym c.in-Ok.ensures.ends) c.self.invariant.0, λ whole. returns-in-Ok-clause-durable g c, c.self.invariant.2, c.self.invariant.3, c.self.invariant.4)
