-- The commit steps of a transaction are taken where they come next.
use Rattle.std.specs.Prelude.{ℕ, [], ◌∷◌, Option, Some, None, Ok, Err, true, false, cond, not, ◌&&◌, ◌==◌, ◌+◌, ◌≡◌, ◌≤◌, ◌<◌, is_some, nat_lt}
use Rattle.std.proofs.Common.{refl, sym, ap, subst, ◌∙◌, arith}
use Rattle.std.proofs.lemmas.Bool.{cond_both, false≢true, and_parts, ltb-true, not-true}
use Rattle.std.specs.Cmp.Derive.{both_true}
use Rattle.sk_model.specs.declared.label.Label.{Label}
use Rattle.sk_model.specs.declared.engine.EngineName.{EngineName}
use Rattle.sk_model.specs.declared.engine.EngineName.TheVariants.{Mem, Store}
use Rattle.sk_model.specs.declared.record.Ending.TheVariants as ending
use Rattle.sk_model.specs.declared.step.StepName.{StepName}
use Rattle.sk_model.specs.declared.step.StepName.TheVariants as names
use Rattle.sk_model.specs.declared.call.EngineCall.TheVariants as call
use Rattle.sk_model.specs.declared.call.EngineReply.TheVariants.{Number}
use Rattle.sk_model.specs.Engine.{opening_of}
use Rattle.sk_model.specs.EngineReplies.{answer_of}
use Rattle.sk_model.specs.EngineConditions.{may, empty_of, is_standing}
use Rattle.sk_weave.specs.declared.answer.DrawFault.TheVariants.{Spent, Early}
use Rattle.sk_weave.specs.Registry.{passes}
use Rattle.sk_linked.specs.declared.event.Event.{Event}
use Rattle.sk_linked.specs.declared.event.Event.TheVariants as event
use Rattle.sk_linked.specs.declared.event.CoreReply.TheVariants as reply
use Rattle.sk_linked.specs.Traces.{drawn_at, In}
use Rattle.sk_linked.specs.State.{of, with_of, other, Actor, Core, table_of, counter}
use Rattle.sk_linked.specs.Plans.{Plan, nothing, only, drops, ended, is_undrawn, todo, comes_next, close_of, draw_of, stamp_of, stepped, close_plan, with_drawn, after_draw, voids, floor_in, draw_plan, check_plan, checks, stamp_plan, may_stamp_in, stamps, may_close, in_order, may_draw, may_check, may_stamp_now, plan_for}
use Rattle.sk_linked.specs.Machine.{may_all, lets}
use Rattle.sk_linked.specs.Invariant.{Invariant}
use Rattle.sk_linked.specs.Lawful.{is_lawful_for, is_not_now}
use Rattle.sk_linked.proofs.Events.{none_is}
use Rattle.sk_linked.proofs.Seeing.{Freshly}
use Rattle.sk_linked.proofs.Ready.{IsReady}
use Rattle.sk_linked.proofs.Flags.{implies, close_mem, close_store, draw_mem, draw_store, check, stamp_mem, stamp_store}
use Rattle.sk_linked.proofs.Steps.{FitFor, IsStepping, todo_fits, can_next}
use Rattle.sk_linked.proofs.Next.{closes_standing, closed_may, floor_upto}
use Rattle.sk_linked.proofs.Taking.{Takes, takes_plan, takes_when, drops_let, lets_with, lets_only}

module _ (k : Core) (inv : Invariant k) (h : Freshly k) (r : Actor) (among : In r k.actors) (ready : IsReady r) (g : IsStepping r) where
  fit : (x : StepName) → comes_next x (todo r) ≡ true → FitFor r (todo r)
  fit x y = todo_fits r ready g.fits (can_next x r y)

  -- ---- Close

  record Closing (name : EngineName) : Type 0 where
    may : (is_undrawn r && not (of name r.shut)) ≡ true
    wrote : of name r.wrote ≡ true
    none : drawn_at name r.drew ≡ None
    can : is_standing (opening_of (table_of k name) r.label) ≡ true

  closing : (name : EngineName) → comes_next (close_of name) (todo r) ≡ true → Closing name
  closing Mem y =
      let t : ((is_undrawn r && not r.shut.mem) ≡ true) × (r.wrote.mem ≡ true) = and_parts (is_undrawn r && not r.shut.mem) r.wrote.mem (and_parts _ _ (close_mem r.wrote.mem r.wrote.store r.shut.mem r.shut.store (is_some r.drew.mem) (is_some r.drew.store) r.committed (todo r) (fit names.CloseMem y) y)).0 in
      let u : (is_undrawn r ≡ true) × (not r.shut.mem ≡ true) = and_parts (is_undrawn r) (not r.shut.mem) t.0 in
      let v : (not r.committed ≡ true) × ((not (is_some r.drew.mem) && not (is_some r.drew.store)) ≡ true) = and_parts (not r.committed) (not (is_some r.drew.mem) && not (is_some r.drew.store)) u.0 in
      let n : r.drew.mem ≡ None = none_is r.drew.mem (and_parts (not (is_some r.drew.mem)) (not (is_some r.drew.store)) v.1).0 in
      record { may = t.0; wrote = t.1; none = n; can = closes_standing k inv r among Mem t.1 (g.still Mem (can_next names.CloseMem r y) (not-true r.committed v.0) (not-true r.shut.mem u.1) n) }
  closing Store y =
      let t : ((is_undrawn r && not r.shut.store) ≡ true) × (r.wrote.store ≡ true) = and_parts (is_undrawn r && not r.shut.store) r.wrote.store (and_parts _ _ (close_store r.wrote.mem r.wrote.store r.shut.mem r.shut.store (is_some r.drew.mem) (is_some r.drew.store) r.committed (todo r) (fit names.CloseStore y) y)).0 in
      let u : (is_undrawn r ≡ true) × (not r.shut.store ≡ true) = and_parts (is_undrawn r) (not r.shut.store) t.0 in
      let v : (not r.committed ≡ true) × ((not (is_some r.drew.mem) && not (is_some r.drew.store)) ≡ true) = and_parts (not r.committed) (not (is_some r.drew.mem) && not (is_some r.drew.store)) u.0 in
      let n : r.drew.store ≡ None = none_is r.drew.store (and_parts (not (is_some r.drew.mem)) (not (is_some r.drew.store)) v.1).1 in
      record { may = t.0; wrote = t.1; none = n; can = closes_standing k inv r among Store t.1 (g.still Store (can_next names.CloseStore r y) (not-true r.committed v.0) (not-true r.shut.store u.1) n) }

  pub take_close : (tx : Label) (name : EngineName) → is_lawful_for k r (event.Close tx name) ≡ true → Takes k (event.Close tx name) (plan_for k r (event.Close tx name))
  take_close tx name y =
      let c : Closing name = closing name y in
      takes_when k (event.Close tx name) (may_close r name) _ (both_true y c.may)
      (cond_both (may (table_of k name) (call.Close r.label)) (answer_of (table_of k name) (call.Close r.label)) (empty_of (call.Close r.label)) (λ a. Takes k (event.Close tx name) (close_plan k r name a))
      (λ t. closed (table_of k name).greatest c.can) (λ t. closed 0 c.can))
    where
      closed : (floor : ℕ) → is_standing (opening_of (table_of k name) r.label) ≡ true → Takes k (event.Close tx name) (close_plan k r name (Number floor))
      closed floor m = takes_plan k (event.Close tx name) (record { reply = reply.Number floor; calls = only name (call.Close r.label ∷ []); regs = k.regs; who = record (stepped r) { shut = with_of name true r.shut } })
          (lets_only k name (call.Close r.label ∷ []) (both_true m refl)) refl

  -- ---- Draw

  record Drawing (name : EngineName) : Type 0 where
    order : in_order r name ≡ true
    may : ((of name r.shut && of name r.wrote) && (not r.committed && not (is_some (drawn_at name r.drew)))) ≡ true
    shut : (s : EngineName) (n : ℕ) → drawn_at s r.drew ≡ Some n → of s r.shut ≡ true

  not_some : {A : Type 0} (o : Option ℕ) → not (is_some o) ≡ true → (n : ℕ) → o ≡ Some n → A
  not_some o f n e = absurd (false≢true (ap (λ (x : Option ℕ). not (is_some x)) (sym e) ∙ f))

  drawing : (name : EngineName) → comes_next (draw_of name) (todo r) ≡ true → Drawing name
  drawing Mem y =
      let t : (not (is_some r.drew.store) ≡ true) × (((r.shut.mem && r.wrote.mem) && (not r.committed && not (is_some r.drew.mem))) ≡ true) = and_parts (not (is_some r.drew.store)) ((r.shut.mem && r.wrote.mem) && (not r.committed && not (is_some r.drew.mem)))
      (and_parts _ _ (draw_mem r.wrote.mem r.wrote.store r.shut.mem r.shut.store (is_some r.drew.mem) (is_some r.drew.store) r.committed (todo r) (fit names.DrawMem y) y)).0 in
      record { order = t.0; may = t.1; shut = shut t.0 (and_parts (not r.committed) (not (is_some r.drew.mem)) (and_parts (r.shut.mem && r.wrote.mem) _ t.1).1).1 }
    where
      shut : not (is_some r.drew.store) ≡ true → not (is_some r.drew.mem) ≡ true → (s : EngineName) (n : ℕ) → drawn_at s r.drew ≡ Some n → of s r.shut ≡ true
      shut a b Mem n e = not_some r.drew.mem b n e
      shut a b Store n e = not_some r.drew.store a n e
  drawing Store y =
      let t : (implies (is_some r.drew.mem) r.shut.mem ≡ true) × (((r.shut.store && r.wrote.store) && (not r.committed && not (is_some r.drew.store))) ≡ true) = and_parts (implies (is_some r.drew.mem) r.shut.mem) ((r.shut.store && r.wrote.store) && (not r.committed && not (is_some r.drew.store)))
      (and_parts _ _ (draw_store r.wrote.mem r.wrote.store r.shut.mem r.shut.store (is_some r.drew.mem) (is_some r.drew.store) r.committed (todo r) (fit names.DrawStore y) y)).0 in
      record { order = refl; may = t.1; shut = shut t.0 (and_parts (not r.committed) (not (is_some r.drew.store)) (and_parts (r.shut.store && r.wrote.store) _ t.1).1).1 }
    where
      shut : implies (is_some r.drew.mem) r.shut.mem ≡ true → not (is_some r.drew.store) ≡ true → (s : EngineName) (n : ℕ) → drawn_at s r.drew ≡ Some n → of s r.shut ≡ true
      shut a b Mem n e = subst (λ (o : Option ℕ). implies (is_some o) r.shut.mem ≡ true) e a
      shut a b Store n e = not_some r.drew.store b n e

  voids_let : (s : EngineName) → ((n : ℕ) → drawn_at s r.drew ≡ Some n → of s r.shut ≡ true) → may_all (table_of k s) (voids k r s (drawn_at s r.drew)) ≡ true
  voids_let s f = go (drawn_at s r.drew) refl
    where
      go : (o : Option ℕ) → drawn_at s r.drew ≡ o → may_all (table_of k s) (voids k r s o) ≡ true
      go None e = drops_let k r s
      go (Some n) e = both_true (closed_may k inv r among s n (f n e) e) refl

  pub take_draw : (tx : Label) (name : EngineName) → is_lawful_for k r (event.Draw tx name) ≡ true → Takes k (event.Draw tx name) (plan_for k r (event.Draw tx name))
  take_draw tx name y =
      let d : Drawing name = drawing name y in
      takes_when k (event.Draw tx name) (may_draw r name) _ (both_true (both_true y d.order) d.may)
      (cond_both (counter name k.regs == 2147483647) (Err Spent) (cond (nat_lt (counter name k.regs) (floor_in k r name)) (Err (Early (floor_in k r name) (counter name k.regs))) (Ok (counter name k.regs + 1))) (λ x. Takes k (event.Draw tx name) (draw_plan k r name x))
      (λ t. takes_plan k (event.Draw tx name) (record { reply = reply.Spent; calls = record { mem = voids k r Mem r.drew.mem; store = voids k r Store r.drew.store }; regs = k.regs; who = ended ending.Spent r })
      (both_true (voids_let Mem (d.shut Mem)) (voids_let Store (d.shut Store))) refl)
      (λ t. cond_both (nat_lt (counter name k.regs) (floor_in k r name)) (Err (Early (floor_in k r name) (counter name k.regs))) (Ok (counter name k.regs + 1)) (λ x. Takes k (event.Draw tx name) (draw_plan k r name x))
      (λ u. let less : counter name k.regs < floor_in k r name = ltb-true (counter name k.regs) (floor_in k r name) u in let upto : floor_in k r name ≤ counter name k.regs = floor_upto k inv h name r.label in absurd (omega (arith, less, upto)))
      (λ u. takes_plan k (event.Draw tx name) (record { reply = reply.Number (counter name k.regs + 1); calls = nothing; regs = after_draw name k.regs (floor_in k r name); who = record (stepped r) { drew = with_drawn name (counter name k.regs + 1) r.drew } }) refl refl)))

  -- ---- Check

  check_takes : (e : Event) → r.shut.mem ≡ true → r.shut.store ≡ true → is_some r.drew.mem ≡ true → is_some r.drew.store ≡ true → (m s : Option ℕ) → r.drew.mem ≡ m → r.drew.store ≡ s → Takes k e (checks k r m s)
  check_takes e a b x y None s q w = absurd (false≢true (ap (λ (z : Option ℕ). is_some z) (sym q) ∙ x))
  check_takes e a b x y (Some ca) None q w = absurd (false≢true (ap (λ (z : Option ℕ). is_some z) (sym w) ∙ y))
  check_takes e a b x y (Some ca) (Some cb) q w =
      let both : (lets k (check_plan k r ca cb).calls ≡ true) × (is_not_now (check_plan k r ca cb).reply ≡ false) = cond_both (passes k.regs ca cb) _ _ (λ (p : Plan). (lets k p.calls ≡ true) × (is_not_now p.reply ≡ false))
      (λ t. (refl, refl))
      (λ f. (both_true (both_true (closed_may k inv r among Mem ca a q) refl) (both_true (closed_may k inv r among Store cb b w) refl), refl)) in
      takes_plan k e (check_plan k r ca cb) both.0 both.1

  pub take_check : (tx : Label) → is_lawful_for k r (event.Check tx) ≡ true → Takes k (event.Check tx) (plan_for k r (event.Check tx))
  take_check tx y =
      let t : (((r.shut.mem && r.shut.store) && not r.committed) ≡ true) × ((is_some r.drew.mem && is_some r.drew.store) ≡ true) = and_parts ((r.shut.mem && r.shut.store) && not r.committed) (is_some r.drew.mem && is_some r.drew.store)
      (and_parts _ _ (check r.wrote.mem r.wrote.store r.shut.mem r.shut.store (is_some r.drew.mem) (is_some r.drew.store) r.committed (todo r) (fit names.Check y) y)).0 in
      let u : (r.shut.mem ≡ true) × (r.shut.store ≡ true) = and_parts r.shut.mem r.shut.store (and_parts (r.shut.mem && r.shut.store) (not r.committed) t.0).0 in
      let v : (is_some r.drew.mem ≡ true) × (is_some r.drew.store ≡ true) = and_parts (is_some r.drew.mem) (is_some r.drew.store) t.1 in
      takes_when k (event.Check tx) (may_check r) _ (both_true y t.0) (check_takes (event.Check tx) u.0 u.1 v.0 v.1 r.drew.mem r.drew.store refl refl)

  -- ---- Stamp

  record Stamping (name : EngineName) : Type 0 where
    shut : of name r.shut ≡ true
    drew : is_some (drawn_at name r.drew) ≡ true
    may : may_stamp_in r name ≡ true

  stamping : (name : EngineName) → comes_next (stamp_of name) (todo r) ≡ true → Stamping name
  stamping Mem y =
      let t : ((r.shut.mem && is_some r.drew.mem) ≡ true) × (may_stamp_in r Mem ≡ true) = and_parts (r.shut.mem && is_some r.drew.mem) (may_stamp_in r Mem) (and_parts _ _ (stamp_mem r.wrote.mem r.wrote.store r.shut.mem r.shut.store (is_some r.drew.mem) (is_some r.drew.store) r.committed (todo r) (fit names.StampMem y) y)).0 in
      let u : (r.shut.mem ≡ true) × (is_some r.drew.mem ≡ true) = and_parts r.shut.mem (is_some r.drew.mem) t.0 in
      record { shut = u.0; drew = u.1; may = t.1 }
  stamping Store y =
      let t : ((r.shut.store && is_some r.drew.store) ≡ true) × (may_stamp_in r Store ≡ true) = and_parts (r.shut.store && is_some r.drew.store) (may_stamp_in r Store) (and_parts _ _ (stamp_store r.wrote.mem r.wrote.store r.shut.mem r.shut.store (is_some r.drew.mem) (is_some r.drew.store) r.committed (todo r) (fit names.StampStore y) y)).0 in
      let u : (r.shut.store ≡ true) × (is_some r.drew.store ≡ true) = and_parts r.shut.store (is_some r.drew.store) t.0 in
      record { shut = u.0; drew = u.1; may = t.1 }

  stamp_takes : (e : Event) (name : EngineName) → Stamping name → (o : Option ℕ) → drawn_at name r.drew ≡ o → Takes k e (stamps k r name o)
  stamp_takes e name s None q = absurd (false≢true (ap (λ (z : Option ℕ). is_some z) (sym q) ∙ s.drew))
  stamp_takes e name s (Some n) q = takes_when k e (may_stamp_in r name) (Some (stamp_plan k r name n)) s.may (takes_plan k e (stamp_plan k r name n)
      (lets_with k name (call.Stamp r.label n ∷ []) (cond (is_some (drawn_at (other name) r.drew)) [] (drops k r (other name))) (both_true (closed_may k inv r among name n s.shut q) refl)
      (cond_both (is_some (drawn_at (other name) r.drew)) [] (drops k r (other name)) (λ cs. may_all (table_of k (other name)) cs ≡ true) (λ t. refl) (λ f. drops_let k r (other name)))) refl)

  pub take_stamp : (tx : Label) (name : EngineName) → is_lawful_for k r (event.Stamp tx name) ≡ true → Takes k (event.Stamp tx name) (plan_for k r (event.Stamp tx name))
  take_stamp tx name y =
      let s : Stamping name = stamping name y in
      takes_when k (event.Stamp tx name) (may_stamp_now r name) _ (both_true y s.shut) (stamp_takes (event.Stamp tx name) name s (drawn_at name r.drew) refl)
