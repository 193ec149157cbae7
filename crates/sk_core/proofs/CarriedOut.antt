-- A plan is carried out where the condition of each of its calls holds.
use Rattle.std.specs.Prelude.{◌≡◌, ◌&&◌, List, Option, Some, None, Bool, true, false, cond}
use Rattle.std.proofs.Common.{refl, sym, ap, ◌∙◌}
use Rattle.sk_model.specs.declared.engine.EngineName.TheVariants.{Mem, Store}
use Rattle.sk_model.specs.declared.call.Entry.{Entry}
use Rattle.sk_model.proofs.Listed.{some_is, none_some}
use Rattle.sk_linked.specs.declared.event.Event.{Event}
use Rattle.sk_linked.specs.State.{Core, table_of}
use Rattle.sk_linked.specs.Plans.{Plan}
use Rattle.sk_linked.specs.Machine.{Next, may_all, entered, not_now, taken}
use Rattle.sk_core.specs.Doing.{made_of, applied_with}

-- of entries that were or were not made
there : (b : Bool) (made all : List Entry) → Some made ≡ cond b (Some all) None → (b ≡ true) × (made ≡ all)
there true made all is = (refl, some_is is)
there false made all is = none_some (sym is)

absent : (b : Bool) (all : List Entry) → None ≡ cond b (Some all) None → b ≡ false
absent true all is = none_some is
absent false all is = refl

refused_left : (b c : Bool) (x y : Next) → b ≡ false → y ≡ cond (b && c) x y
refused_left b c x y is = sym (ap (λ d. cond (d && c) x y) is)

refused_right : (b c : Bool) (x y : Next) → c ≡ false → y ≡ cond (b && c) x y
refused_right true c x y is = sym (ap (λ d. cond d x y) is)
refused_right false c x y is = refl

allowed : (b c : Bool) (x y : Next) → b ≡ true → c ≡ true → x ≡ cond (b && c) x y
allowed b c x y left right = sym (ap (λ d. cond (d && c) x y) left ∙ ap (λ d. cond d x y) right)

module _ (k : Core) (e : Event) (p : Plan) where
  pub mem_refused : None ≡ made_of (table_of k Mem) p.calls.mem → not_now k ≡ taken k e (Some p)
  mem_refused is = refused_left (may_all (table_of k Mem) p.calls.mem) (may_all (table_of k Store) p.calls.store) _ (not_now k) (absent _ (entered (table_of k Mem) p.calls.mem) is)

  pub store_refused : None ≡ made_of (table_of k Store) p.calls.store → not_now k ≡ taken k e (Some p)
  store_refused is = refused_right (may_all (table_of k Mem) p.calls.mem) (may_all (table_of k Store) p.calls.store) _ (not_now k) (absent _ (entered (table_of k Store) p.calls.store) is)

  pub carried : (mem store : List Entry) → Some mem ≡ made_of (table_of k Mem) p.calls.mem → Some store ≡ made_of (table_of k Store) p.calls.store
      → record { core = applied_with k e p mem store; reply = p.reply } ≡ taken k e (Some p)
  carried mem store left right =
      let m : (may_all (table_of k Mem) p.calls.mem ≡ true) × (mem ≡ entered (table_of k Mem) p.calls.mem) = there _ mem (entered (table_of k Mem) p.calls.mem) left in
      let s : (may_all (table_of k Store) p.calls.store ≡ true) × (store ≡ entered (table_of k Store) p.calls.store) = there _ store (entered (table_of k Store) p.calls.store) right in
      ap (λ (js : List Entry). record { core = applied_with k e p js store; reply = p.reply }) m.1
      ∙ ap (λ (js : List Entry). record { core = applied_with k e p (entered (table_of k Mem) p.calls.mem) js; reply = p.reply }) s.1
      ∙ allowed (may_all (table_of k Mem) p.calls.mem) (may_all (table_of k Store) p.calls.store) _ (not_now k) m.0 s.0
