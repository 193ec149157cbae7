-- Each step keeps the rule.
use Rattle.std.proofs.Common.{◌≡◌, ◌≢◌, ℕ, Bool, true, false, cond, eqb, eqb-true, List, [], ◌∷◌, ◌++◌, set, get_or, refl, sym, ap, ◌∙◌, subst, ⊎_elim}
use mathlib.Core.Option.{some, none}
use prog.Atomic.{either}
use lib.ListN.{get_elem?}
use lib.Seq.{set-get_or}
use Rattle.atomic_table.specs.Table.{State, Me, step, Act, keeps, stepped, Allows, Valid, carried_after}
use Rattle.atomic_table.proofs.Lists.{at_set}
use Rattle.sk_weave.specs.declared.event.Event.{Event}
use Rattle.sk_clock.specs.declared.view.WordStep.{WordStep}
use Rattle.sk_clock.specs.declared.view.WordStep.TheVariants.{Load, Change}
use Rattle.sk_clock.specs.declared.view.Entry.{Entry}
use Rattle.sk_clock.specs.declared.view.Start.{Start}
use Rattle.sk_clock.specs.declared.view.Own.{Own}
use Rattle.sk_clock.specs.declared.view.View.{View}
use Rattle.sk_clock.specs.Paths.{Path, Born, Each, Begins}
use Rattle.sk_clock.specs.Steps.{entry, steps_by}
use Rattle.sk_clock.specs.History.{Cells, first_cells, words_of, after_entry, IsRight, cells_after, IsHistory, change_of}
use Rattle.sk_clock.specs.Kept.{OwnFits, LiveFits, Fits, Kept, IsPlain, stepped_view, Extends, Swaps, cells, Loads, Exchanges, CanExchange}
use Rattle.sk_clock.proofs.Histories.{begins-refl, begins-append, steps_by-append, steps_by-own, steps_by-other, cells_after-snoc, history-snoc, each-snoc, each-map}

module _ (start : Start) (splits holder : Path → ℕ) where
  -- a pass that another pass's step leaves as it was
  own_stays : (log : List Entry) (seat : ℕ) (o : Own) (q : Path) (e : WordStep) → seat ≢ holder q → OwnFits log splits holder seat o → OwnFits (log ++ entry q e ∷ []) splits holder seat o
  own_stays log seat o q e apart f = record {
    held = f.held;
    splits_is = f.splits_is;
    born = f.born;
    steps_are = steps_by-other o.path q log e (λ same. apart (sym f.held ∙ ap holder same)) ∙ f.steps_are;
  }

  stays : (log : List Entry) (seat : ℕ) (v : View) (q : Path) (e : WordStep) → seat ≢ holder q → Fits start log splits holder seat v → Fits start (log ++ entry q e ∷ []) splits holder seat v
  stays log seat v q e apart f = record {
    seen = begins-append v.seen log (entry q e ∷ []) f.seen;
    told = begins-append v.told log (entry q e ∷ []) f.told;
    live = λ l. let g = f.live l in record { started = g.started; own = own_stays log seat v.own q e apart g.own; all_seen = g.all_seen };
    taken = each-map (OwnFits log splits holder seat) (OwnFits (log ++ entry q e ∷ []) splits holder seat) v.taken (λ o. own_stays log seat o q e apart) f.taken;
  }

  steps : (log : List Entry) (seat : ℕ) (v : View) (e : WordStep) → IsPlain v → Fits start log splits holder seat v → Fits start (log ++ entry v.own.path e ∷ []) splits holder seat (stepped_view v log e)
  steps log seat v e plain f = let g = f.live plain.0 in let own = steps_by-own v.own.path log e ∙ ap (λ l. l ++ e ∷ []) g.own.steps_are in record {
    seen = begins-refl (log ++ entry v.own.path e ∷ []);
    told = begins-append v.told log (entry v.own.path e ∷ []) f.told;
    live = λ l. record {
      started = g.started;
      own = record { held = g.own.held; splits_is = g.own.splits_is; born = g.own.born; steps_are = own };
      all_seen = own;
    };
    taken = subst (Each (OwnFits (log ++ entry v.own.path e ∷ []) splits holder seat)) (sym plain.1) tt;
  }

nil_cancel : {A : Type 0} (xs ys : List A) → xs ++ ys ≡ xs → ys ≡ []
nil_cancel {A} [] ys e = e
nil_cancel {A} (x ∷ xs) ys e = nil_cancel xs ys (cc)

module _ {S : Type 0} (start : Start) (s : State S View) (k : Kept start s) (id : ℕ) (v : View) (at : get_elem? s.views id ≡ some v) (plain : IsPlain v) (e : WordStep) (next : IsRight (cells_after start (first_cells start) k.log) v.own.path e) where
  abbrev f : Fits start k.log k.splits k.holder id v
  f = k.each id v at

  abbrev g : LiveFits start k.log k.splits k.holder id v
  g = f.live plain.0

  abbrev r : Cells
  r = after_entry start (cells_after start (first_cells start) k.log) (entry v.own.path e)

  abbrev new : View
  new = stepped_view v k.log e

  legal : IsHistory start (first_cells start) (k.log ++ entry v.own.path e ∷ [])
  legal = history-snoc start (first_cells start) k.log (entry v.own.path e) k.legal next

  now : cells_after start (first_cells start) (k.log ++ entry v.own.path e ∷ []) ≡ r
  now = cells_after-snoc start (first_cells start) k.log (entry v.own.path e)

  pub step_keeps : (ws : List ℕ) → ws ≡ words_of r → Kept start record { words = ws; homes = s.homes; views = set s.views id new }
  step_keeps ws is = record {
    log = k.log ++ entry v.own.path e ∷ [];
    splits = k.splits;
    holder = k.holder;
    words_are = is ∙ sym (ap words_of now);
    legal = legal;
    by_born = each-snoc (λ (x : Entry). Born k.splits x.by) k.log (entry v.own.path e) k.by_born g.own.born;
    unborn = k.unborn;
    each = λ seat u is. ⊎_elim
        (λ (t : (seat ≡ id) × (new ≡ u)). subst (λ (x : ℕ × View). Fits start (k.log ++ entry v.own.path e ∷ []) k.splits k.holder x.0 x.1) (λ i. (sym t.0 i, t.1 i)) (steps start k.splits k.holder k.log id v e plain f))
        (λ (t : (seat ≢ id) × (get_elem? s.views seat ≡ some u)). stays start k.splits k.holder k.log seat u v.own.path e (λ same. t.0 (same ∙ g.own.held)) (k.each seat u t.1))
        (at_set s.views id seat new u is);
  }

  no_others : steps_by v.own.path f.seen.0 ≡ []
  no_others = nil_cancel (steps_by v.own.path v.seen) (steps_by v.own.path f.seen.0)
      (sym (steps_by-append v.own.path v.seen f.seen.0) ∙ (ap (steps_by v.own.path) f.seen.1 ∙ (g.own.steps_are ∙ sym g.all_seen)))

  pub step_extends : Extends v e new
  step_extends = record {
    between = f.seen.0;
    seen = ap (λ l. l ++ entry v.own.path e ∷ []) (sym f.seen.1);
    others = no_others;
    told = begins-append v.told k.log (entry v.own.path e ∷ []) f.told;
    own = refl;
    same = (refl, refl, refl);
    legal = subst (λ (x : Start). IsHistory x (first_cells x) new.seen) (sym g.started) legal;
    all_seen = steps_by-own v.own.path k.log e ∙ ap (λ l. l ++ e ∷ []) g.own.steps_are;
  }

module _ {S : Type 0} where
  -- any load
  load_goes : (start : Start) (s : State S View) (k : Kept start s) (id : ℕ) (me : Me S View) (w : ℕ) → get_elem? s.views id ≡ some me.0 → IsPlain me.0
      → (u : View) × Kept start (stepped s w (get_or s.words w 0) id me.1 u keeps) × Extends me.0 (Load w (get_or s.words w 0)) u
  load_goes start s k id me w at plain =
      let next : get_or s.words w 0 ≡ get_or (words_of (cells_after start (first_cells start) k.log)) w 0 = ap (λ (l : List ℕ). get_or l w 0) k.words_are in (
        stepped_view me.0 k.log (Load w (get_or s.words w 0)),
        step_keeps start s k id me.0 at plain (Load w (get_or s.words w 0)) next (set s.words w (get_or s.words w 0)) (set-get_or s.words w 0 ∙ k.words_are),
        step_extends start s k id me.0 at plain (Load w (get_or s.words w 0)) next,
      )

  pub loads : (start : Start) (slots id : ℕ) (me : Me S View) (w : ℕ) → IsPlain me.0 → Allows (Kept start) slots id me w (λ n. n) (Loads (step slots w 0 0 none) me)
  loads start slots id me w plain s k _ at _ = let t = load_goes start s k id me w at plain in (t.0, keeps, tt, t.1, (t.2, refl))

  pub exchanges : (start : Start) (slots id : ℕ) (me : Me S View) (w old new : ℕ) → IsPlain me.0 → CanExchange me.0 w old new
      → Allows (Kept start) slots id me w (λ n. either (eqb n old) new n) (Exchanges (step slots w old new none) me)
  unfolding step_extends
  exchanges start slots id me w old new plain can s k _ at _ = go (eqb (get_or s.words w 0) old) refl
    where
      n : ℕ
      n = get_or s.words w 0

      e : Event
      e = change_of w new

      f : Fits start k.log k.splits k.holder id me.0
      f = k.each id me.0 at

      g : LiveFits start k.log k.splits k.holder id me.0
      g = f.live plain.0

      right : n ≡ old → IsRight (cells_after start (first_cells start) k.log) me.0.own.path (Change e) × (words_of (after_entry start (cells_after start (first_cells start) k.log) (entry me.0.own.path (Change e))) ≡ set (words_of (cells_after start (first_cells start) k.log)) w new)
      right is = subst
          (λ (x : Start). (log : List Entry) → IsHistory x (first_cells x) log → Begins me.0.seen log → steps_by me.0.own.path log ≡ me.0.own.steps → get_or (words_of (cells_after x (first_cells x) log)) w 0 ≡ old
          → IsRight (cells_after x (first_cells x) log) me.0.own.path (Change e) × (words_of (after_entry x (cells_after x (first_cells x) log) (entry me.0.own.path (Change e))) ≡ set (words_of (cells_after x (first_cells x) log)) w new))
          g.started can k.log k.legal f.seen g.own.steps_are (sym (ap (λ (l : List ℕ). get_or l w 0) k.words_are) ∙ is)

      found : n ≡ old → get_or (words_of (cells me.0 (me.0.seen ++ f.seen.0))) w 0 ≡ old
      found is = (λ i. get_or (words_of (cells_after (g.started i) (first_cells (g.started i)) (f.seen.1 i))) w 0) ∙ (sym (ap (λ (l : List ℕ). get_or l w 0) k.words_are) ∙ is)

      go : (b : Bool) → eqb n old ≡ b → (u : View) × (a : Act S) × Valid s.homes me.1 a × Kept start (stepped s w (either b new n) id me.1 u a)
          × (cond b (Swaps me.0 w old e u) (Extends me.0 (Load w n) u) × (carried_after me.1 a ≡ me.1))
      go true hit = let is = eqb-true n old hit in let t = right is in (
        stepped_view me.0 k.log (Change e),
        keeps,
        tt,
        step_keeps start s k id me.0 at plain (Change e) t.0 (set s.words w new) (ap (λ (l : List ℕ). set l w new) k.words_are ∙ sym t.1),
        (record { extends = step_extends start s k id me.0 at plain (Change e) t.0; was = found is }, refl),
      )
      go false miss = let t = load_goes start s k id me w at plain in (t.0, keeps, tt, t.1, (t.2, refl))
