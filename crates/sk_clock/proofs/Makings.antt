-- How a pass goes on, and what it may then answer.
use Rattle.std.proofs.Common.{◌≡◌, ◌≢◌, ℕ, Bool, cond, eqb, eq-eqb, ne_eqb, List, [], ◌∷◌, ◌++◌, refl, sym, ap, ◌∙◌, subst, append_assoc}
use Rattle.std.specs.Prelude.{Some, None}
use Rattle.std.proofs.lemmas.List.{append-nil}
use Rattle.sk_weave.specs.declared.event.Event.{Event}
use Rattle.sk_weave.specs.Registry.{Regs}
use Rattle.sk_clock.specs.declared.view.WordStep.{WordStep}
use Rattle.sk_clock.specs.declared.view.WordStep.TheVariants.{Change}
use Rattle.sk_clock.specs.declared.view.Start.{Start}
use Rattle.sk_clock.specs.declared.view.Own.{Own}
use Rattle.sk_clock.specs.declared.view.View.{View}
use Rattle.sk_clock.specs.Paths.{Path, Each, Begins}
use Rattle.sk_clock.specs.Steps.{entry, steps_by}
use Rattle.sk_clock.specs.History.{first_cells, cells_after, IsHistory, IsRight}
use Rattle.sk_clock.specs.Kept.{own_at, with_step, cells, now, Extends, IsLook, Looks}
use Rattle.sk_clock.specs.Answers.{At}
use Rattle.sk_clock.proofs.Histories.{begins-refl, begins-append, each-snoc, history-left, history-right}

pub either-hit : (P Q : Type 0) (a b : ℕ) → a ≡ b → cond (eqb a b) P Q → P
either-hit P Q a b e h = subst (λ (t : Bool). cond t P Q) (eq-eqb a b e) h

pub either-miss : (P Q : Type 0) (a b : ℕ) → a ≢ b → cond (eqb a b) P Q → Q
either-miss P Q a b e h = subst (λ (t : Bool). cond t P Q) (ne_eqb a b e) h

pub each-append : {A : Type 0} (P : A → Type 0) (xs ys : List A) → Each P xs → Each P ys → Each P (xs ++ ys)
each-append P [] ys h k = k
each-append P (x ∷ xs) ys h k = (h.0, each-append P xs ys h.1 k)

pub begins-on : {A : Type 0} (xs ys zs : List A) → Begins xs ys → Begins ys zs → Begins xs zs
begins-on xs ys zs a b = (a.0 ++ b.0, sym (append_assoc xs a.0 b.0) ∙ (ap (λ l. l ++ b.0) a.1 ∙ b.1))

pub step_begins : (v : View) (e : WordStep) (w : View) → Extends v e w → Begins v.seen w.seen
step_begins v e w h = (h.between ++ entry v.own.path e ∷ [], sym (append_assoc v.seen h.between (entry v.own.path e ∷ [])) ∙ sym h.seen)

pub looks-none : (v : View) → Looks v v
looks-none v = record {
  steps = [];
  are_looks = tt;
  own = ap (λ (es : List WordStep). own_at v.own.path v.own.splits es) (sym (append-nil v.own.steps));
  seen = begins-refl v.seen;
  same = (refl, refl, refl);
}

pub looks_on : (v w : View) (e : WordStep) (x : View) → IsLook e → Looks v w → Extends w e x → Looks v x
looks_on v w e x look l h = record {
  steps = l.steps ++ e ∷ [];
  are_looks = each-snoc IsLook l.steps e l.are_looks look;
  own = h.own ∙ (ap (λ (o : Own). with_step o e) l.own ∙ ap (λ (es : List WordStep). own_at v.own.path v.own.splits es) (append_assoc v.own.steps l.steps (e ∷ [])));
  seen = begins-on v.seen w.seen x.seen l.seen (step_begins w e x h);
  same = (h.same.0 ∙ l.same.0, h.same.1 ∙ l.same.1, h.same.2 ∙ l.same.2);
}

pub looks_first : (v : View) (e : WordStep) (w : View) → IsLook e → Extends v e w → Looks v w
looks_first v e w look h = looks_on v v e w look (looks-none v) h

pub looks_then : (v u w : View) → Looks v u → Looks u w → Looks v w
looks_then v u w a b = record {
  steps = a.steps ++ b.steps;
  are_looks = each-append IsLook a.steps b.steps a.are_looks b.are_looks;
  own = b.own ∙ (ap (λ (o : Own). own_at o.path o.splits (o.steps ++ b.steps)) a.own ∙ ap (λ (es : List WordStep). own_at v.own.path v.own.splits es) (append_assoc v.own.steps a.steps b.steps));
  seen = begins-on v.seen u.seen w.seen a.seen b.seen;
  same = (b.same.0 ∙ a.same.0, b.same.1 ∙ a.same.1, b.same.2 ∙ a.same.2);
}

pub looks_path : (v w : View) → Looks v w → w.own.path ≡ v.own.path
looks_path v w l = ap (λ (o : Own). o.path) l.own

-- an answer that changes nothing
unfoldable pub answers : (v place w : View) (Answer : Regs → Type 0) → Looks v place → Looks place w → steps_by w.own.path w.seen ≡ w.own.steps → Answer (now place) → At v Answer None w
answers v place w Answer l m own a = let all = looks_then v place w l m in record {
  place = place.seen;
  since = l.seen;
  answer = subst (λ (s : Start). Answer (cells_after s (first_cells s) place.seen).regs) l.same.0 a;
  goes_on = m.seen;
  looks = all.steps;
  are_looks = all.are_looks;
  own = all.own ∙ ap (λ (es : List WordStep). own_at v.own.path v.own.splits (v.own.steps ++ es)) (sym (append-nil all.steps));
  all_seen = own;
  same = all.same;
}

-- an answer that comes with a change
unfoldable pub makes : (v u w : View) (Answer : Regs → Type 0) (e : Event) → Looks v u → (h : Extends u (Change e) w) → Answer (cells u (u.seen ++ h.between)).regs → At v Answer (Some e) w
makes v u w Answer e l h a = record {
  place = u.seen ++ h.between;
  since = begins-append v.seen u.seen h.between l.seen;
  answer = subst (λ (s : Start). Answer (cells_after s (first_cells s) (u.seen ++ h.between)).regs) l.same.0 a;
  goes_on = h.seen ∙ ap (λ (p : Path). (u.seen ++ h.between) ++ entry p (Change e) ∷ []) (sym (ap (λ (o : Own). o.path) h.own));
  looks = l.steps;
  are_looks = l.are_looks;
  own = h.own ∙ (ap (λ (o : Own). with_step o (Change e)) l.own ∙ ap (λ (es : List WordStep). own_at v.own.path v.own.splits es) (append_assoc v.own.steps l.steps (Change e ∷ [])));
  all_seen = h.all_seen;
  same = (h.same.0 ∙ l.same.0, h.same.1 ∙ l.same.1, h.same.2 ∙ l.same.2);
}

-- the step was right where it stands
pub stands : (v : View) (e : WordStep) (w : View) (h : Extends v e w) → IsRight (cells w (v.seen ++ h.between)) v.own.path e
stands v e w h = let l : IsHistory w.start (first_cells w.start) ((v.seen ++ h.between) ++ entry v.own.path e ∷ []) = subst (IsHistory w.start (first_cells w.start)) h.seen h.legal in
    (history-right w.start (first_cells w.start) (v.seen ++ h.between) (entry v.own.path e ∷ []) l).0

-- what was seen before the step
pub before_legal : (v : View) (e : WordStep) (w : View) (h : Extends v e w) → IsHistory w.start (first_cells w.start) (v.seen ++ h.between)
before_legal v e w h = history-left w.start (first_cells w.start) (v.seen ++ h.between) (entry v.own.path e ∷ []) (subst (IsHistory w.start (first_cells w.start)) h.seen h.legal)
