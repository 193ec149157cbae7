-- What a pass holds after its steps.
use Rattle.std.proofs.Common.{◌≡◌, ℕ, ◌≤◌, Bool, true, false, List, [], ◌∷◌, ◌++◌, ◌⊎◌, inl, inr, ⊎_elim, sym, ap, ◌∙◌, subst, arith, le_trans, get_or}
use Rattle.sk_weave.specs.declared.event.Event.TheVariants.{DrawMem, DrawStore, Append, Raise}
use Rattle.sk_weave.specs.Points.{commit_point}
use Rattle.sk_clock.specs.declared.view.WordStep.{WordStep}
use Rattle.sk_clock.specs.declared.view.WordStep.TheVariants.{Load, Change}
use Rattle.sk_clock.specs.declared.view.Entry.{Entry}
use Rattle.sk_clock.specs.declared.view.Start.{Start}
use Rattle.sk_clock.specs.declared.view.View.{View}
use Rattle.sk_clock.specs.Paths.{Path, same_path}
use Rattle.sk_clock.specs.Steps.{put_if, steps_by, AnyStep, AnyThen, FindsMem, FindsStore, DrawsMem, DrawsStore, Holds, HasDrawn}
use Rattle.sk_clock.specs.History.{Cells, first_cells, words_of, after_entry, IsRight, cells_after, IsHistory}
use Rattle.sk_clock.specs.Kept.{now, Sees, Looks}
use Rattle.sk_clock.proofs.Ring.{grows}

pub any-left : (P : WordStep → Type 0) (xs ys : List WordStep) → AnyStep P xs → AnyStep P (xs ++ ys)
any-left P [] ys h = absurd h
any-left P (x ∷ xs) ys h = ⊎_elim (λ (y : P x). inl y) (λ (z : AnyStep P xs). inr (any-left P xs ys z)) h

pub any-last : (P : WordStep → Type 0) (xs : List WordStep) (e : WordStep) → P e → AnyStep P (xs ++ e ∷ [])
any-last P [] e h = inl h
any-last P (x ∷ xs) e h = inr (any-last P xs e h)

pub any-map : (P Q : WordStep → Type 0) → ((e : WordStep) → P e → Q e) → (xs : List WordStep) → AnyStep P xs → AnyStep Q xs
any-map P Q f [] h = absurd h
any-map P Q f (x ∷ xs) h = ⊎_elim (λ (y : P x). inl (f x y)) (λ (z : AnyStep P xs). inr (any-map P Q f xs z)) h

pub then-left : (P Q : WordStep → Type 0) (xs ys : List WordStep) → AnyThen P Q xs → AnyThen P Q (xs ++ ys)
then-left P Q [] ys h = absurd h
then-left P Q (x ∷ xs) ys h = ⊎_elim (λ (y : P x × AnyStep Q xs). inl (y.0, any-left Q xs ys y.1)) (λ (z : AnyThen P Q xs). inr (then-left P Q xs ys z)) h

pub then-last : (P Q : WordStep → Type 0) (xs : List WordStep) (e : WordStep) → AnyStep P xs → Q e → AnyThen P Q (xs ++ e ∷ [])
then-last P Q [] e h q = absurd h
then-last P Q (x ∷ xs) e h q = ⊎_elim (λ (y : P x). inl (y, any-last Q xs e q)) (λ (z : AnyStep P xs). inr (then-last P Q xs e z q)) h

pub then-map : (P Q R S : WordStep → Type 0) → ((e : WordStep) → P e → R e) → ((e : WordStep) → Q e → S e) → (xs : List WordStep) → AnyThen P Q xs → AnyThen R S xs
then-map P Q R S f g [] h = absurd h
then-map P Q R S f g (x ∷ xs) h = ⊎_elim (λ (y : P x × AnyStep Q xs). inl (f x y.0, any-map Q S g xs y.1)) (λ (z : AnyThen P Q xs). inr (then-map P Q R S f g xs z)) h

pub then-first : (P Q : WordStep → Type 0) (xs : List WordStep) → AnyThen P Q xs → AnyStep P xs
then-first P Q [] h = absurd h
then-first P Q (x ∷ xs) h = ⊎_elim (λ (y : P x × AnyStep Q xs). inl y.0) (λ (z : AnyThen P Q xs). inr (then-first P Q xs z)) h

pub then-second : (P Q : WordStep → Type 0) (xs : List WordStep) → AnyThen P Q xs → AnyStep Q xs
then-second P Q [] h = absurd h
then-second P Q (x ∷ xs) h = ⊎_elim (λ (y : P x × AnyStep Q xs). inr y.1) (λ (z : AnyThen P Q xs). inr (then-second P Q xs z)) h

drawn-finds : (a : ℕ) (e : WordStep) → DrawsMem a e → FindsMem a e
drawn-finds a e is = subst (FindsMem a) (sym is) (let l : a ≤ a = omega arith in l)

drawn-enough : (c : Bool) (b : ℕ) (e : WordStep) → DrawsStore b e → FindsStore c b e
drawn-enough c b e is = subst (FindsStore c b) (sym is) (let l : b ≤ b = omega arith in l)

-- two drawn numbers may make a commit
pub drawn_holds : (a b : ℕ) (es : List WordStep) → HasDrawn a b es → Holds (commit_point a b) es
drawn_holds a b es h = then-map (DrawsMem a) (DrawsStore b) (FindsMem a) (FindsStore true b) (drawn-finds a) (drawn-enough true b) es h

pub drawn_mem : (a b : ℕ) (es : List WordStep) → HasDrawn a b es → AnyStep (FindsMem a) es
drawn_mem a b es h = any-map (DrawsMem a) (FindsMem a) (drawn-finds a) es (then-first (DrawsMem a) (DrawsStore b) es h)

-- a number that was found is not past the counter
finds_upto : (s : Start) (r : Cells) (by : Path) (e : WordStep) (past : List Entry) (a : ℕ) → IsRight r by e → FindsMem a e → a ≤ (after_entry s r record { by = by; step = e }).regs.mem
finds_upto s r by (Load w n) past a right h =
    let at : n ≡ r.regs.mem = right ∙ ap (λ (i : ℕ). get_or (words_of r) i 0) h.0 in
    let l = h.1 in omega arith
finds_upto s r by (Change (DrawMem n)) past a right h = h
finds_upto s r by (Change (DrawStore n)) past a right h = absurd h
finds_upto s r by (Change (Append p)) past a right h = absurd h
finds_upto s r by (Change (Raise n)) past a right h = absurd h

draws_upto : (s : Start) (r : Cells) (by : Path) (e : WordStep) (b : ℕ) → DrawsStore b e → b ≤ (after_entry s r record { by = by; step = e }).regs.store
draws_upto s r by e b is = subst (λ (d : WordStep). b ≤ (after_entry s r record { by = by; step = d }).regs.store) (sym is) (let l : b ≤ b = omega arith in l)

-- by cases on whose step it is
one_of : (P : WordStep → Type 0) (same : Bool) (e : WordStep) (es : List WordStep) → AnyStep P (put_if same e es) → P e ⊎ AnyStep P es
one_of P true e es h = h
one_of P false e es h = inr h

mem_upto : (s : Start) (r : Cells) (log : List Entry) (p : Path) (a : ℕ) → IsHistory s r log → AnyStep (FindsMem a) (steps_by p log) → a ≤ (cells_after s r log).regs.mem
mem_upto s r [] p a h any = absurd any
mem_upto s r (e ∷ es) p a h any = ⊎_elim
    (λ (x : FindsMem a e.step). le_trans (finds_upto s r e.by e.step [] a h.0 x) (grows s (after_entry s r e) es h.1).mem)
    (λ (y : AnyStep (FindsMem a) (steps_by p es)). mem_upto s (after_entry s r e) es p a h.1 y)
    (one_of (FindsMem a) (same_path p e.by) e.step (steps_by p es) any)

store_upto : (s : Start) (r : Cells) (log : List Entry) (p : Path) (b : ℕ) → IsHistory s r log → AnyStep (DrawsStore b) (steps_by p log) → b ≤ (cells_after s r log).regs.store
store_upto s r [] p b h any = absurd any
store_upto s r (e ∷ es) p b h any = ⊎_elim
    (λ (x : DrawsStore b e.step). le_trans (draws_upto s r e.by e.step b x) (grows s (after_entry s r e) es h.1).store)
    (λ (y : AnyStep (DrawsStore b) (steps_by p es)). store_upto s (after_entry s r e) es p b h.1 y)
    (one_of (DrawsStore b) (same_path p e.by) e.step (steps_by p es) any)

-- an M number that a pass has found or drawn is not past the counter that it has seen
pub mem_seen : (v : View) (a : ℕ) → Sees v → steps_by v.own.path v.seen ≡ v.own.steps → AnyStep (FindsMem a) v.own.steps → a ≤ (now v).mem
mem_seen v a h own any = mem_upto v.start (first_cells v.start) v.seen v.own.path a h (subst (AnyStep (FindsMem a)) (sym own) any)

-- nor is an S number that it has drawn
pub store_seen : (v : View) (b : ℕ) → Sees v → steps_by v.own.path v.seen ≡ v.own.steps → AnyStep (DrawsStore b) v.own.steps → b ≤ (now v).store
store_seen v b h own any = store_upto v.start (first_cells v.start) v.seen v.own.path b h (subst (AnyStep (DrawsStore b)) (sym own) any)

-- what a pass holds it still holds when it has looked
pub looks_any : (P : WordStep → Type 0) (v w : View) → Looks v w → AnyStep P v.own.steps → AnyStep P w.own.steps
looks_any P v w l h = subst (AnyStep P) (sym (ap (λ o. o.steps) l.own)) (any-left P v.own.steps l.steps h)

pub looks_then_any : (P Q : WordStep → Type 0) (v w : View) → Looks v w → AnyThen P Q v.own.steps → AnyThen P Q w.own.steps
looks_then_any P Q v w l h = subst (AnyThen P Q) (sym (ap (λ o. o.steps) l.own)) (then-left P Q v.own.steps l.steps h)
