-- What a pass knows after its loads.
use Rattle.std.proofs.Common.{◌≡◌, ℕ, suc, ◌+◌, ◌≤◌, List, ◌++◌, get_or, sym, ap, ◌∙◌, subst, arith}
use Rattle.sk_weave.specs.Registry.{Grows}
use Rattle.sk_clock.specs.declared.view.WordStep.{WordStep}
use Rattle.sk_clock.specs.declared.view.WordStep.TheVariants.{Load}
use Rattle.sk_clock.specs.declared.view.Entry.{Entry}
use Rattle.sk_clock.specs.declared.view.Start.{Start}
use Rattle.sk_clock.specs.declared.view.View.{View}
use Rattle.sk_clock.specs.Paths.{Begins}
use Rattle.sk_clock.specs.Steps.{entry}
use Rattle.sk_clock.specs.History.{Cells, first_cells, words_of, cells_after}
use Rattle.sk_clock.specs.Kept.{cells, now, row_now, Sees, Extends, Looks}
use Rattle.sk_clock.proofs.Histories.{cells_after-snoc}
use Rattle.sk_clock.proofs.Makings.{stands, step_begins}
use Rattle.sk_clock.proofs.Ring.{Shaped, Ringed, ringed, seen_grows}

-- a load leaves the words
load_leaves : (v : View) (i n : ℕ) (w : View) → (h : Extends v (Load i n) w) → words_of (cells w w.seen) ≡ words_of (cells w (v.seen ++ h.between))
load_leaves v i n w h = ap (λ (l : List Entry). words_of (cells w l)) h.seen ∙ ap words_of (cells_after-snoc w.start (first_cells w.start) (v.seen ++ h.between) (entry v.own.path (Load i n)))

-- a load tells what the word is
pub loaded : (v : View) (i n : ℕ) (w : View) → Extends v (Load i n) w → n ≡ get_or (words_of (cells w w.seen)) i 0
loaded v i n w h = stands v (Load i n) w h ∙ sym (ap (λ (ws : List ℕ). get_or ws i 0) (load_leaves v i n w h))

three_up : (n : ℕ) → n + 3 ≡ suc (suc (suc n))
three_up n = omega arith

pub at_row : (c : Cells) (k : ℕ) → get_or (words_of c) (k + 3) 0 ≡ get_or c.row k 0
at_row c k = ap (λ (i : ℕ). get_or (words_of c) i 0) (three_up k)

pub loaded_row : (v : View) (k n : ℕ) (w : View) → Extends v (Load (k + 3) n) w → n ≡ get_or (row_now w) k 0
loaded_row v k n w h = loaded v (k + 3) n w h ∙ at_row (cells w w.seen) k

-- what was seen grows into what is seen now
pub view_grows : (v w : View) → w.start ≡ v.start → Begins v.seen w.seen → Sees w → Grows (now v) (now w)
view_grows v w same b legal = subst (λ (s : Start). Grows (cells_after s (first_cells s) v.seen).regs (now w)) same (seen_grows w.start v.seen w.seen b legal)

pub step_grows : (v : View) (e : WordStep) (w : View) → Extends v e w → Grows (now v) (now w)
step_grows v e w h = view_grows v w h.same.0 (step_begins v e w h) h.legal

pub looks_grow : (v w : View) → Looks v w → Sees w → Grows (now v) (now w)
looks_grow v w l sees = view_grows v w l.same.0 l.seen sees

pub ringed_now : (w : View) → Shaped w.start → Sees w → Ringed w.start (cells w w.seen)
ringed_now w shaped sees = ringed w.start shaped w.seen sees

-- both counters are numbers of an engine
pub mem_small : (v : View) (n : ℕ) (w : View) → Shaped w.start → Extends v (Load 0 n) w → n ≤ 2147483647
mem_small v n w shaped h = let is : n ≡ (now w).mem = loaded v 0 n w h in let l = (ringed_now w shaped h.legal).sound.mem in omega arith

pub store_small : (v : View) (n : ℕ) (w : View) → Shaped w.start → Extends v (Load 1 n) w → n ≤ 2147483647
store_small v n w shaped h = let is : n ≡ (now w).store = loaded v 1 n w h in let l = (ringed_now w shaped h.legal).sound.store in omega arith
