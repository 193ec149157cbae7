-- The rule of the clock's words, and what a step tells a pass.
use Rattle.std.specs.Prelude.{◌≡◌, ℕ, ◌+◌, ◌≤◌, Bool, true, false, ◌==◌, cond, List, [], ◌∷◌, ◌++◌, slice_index, slice_set}
use mathlib.Core.Option.{some}
use lib.ListN.{get_elem?}
use Rattle.atomic_table.specs.Table.{State, Me, Step}
use Rattle.sk_weave.specs.declared.event.Event.{Event}
use Rattle.sk_weave.specs.declared.event.Event.TheVariants.{DrawMem, DrawStore, Append, Raise}
use Rattle.sk_weave.specs.Points.{selection}
use Rattle.sk_weave.specs.Registry.{Regs}
use Rattle.sk_clock.specs.declared.view.WordStep.{WordStep}
use Rattle.sk_clock.specs.declared.view.WordStep.TheVariants.{Load, Change}
use Rattle.sk_clock.specs.declared.view.Entry.{Entry}
use Rattle.sk_clock.specs.declared.view.Start.{Start}
use Rattle.sk_clock.specs.declared.view.Own.{Own}
use Rattle.sk_clock.specs.declared.view.View.{View}
use Rattle.sk_clock.specs.Paths.{Path, Born, Each, Begins}
use Rattle.sk_clock.specs.Steps.{entry, steps_by}
use Rattle.sk_clock.specs.History.{Cells, first_cells, words_of, after_entry, IsRight, cells_after, IsHistory, change_of}

abbrev pub own_at : Path → ℕ → List WordStep → Own
own_at p k es = record { path = p; splits = k; steps = es }

abbrev pub view_of : Start → List Entry → Bool → Own → List Own → View
view_of start seen live own taken = record { start = start; seen = seen; told = []; live = live; own = own; taken = taken }

-- the first pass
abbrev pub newborn : Start → View
newborn start = view_of start [] true (own_at [] 0 []) []

abbrev pub IsPlain : View → Type 0
IsPlain v = (v.live ≡ true) × (v.taken ≡ [])

-- what a pass has seen is a history
abbrev pub Sees : View → Type 0
Sees v = IsHistory v.start (first_cells v.start) v.seen

-- the seat holds this pass, which was split off, and whose steps stand in the history each once, in their order
pub record OwnFits (log : List Entry) (splits : Path → ℕ) (holder : Path → ℕ) (seat : ℕ) (o : Own) : Type 0 where
  pub held : holder o.path ≡ seat
  pub splits_is : o.splits ≡ splits o.path
  pub born : Born splits o.path
  pub steps_are : steps_by o.path log ≡ o.steps

pub record LiveFits (start : Start) (log : List Entry) (splits : Path → ℕ) (holder : Path → ℕ) (seat : ℕ) (v : View) : Type 0 where
  pub started : v.start ≡ start
  pub own : OwnFits log splits holder seat v.own
  pub all_seen : steps_by v.own.path v.seen ≡ v.own.steps

pub record Fits (start : Start) (log : List Entry) (splits : Path → ℕ) (holder : Path → ℕ) (seat : ℕ) (v : View) : Type 0 where
  pub seen : Begins v.seen log
  pub told : Begins v.told log
  pub live : v.live ≡ true → LiveFits start log splits holder seat v
  pub taken : Each (OwnFits log splits holder seat) v.taken

module _ {S : Type 0} where
  -- there is one history from the start, which leaves the words, and it has the steps of the passes and no others
  pub record Kept (start : Start) (s : State S View) : Type 0 where
    pub log : List Entry
    pub splits : Path → ℕ
    pub holder : Path → ℕ
    pub words_are : s.words ≡ words_of (cells_after start (first_cells start) log)
    pub legal : IsHistory start (first_cells start) log
    pub by_born : Each (λ (e : Entry). Born splits e.by) log
    pub unborn : (p : Path) (k : ℕ) → splits p ≤ k → splits (k ∷ p) ≡ 0
    pub each : (seat : ℕ) (v : View) → get_elem? s.views seat ≡ some v → Fits start log splits holder seat v

abbrev pub with_step : Own → WordStep → Own
with_step o e = record { path = o.path; splits = o.splits; steps = o.steps ++ e ∷ [] }

abbrev pub stepped_view : View → List Entry → WordStep → View
stepped_view v log e = record { start = v.start; seen = log ++ entry v.own.path e ∷ []; told = v.told; live = v.live; own = with_step v.own e; taken = v.taken }

-- The history after a step begins with all that the pass had seen, and ends with the step, which is one more of its own. All steps of its own stand in it.
pub record Extends (v : View) (e : WordStep) (w : View) : Type 0 where
  pub between : List Entry
  pub seen : w.seen ≡ (v.seen ++ between) ++ entry v.own.path e ∷ []
  pub others : steps_by v.own.path between ≡ []
  pub told : Begins v.told w.seen
  pub own : w.own ≡ with_step v.own e
  pub same : (w.start ≡ v.start) × (w.live ≡ v.live) × (w.taken ≡ v.taken)
  pub legal : IsHistory w.start (first_cells w.start) w.seen
  pub all_seen : steps_by w.own.path w.seen ≡ w.own.steps

abbrev pub cells : View → List Entry → Cells
cells v log = cells_after v.start (first_cells v.start) log

-- the word at this place held `old`, and the step changed it
pub record Swaps (v : View) (place old : ℕ) (e : Event) (w : View) : Type 0 where
  pub extends : Extends v (Change e) w
  pub was : slice_index (words_of (cells v (v.seen ++ extends.between))) place ≡ old

module _ {S : Type 0} where
  abbrev pub Loads : Step S → Me S View → ℕ → Me S View → Type 0
  Loads s v n w = Extends v.0 (Load s.word n) w.0 × (w.1 ≡ v.1)

  abbrev pub Exchanges : Step S → Me S View → ℕ → Me S View → Type 0
  Exchanges s v n w = cond (n == s.first) (Swaps v.0 s.word s.first (change_of s.word s.second) w.0) (Extends v.0 (Load s.word n) w.0) × (w.1 ≡ v.1)

-- whatever the history has become since it was seen, where the word w is `old` the step to `new` is a right one
abbrev pub CanExchange : View → ℕ → ℕ → ℕ → Type 0
CanExchange v w old new = (log : List Entry) → IsHistory v.start (first_cells v.start) log → Begins v.seen log → steps_by v.own.path log ≡ v.own.steps → slice_index (words_of (cells v log)) w ≡ old
    → IsRight (cells v log) v.own.path (Change (change_of w new)) × (words_of (after_entry v.start (cells v log) (entry v.own.path (Change (change_of w new)))) ≡ slice_set (words_of (cells v log)) w new)

-- a split: the old pass has one split more, and the new one has the history seen and no step
abbrev pub elder : View → View
elder v = record { start = v.start; seen = v.seen; told = v.told; live = v.live; own = own_at v.own.path (v.own.splits + 1) v.own.steps; taken = v.taken }

abbrev pub younger : View → View
younger v = view_of v.start v.seen true (own_at (v.own.splits ∷ v.own.path) 0 []) []

-- the registry and the ring as a pass has seen them
abbrev pub now : View → Regs
now v = (cells v v.seen).regs

abbrev pub row_now : View → List ℕ
row_now v = (cells v v.seen).row

-- a step that only looks: a load, or giving up the oldest partition
abbrev pub IsLook : WordStep → Type 0
IsLook (Load w n) = Unit {0}
IsLook (Change (Raise n)) = Unit {0}
IsLook (Change (DrawMem n)) = ⊥
IsLook (Change (DrawStore n)) = ⊥
IsLook (Change (Append p)) = ⊥

-- a pass went on by such steps alone
pub record Looks (v w : View) : Type 0 where
  pub steps : List WordStep
  pub are_looks : Each IsLook steps
  pub own : w.own ≡ own_at v.own.path v.own.splits (v.own.steps ++ steps)
  pub seen : Begins v.seen w.seen
  pub same : (w.start ≡ v.start) × (w.live ≡ v.live) × (w.taken ≡ v.taken)

-- a note has the history that its pass has seen, and is no pass
abbrev pub noting : View → View
noting v = record { start = v.start; seen = v.seen; told = []; live = false; own = own_at [] 0 []; taken = [] }

abbrev pub stays_as : View → View
stays_as v = v

-- a pass is told what the note has
abbrev pub told_of : View → View → View
told_of v w = record { start = v.start; seen = v.seen; told = w.seen; live = v.live; own = v.own; taken = v.taken }

abbrev pub spent : View
spent = view_of record { partitions = 0; size = 0; point = selection 0 0 } [] false (own_at [] 0 []) []

-- at the close a pass takes in what another did, and the other is spent
abbrev pub gathered : View → View → View
gathered v w = record { start = v.start; seen = v.seen; told = v.told; live = v.live; own = v.own; taken = w.own ∷ v.taken }

abbrev pub Gathers : View → View → Type 0
Gathers v w = (v.live ≡ true) × IsPlain w
