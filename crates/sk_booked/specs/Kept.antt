-- The rule of a book's words and its slot.
use Rattle.std.specs.Prelude.{◌≡◌, ◌≢◌, ℕ, ◌≤◌, Bool, true, false, List, [], ◌∷◌, ◌++◌, length, Option, Some, None}
use mathlib.Core.Option.{some, Option as Home}
use lib.ListN.{get_elem?}
use Rattle.atomic_table.specs.Table.{State}
use Rattle.sk_booked.specs.declared.view.Entry.{Entry}
use Rattle.sk_booked.specs.declared.view.Own.{Own}
use Rattle.sk_booked.specs.declared.view.Stage.{Stage}
use Rattle.sk_booked.specs.declared.view.Stage.TheVariants.{Idle, Opening, Holding}
use Rattle.sk_booked.specs.declared.view.View.{View}
use Rattle.sk_booked.specs.Paths.{Path, Born, Begins, Each, items_by, items_of}

abbrev pub is_busy : {V : Type 0} → Stage V → Bool
is_busy Idle = false
is_busy (Opening x) = true
is_busy (Holding x) = true

abbrev pub own_at : {E : Type 0} → Path → ℕ → List E → List (Entry E) → Own E
own_at p k xs seen = record { path = p; splits = k; items = xs; seen = seen }

-- The log of entries, how many splits each pass has made, in which seat it is, the word of the lock, which seat has it, and the slot
pub record Moment (V E : Type 0) : Type 0 where
  pub log : List (Entry E)
  pub splits : Path → ℕ
  pub holder : Path → ℕ
  pub lock : ℕ
  pub writer : ℕ
  pub homes : List (Home (Option V))

module _ {V E : Type 0} where
  abbrev pub view_of : List E → Stage V → Bool → Own E → List (Own E) → View V E
  view_of base stage live own taken = record { base = base; stage = stage; live = live; own = own; taken = taken }

  -- the first pass makes the book of this value
  abbrev pub newborn : (V → List E) → V → View V E
  newborn journal start = view_of (journal start) (Opening start) true (own_at [] 0 [] []) []

  -- a pass at rest: it has not been given up, has taken in no other, and has not the lock
  abbrev pub IsPlain : View V E → Type 0
  IsPlain v = (v.live ≡ true) × (length v.taken ≡ 0) × (is_busy v.stage ≡ false)

  pub record OwnFits (m : Moment V E) (seat : ℕ) (o : Own E) : Type 0 where
    pub held : m.holder o.path ≡ seat
    pub splits_is : o.splits ≡ m.splits o.path
    pub born : Born m.splits o.path
    pub items_are : items_by o.path m.log ≡ o.items
    pub seen : Begins o.seen m.log
    pub all_seen : items_by o.path o.seen ≡ o.items

  -- the pass has the lock, and has seen the whole log
  pub record IsWriter (m : Moment V E) (seat : ℕ) (seen : List (Entry E)) : Type 0 where
    pub locked : m.lock ≡ 1
    pub seat_is : seat ≡ m.writer
    pub whole : seen ≡ m.log

  module _ (journal : V → List E) (ready : V → Type 0) (kin : V → V → Type 0) (start : V) (m : Moment V E) where
    abbrev pub StageFits : ℕ → List (Entry E) → Stage V → Type 0
    StageFits seat seen Idle = Unit {0}
    StageFits seat seen (Opening x) = IsWriter m seat seen × (x ≡ start) × (m.homes ≡ some None ∷ [])
    StageFits seat seen (Holding x) = IsWriter m seat seen × kin start x

    pub record LiveFits (seat : ℕ) (v : View V E) : Type 0 where
      pub began : v.base ≡ journal start
      pub own : OwnFits m seat v.own
      pub stage : StageFits seat v.own.seen v.stage

    pub record Fits (seat : ℕ) (v : View V E) : Type 0 where
      pub live : v.live ≡ true → LiveFits seat v
      pub taken : Each (OwnFits m seat) v.taken

    -- the value is in its slot, and its journal is the log behind the entries with which the book began
    pub record AtHome : Type 0 where
      pub value : V
      pub home : m.homes ≡ some (Some value) ∷ []
      pub is_ready : ready value
      pub is_kin : kin start value
      pub journal_is : journal value ≡ journal start ++ items_of m.log

  -- a pass has the lock
  pub record IsHeld (m : Moment V E) (views : List (View V E)) : Type 0 where
    pub who : View V E
    pub there : get_elem? views m.writer ≡ some who
    pub live : who.live ≡ true
    pub busy : is_busy who.stage ≡ true

  -- There is one log. While the lock is free the value is at home, and the second word is always the length of the journal that the log makes.
  -- Each pass has just its own entries in the log, and each entry is of one pass.
  pub record Kept (journal : V → List E) (ready : V → Type 0) (kin : V → V → Type 0) (start : V) (s : State (Option V) (View V E)) : Type 0 where
    pub now : Moment V E
    pub words_are : s.words ≡ now.lock ∷ length (journal start ++ items_of now.log) ∷ []
    pub homes_are : now.homes ≡ s.homes
    pub by_born : Each (λ (e : Entry E). Born now.splits e.by) now.log
    pub unborn : (p : Path) (k : ℕ) → now.splits p ≤ k → now.splits (k ∷ p) ≡ 0
    pub each : (seat : ℕ) (v : View V E) → get_elem? s.views seat ≡ some v → Fits journal ready kin start now seat v
    pub free : now.lock ≡ 0 → AtHome journal ready kin start now
    pub held : now.lock ≢ 0 → IsHeld now s.views
