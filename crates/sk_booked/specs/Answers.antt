-- What a call answers, and what a book is at its close.
use Rattle.std.specs.Prelude.{◌≡◌, ℕ, ◌<◌, true, List, [], ◌∷◌, ◌++◌, ◌⊎◌, Option, Some}
use mathlib.Core.Option.{some}
use lib.ListN.{get_elem?}
use Rattle.atomic_table.specs.Table.{Me}
use Rattle.sk_booked.specs.declared.view.Entry.{Entry}
use Rattle.sk_booked.specs.declared.view.Own.{Own}
use Rattle.sk_booked.specs.declared.view.Stage.TheVariants.{Idle, Holding}
use Rattle.sk_booked.specs.declared.view.View.{View}
use Rattle.sk_booked.specs.Paths.{Path, Begins, Each, items_by, items_of}
use Rattle.sk_booked.specs.Kept.{own_at, view_of}
use Rattle.sk_booked.specs.Plays.{with_seen, with_item, with_own}

-- the first pass of a book that begins with these entries
abbrev pub beginner : {V E : Type 0} → List E → View V E
beginner base = view_of base Idle true (own_at [] 0 [] []) []

-- the same pass later, which has made no split
pub record IsSamePass {V E : Type 0} (v w : View V E) : Type 0 where
  pub path : w.own.path ≡ v.own.path
  pub splits : w.own.splits ≡ v.own.splits

-- the pass has the lock and took x, and has y in its slot, whose journal is what the pass has seen
pub record IsHolding {V E : Type 0} (journal : V → List E) (ready : V → Type 0) (x y : V) (m : Me (Option V) (View V E)) : Type 0 where
  pub live : m.0.live ≡ true
  pub alone : m.0.taken ≡ []
  pub stage : m.0.stage ≡ Holding x
  pub slot : m.1 ≡ (0, Some y) ∷ []
  pub is_ready : ready y
  pub journal_is : journal y ≡ m.0.base ++ items_of m.0.own.seen

module _ {V C R : Type 0} (journal : V → List (C × R)) (gives : V → C → R → V → Type 0) (enters leaves : C → R → Type 0) where
  -- With an entry, the pass has seen it behind all else, and it is one more of its own. Without one, it has just seen so much.
  abbrev pub Tells : View V (C × R) → C → R → View V (C × R) → Type 0
  Tells v call reply w = ((w ≡ with_own v (with_item v.own (call, reply))) × enters call reply) ⊎ ((w ≡ v) × leaves call reply)

  -- The journal at this place begins with all that the pass had seen, and goes on with entries of others. There the value gave the reply.
  pub record Answered (v : View V (C × R)) (call : C) (reply : R) (w : View V (C × R)) : Type 0 where
    pub between : List (Entry (C × R))
    pub others : items_by v.own.path between ≡ []
    pub before : V
    pub behind : V
    pub place : journal before ≡ v.base ++ items_of (v.own.seen ++ between)
    pub given : gives before call reply behind
    pub tells : Tells (with_own v (with_seen v.own (v.own.seen ++ between))) call reply w

module _ {E : Type 0} where
  abbrev pub HasPath : Path → List (Own E) → Type 0
  HasPath p os = (i : ℕ) × (o : Own E) × (get_elem? os i ≡ some o) × (o.path ≡ p)

  -- just one of them has this path
  abbrev pub IsOfOne : Path → List (Own E) → Type 0
  IsOfOne p os = (i : ℕ) × (o : Own E) × (get_elem? os i ≡ some o) × (o.path ≡ p) × ((j : ℕ) (u : Own E) → get_elem? os j ≡ some u → u.path ≡ p → j ≡ i)

  -- The first pass is among them, and each that one of them split off. None is there twice.
  pub record IsEvery (os : List (Own E)) : Type 0 where
    pub first : HasPath [] os
    pub others : (i : ℕ) (o : Own E) → get_elem? os i ≡ some o → (k : ℕ) → k < o.splits → HasPath (k ∷ o.path) os
    pub once : (i j : ℕ) (o u : Own E) → get_elem? os i ≡ some o → get_elem? os j ≡ some u → o.path ≡ u.path → i ≡ j

  -- the entries of the log are those of the pass, in its order, and the log begins with what it has seen
  pub record IsIn (log : List (Entry E)) (o : Own E) : Type 0 where
    pub items : items_by o.path log ≡ o.items
    pub seen : Begins o.seen log

-- One log stands behind the entries with which the book began, and makes the value's journal. Each of its entries is of just one of these passes, and each
-- of them has just its own there.
pub record Whole {V E : Type 0} (journal : V → List E) (ready : V → Type 0) (kin : V → V → Type 0) (start : V) (os : List (Own E)) (value : V) : Type 0 where
  pub log : List (Entry E)
  pub journal_is : journal value ≡ journal start ++ items_of log
  pub is_ready : ready value
  pub is_kin : kin start value
  pub each : (i : ℕ) (o : Own E) → get_elem? os i ≡ some o → IsIn log o
  pub by_one : Each (λ (e : Entry E). IsOfOne e.by os) log

-- The call was made of the value x that the pass took: the value y that it left is in the slot.
pub record Made {V C R : Type 0} (journal : V → List (C × R)) (ready : V → Type 0) (kin : V → V → Type 0) (gives : V → C → R → V → Type 0) (enters leaves : C → R → Type 0)
    (x : V) (m : Me (Option V) (View V (C × R))) (call : C) (reply : R) (n : Me (Option V) (View V (C × R))) : Type 0 where
  pub behind : V
  pub holding : IsHolding journal ready x behind n
  pub is_kin : (first : V) → kin first x → kin first behind
  pub given : gives x call reply behind
  pub tells : Tells journal gives enters leaves m.0 call reply n.0
