-- What a step tells a pass.
use Rattle.std.specs.Prelude.{◌≡◌, ℕ, ◌+◌, Bool, true, false, ◌==◌, List, [], ◌∷◌, ◌++◌, Option, Some, None}
use Rattle.atomic_table.specs.Table.{Me, Step}
use Rattle.sk_booked.specs.declared.view.Entry.{Entry}
use Rattle.sk_booked.specs.declared.view.Own.{Own}
use Rattle.sk_booked.specs.declared.view.Stage.{Stage}
use Rattle.sk_booked.specs.declared.view.Stage.TheVariants.{Idle, Opening, Holding}
use Rattle.sk_booked.specs.declared.view.View.{View}
use Rattle.sk_booked.specs.Paths.{entry, items_by, items_of}
use Rattle.sk_booked.specs.Kept.{own_at, view_of}

abbrev pub either_way : Bool → Type 0 → Type 0 → Type 0
either_way true P Q = P
either_way false P Q = Q

module _ {E : Type 0} where
  abbrev pub with_seen : Own E → List (Entry E) → Own E
  with_seen o seen = own_at o.path o.splits o.items seen

  abbrev pub with_item : Own E → E → Own E
  with_item o x = own_at o.path o.splits (o.items ++ x ∷ []) (o.seen ++ entry o.path x ∷ [])

module _ {V E : Type 0} where
  abbrev pub at_stage : View V E → Stage V → View V E
  at_stage v stage = view_of v.base stage v.live v.own v.taken

  abbrev pub with_own : View V E → Own E → View V E
  with_own v own = view_of v.base v.stage v.live own v.taken

  -- The pass has the lock, and in its slot the value, whose journal is what the pass has seen. It has seen all that it had seen, and then entries of others
  pub record Took (journal : V → List E) (ready : V → Type 0) (v : View V E) (w : Me (Option V) (View V E)) : Type 0 where
    pub value : V
    pub between : List (Entry E)
    pub others : items_by v.own.path between ≡ []
    pub view_is : w.0 ≡ with_own (at_stage v (Holding value)) (with_seen v.own (v.own.seen ++ between))
    pub slot_is : w.1 ≡ (0, Some value) ∷ []
    pub is_ready : ready value
    pub journal_is : journal value ≡ v.base ++ items_of (v.own.seen ++ between)

  abbrev pub Locks : (V → List E) → (V → Type 0) → Step (Option V) → Me (Option V) (View V E) → ℕ → Me (Option V) (View V E) → Type 0
  Locks journal ready s v n w = either_way (n == s.first) (Took journal ready v.0 w) (w ≡ v)

  -- the maker of the book takes the empty slot
  abbrev pub Opens : Step (Option V) → Me (Option V) (View V E) → ℕ → Me (Option V) (View V E) → Type 0
  Opens s v n w = (x : V) → v.0.stage ≡ Opening x → w ≡ (at_stage v.0 (Holding x), (0, None) ∷ [])

  -- the journal of the value in the slot is one entry longer than what the pass has seen: it is one more of its own
  abbrev pub Counts : (V → List E) → Step (Option V) → Me (Option V) (View V E) → ℕ → Me (Option V) (View V E) → Type 0
  Counts journal s v n w = (y : V) (x : E) → v.1 ≡ (0, Some y) ∷ [] → journal y ≡ (v.0.base ++ items_of v.0.own.seen) ++ x ∷ [] → w ≡ (with_own v.0 (with_item v.0.own x), v.1)

  abbrev pub Frees : Step (Option V) → Me (Option V) (View V E) → ℕ → Me (Option V) (View V E) → Type 0
  Frees s v n w = w ≡ (at_stage v.0 Idle, [])

  -- a split: the old pass has one split more, and the new one has seen as much and has no entry
  abbrev pub elder : View V E → View V E
  elder v = with_own v (own_at v.own.path (v.own.splits + 1) v.own.items v.own.seen)

  abbrev pub younger : View V E → View V E
  younger v = view_of v.base Idle true (own_at (v.own.splits ∷ v.own.path) 0 [] v.own.seen) []

  -- at the close a pass takes in what another did, and the other is spent
  abbrev pub gathered : View V E → View V E → View V E
  gathered v w = view_of v.base v.stage v.live v.own (w.own ∷ v.taken)

  abbrev pub spent : View V E
  spent = view_of [] Idle false (own_at [] 0 [] []) []
