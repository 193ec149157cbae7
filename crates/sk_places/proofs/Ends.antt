-- The place of snapshots of both engines is the greater of the ends of their last marks.
use Rattle.std.specs.Prelude.{ℕ, List, [], ◌∷◌, Option, Some, None, Bool, true, false, cond, ◌||◌, ◌≡◌, ◌+◌, max}
use Rattle.std.proofs.Common.{refl, sym, ap, ◌∙◌, arith}
use Rattle.std.specs.List.{list_any}
use Rattle.std.proofs.lemmas.Bool.{or_parts}
use Rattle.std.proofs.Math.Bool.{or-false}
use Rattle.sk_model.specs.declared.commit.Commit.{Commit}
use Rattle.sk_model.specs.declared.engine.EngineName.{EngineName}
use Rattle.sk_model.specs.declared.engine.EngineName.TheVariants.{Mem, Store}
use Rattle.sk_model.specs.Places.{upto, is_wanted, place}
use Rattle.sk_places.specs.declared.marks.Mark.{Mark}
use Rattle.sk_places.specs.Marks.{number_by, marked, marks, last_end}

none_wanted : (cs : List Commit) (m s : Option ℕ) → list_any (is_wanted m s) cs ≡ false → place cs m s ≡ 0
none_wanted [] m s e = refl
none_wanted (c ∷ cs) m s e = rw e refl

-- ---- a place is the greater of those of each engine's snapshot alone

wanted_by : (m s : Option ℕ) (c : Commit) → is_wanted m s c ≡ (is_wanted m None c || is_wanted None s c)
wanted_by m s c = go (upto m c.mem) (upto s c.store)
  where
    go : (a b : Bool) → (a || b) ≡ ((a || false) || b)
    go true b = refl
    go false b = refl

any_by : (m s : Option ℕ) (cs : List Commit) → list_any (is_wanted m s) cs ≡ (list_any (is_wanted m None) cs || list_any (is_wanted None s) cs)
any_by m s [] = refl
any_by m s (c ∷ cs) = rw (wanted_by m s c, any_by m s cs) (swap (is_wanted m None c) (is_wanted None s c) (list_any (is_wanted m None) cs) (list_any (is_wanted None s) cs))
  where
    swap : (a b x y : Bool) → ((a || b) || (x || y)) ≡ ((a || x) || (b || y))
    swap true b x y = refl
    swap false true true y = refl
    swap false true false y = refl
    swap false false x y = refl

greater : (a b : Bool) (p q : ℕ) → (a ≡ false → p ≡ 0) → (b ≡ false → q ≡ 0) → cond (a || b) (max p q + 1) 0 ≡ max (cond a (p + 1) 0) (cond b (q + 1) 0)
greater true true p q f g = omega arith
greater true false p q f g = let z : q ≡ 0 = g refl in omega arith
greater false true p q f g = let z : p ≡ 0 = f refl in omega arith
greater false false p q f g = omega arith

pub place_by : (cs : List Commit) (m s : Option ℕ) → place cs m s ≡ max (place cs m None) (place cs None s)
place_by [] m s = omega arith
place_by (c ∷ cs) m s =
    rw (any_by m s (c ∷ cs), place_by cs m s)
    (greater (list_any (is_wanted m None) (c ∷ cs)) (list_any (is_wanted None s) (c ∷ cs)) (place cs m None) (place cs None s)
    (λ e. none_wanted cs m None (or_parts _ _ e).1) (λ e. none_wanted cs None s (or_parts _ _ e).1))

-- ---- the place of one engine's snapshot is the end of its last mark

upto_none : (k : Option ℕ) → upto k None ≡ false
upto_none None = refl
upto_none (Some n) = refl

one_on : (t any : Bool) (before p end : ℕ) → (any ≡ false → p ≡ 0) → cond any (before + 1 + p) (cond t (before + 1) end) ≡ cond (t || any) (before + cond (t || any) (p + 1) 0) end
one_on true true before p end z = omega arith
one_on true false before p end z = let e : p ≡ 0 = z refl in omega arith
one_on false true before p end z = omega arith
one_on false false before p end z = refl

last_marked : (o k : Option ℕ) (end at : ℕ) (ms : List Mark) → last_end end k (marked o at ms) ≡ last_end (cond (upto k o) at end) k ms
last_marked None k end at ms = rw (upto_none k) refl
last_marked (Some n) k end at ms = refl

last_by : (name : EngineName) (k m s : Option ℕ) → ((c : Commit) → is_wanted m s c ≡ upto k (number_by name c)) → (before end : ℕ) (cs : List Commit)
    → last_end end k (marks name before cs) ≡ cond (list_any (is_wanted m s) cs) (before + place cs m s) end
last_by name k m s same before end [] = refl
last_by name k m s same before end (c ∷ cs) =
    let here : Bool = is_wanted m s c in
    last_marked (number_by name c) k end (before + 1) (marks name (before + 1) cs)
    ∙ ap (λ (t : Bool). last_end (cond t (before + 1) end) k (marks name (before + 1) cs)) (sym (same c))
    ∙ last_by name k m s same (before + 1) (cond here (before + 1) end) cs
    ∙ one_on here (list_any (is_wanted m s) cs) before (place cs m s) end (none_wanted cs m s)

from_none : (any : Bool) (p : ℕ) → (any ≡ false → p ≡ 0) → cond any (0 + p) 0 ≡ p
from_none true p z = omega arith
from_none false p z = sym (z refl)

last_place : (name : EngineName) (k m s : Option ℕ) → ((c : Commit) → is_wanted m s c ≡ upto k (number_by name c)) → (order : List Commit)
    → last_end 0 k (marks name 0 order) ≡ place order m s
last_place name k m s same order = last_by name k m s same 0 0 order ∙ from_none (list_any (is_wanted m s) order) (place order m s) (none_wanted order m s)

pub last_mem : (order : List Commit) (m : Option ℕ) → last_end 0 m (marks Mem 0 order) ≡ place order m None
last_mem order m = last_place Mem m m None (λ c. or-false (upto m c.mem)) order

pub last_store : (order : List Commit) (s : Option ℕ) → last_end 0 s (marks Store 0 order) ≡ place order None s
last_store order s = last_place Store s None s (λ c. refl) order

pub ends_place : (order : List Commit) (m s : Option ℕ) → max (last_end 0 m (marks Mem 0 order)) (last_end 0 s (marks Store 0 order)) ≡ place order m s
ends_place order m s = rw (last_mem order m, last_store order s) (sym (place_by order m s))
