-- What one row's change makes of all rows.
use Rattle.std.specs.Prelude.{◌≡◌, ℕ, ◌⊎◌, List, Option, Some, None, Bool, true, false, cond, ◌==◌, ◌&&◌, IfSome}
use Rattle.std.proofs.Common.{refl, sym, ap, subst, ◌∙◌, inl, inr}
use Rattle.std.specs.Option.{is_some}
use Rattle.std.specs.Ordering.{eq_by_cmp}
use Rattle.std.specs.Cmp.{eq_by_cmp_equiv}
use Rattle.std.proofs.lemmas.Bool.{and_parts, and_from, eq-eqb, eqb-true}
use Rattle.sk_rows.specs.declared.value.Value.{Value}
use Rattle.sk_rows.specs.declared.table.Column.{Column}
use Rattle.sk_rows.specs.declared.table.Table.{Table}
use Rattle.sk_rows.specs.Values.{value_cmp}
use Rattle.sk_rows.specs.Orders.{value_cmp_total}
use Rattle.sk_model.proofs.Lookups.{tied_itself}
use Rattle.sk_model.specs.Database.{RowOf}
use Rattle.sk_model.specs.Names.{columns_at}
use Rattle.sk_chain.specs.Chained.{Chained}
use Rattle.sk_engine.specs.declared.row_id.RowId.{RowId}
use Rattle.sk_engine.specs.Rows.{Chains, is_row_id, with_chain}
use Rattle.sk_store.specs.declared.head.Head.{Head}
use Rattle.sk_store.specs.declared.head.Spot.{Spot}
use Rattle.sk_store.specs.declared.head.Holds.{Holds}
use Rattle.sk_store.specs.declared.head.Holds.TheVariants.{Settled, Pending, Dropped}
use Rattle.sk_store.specs.Cells.{Cells}
use Rattle.sk_store.specs.Maps.{is_at_row}
use Rattle.sk_store.specs.Shown.{AreApart, HasRow, Heads, HoldsRow, IsFresh, OthersStay, Owns, RowShows, ShowsAll, is_at, row_id}
use Rattle.sk_store.proofs.Mapping.{row_is}

-- all that was shown is shown, over cells that are the same
pub kept_all : (told : Bool) (has then : Cells → Type 0) (heads : Heads) (tables : List Table) (chains : Chains) → ((cells : Cells) → has cells → then cells) → ShowsAll told has heads tables chains → ShowsAll told then heads tables chains
kept_all told has then heads tables chains keeps h = record { cells = h.cells; has_cells = keeps h.cells h.has_cells; rows = h.rows; apart = h.apart }

pub same_row : (t : ℕ) (k : Value) (u : ℕ) (key : Value) → is_at_row t k u key ≡ is_row_id t k (row_id u key)
same_row t k u key = ap (λ b. (t == u) && b) ((eq_by_cmp_equiv value_cmp_total).symm key k)

pub here_row : (u : ℕ) (key : Value) → is_at_row u key u key ≡ true
here_row u key = and_from (u == u) (eq_by_cmp value_cmp key key) (eq-eqb u u refl) (tied_itself key)

-- ---- a cell that stays

abbrev StaysAt : Cells → Cells → Option Spot → Type 0
StaysAt cells after None = Unit {0}
StaysAt cells after (Some at) = after at.page at.slot ≡ cells at.page at.slot

has_moved : (cells after : Cells) (at : Option Spot) (row : Option RowOf) → StaysAt cells after at → HasRow cells at row → HasRow after at row
has_moved cells after None None stay h = tt
has_moved cells after None (Some row) stay h = absurd h
has_moved cells after (Some at) None stay h = absurd h
has_moved cells after (Some at) (Some row) stay h = (stay ∙ h.0, h.1)

moved : (told : Bool) (cells after : Cells) (columns : List Column) (key : Value) (h : Head) (c : Chained) → (told ≡ true → StaysAt cells after h.cell) → RowShows told cells columns key h c → RowShows told after columns key h c
moved told cells after columns key h c stay s = record { top = s.top; last = s.last; fit = s.fit; holds = λ t. holds (stay t) h.holds (s.holds t) }
  where
    holds : StaysAt cells after h.cell → (x : Holds) → HoldsRow cells columns key h c x → HoldsRow after columns key h c x
    holds st Settled k = (k.0, k.1, k.2, (has_moved cells after h.cell k.1 st k.3.0, k.3.1), k.4)
    holds st (Pending by floor) k = ((has_moved cells after h.cell _ st k.0.0, k.0.1), k.1)
    holds st Dropped k = k

-- ---- places

at_is : (at : Spot) (p s : ℕ) → is_at (Some at) p s ≡ true → (p ≡ at.page) × (s ≡ at.slot)
at_is at p s e = let both = and_parts (p == at.page) (s == at.slot) e in (eqb-true p at.page both.0, eqb-true s at.slot both.1)

at_itself : (at : Spot) → is_at (Some at) at.page at.slot ≡ true
at_itself at = and_from (at.page == at.page) (at.slot == at.slot) (eq-eqb at.page at.page refl) (eq-eqb at.slot at.slot refl)

abbrev table_or : ℕ → Option RowId → ℕ
table_or t None = t
table_or t (Some p) = p.table

abbrev key_or : Value → Option RowId → Value
key_or key None = key
key_or key (Some p) = p.key

-- a cell of another owner is another one
apart_from : (owner : ℕ → ℕ → Option RowId) (old : Option Spot) (at : Spot) (t : ℕ) (k : Value) (u : ℕ) (key : Value) → Owns owner old (row_id u key) → owner at.page at.slot ≡ Some (row_id t k) → is_at_row t k u key ≡ false → is_at old at.page at.slot ≡ false
apart_from owner None at t k u key o mine off = refl
apart_from owner (Some q) at t k u key o mine off = go (is_at (Some q) at.page at.slot) refl
  where
    go : (b : Bool) → is_at (Some q) at.page at.slot ≡ b → is_at (Some q) at.page at.slot ≡ false
    go false e = e
    go true e =
        let is = at_is q at.page at.slot e in
        let one : Some (row_id t k) ≡ Some (row_id u key) = sym mine ∙ ap (λ p. owner p at.slot) is.0 ∙ ap (owner q.page) is.1 ∙ o in
        let table : t ≡ u = ap (table_or u) one in
        let keys : k ≡ key = ap (key_or key) one in
        absurd (let no : true ≡ false = sym (here_row u key) ∙ ap (λ n. is_at_row n key u key) (sym table) ∙ ap (λ q. is_at_row t q u key) (sym keys) ∙ off in cc)

-- a cell that is in use is none that was not
fresh_from : (cells : Cells) (old new : Option Spot) (at : Spot) → IsFresh cells old new → is_some (cells at.page at.slot) ≡ true → is_at old at.page at.slot ≡ false → is_at new at.page at.slot ≡ false
fresh_from cells old None at f live off = refl
fresh_from cells old (Some q) at (inl e) live off = ap (λ o. is_at o at.page at.slot) (sym e) ∙ off
fresh_from cells old (Some q) at (inr e) live off = go (is_at (Some q) at.page at.slot) refl
  where
    go : (b : Bool) → is_at (Some q) at.page at.slot ≡ b → is_at (Some q) at.page at.slot ≡ false
    go false f = f
    go true f =
        let is = at_is q at.page at.slot f in
        let none : cells at.page at.slot ≡ None = ap (λ p. cells p at.slot) is.0 ∙ ap (cells q.page) is.1 ∙ e in
        absurd (let no : false ≡ true = sym (ap is_some none) ∙ live in cc)

-- a cell is in use
abbrev pub IsUsed : Cells → Option Spot → Type 0
IsUsed cells None = Unit {0}
IsUsed cells (Some at) = is_some (cells at.page at.slot) ≡ true

pub row_used : (cells : Cells) (at : Option Spot) (row : Option RowOf) → HasRow cells at row → IsUsed cells at
row_used cells None row h = tt
row_used cells (Some at) None h = absurd h
row_used cells (Some at) (Some row) h = ap is_some h.0

pub own_used : (cells : Cells) (heads : Heads) (u : ℕ) (key : Value) → AreApart cells heads → IsUsed cells (heads u key).cell
own_used cells heads u key a = go (heads u key).cell (a.owned u key)
  where
    go : (o : Option Spot) → Owns a.owner o (row_id u key) → IsUsed cells o
    go None h = tt
    go (Some at) h = a.used at.page at.slot (ap is_some h)

-- ---- one row is written

module _ (told : Bool) (has then : Cells → Type 0) (heads new : Heads) (tables : List Table) (chains : Chains) (u : ℕ) (key : Value) (c : Chained) (h : ShowsAll told has heads tables chains) (after : Cells)
    (others : OthersStay h.cells after (heads u key).cell (new u key).cell) (fresh : told ≡ true → IsFresh h.cells (heads u key).cell (new u key).cell)
    (off : (t : ℕ) (k : Value) → is_at_row t k u key ≡ false → new t k ≡ heads t k) where
  -- another row's cell is neither the old nor the new one
  elsewhere : (a : AreApart h.cells heads) → IsFresh h.cells (heads u key).cell (new u key).cell → (t : ℕ) (k : Value) → is_at_row t k u key ≡ false → (at : Spot) → a.owner at.page at.slot ≡ Some (row_id t k)
      → (is_at (heads u key).cell at.page at.slot ≡ false) × (is_at (new u key).cell at.page at.slot ≡ false)
  elsewhere a f t k e at mine =
      let old = apart_from a.owner (heads u key).cell at t k u key (a.owned u key) mine e in
      (old, fresh_from h.cells (heads u key).cell (new u key).cell at f (a.used at.page at.slot (ap is_some mine)) old)

  stays : told ≡ true → (t : ℕ) (k : Value) → is_at_row t k u key ≡ false → StaysAt h.cells after (heads t k).cell
  stays is_told t k e = go (heads t k).cell ((h.apart is_told).owned t k)
    where
      go : (o : Option Spot) → Owns (h.apart is_told).owner o (row_id t k) → StaysAt h.cells after o
      go None m = tt
      go (Some at) m = let both = elsewhere (h.apart is_told) (fresh is_told) t k e at m in others at.page at.slot both.0 both.1

  rows : RowShows told after (columns_at tables u) key (new u key) c → (t : ℕ) (k : Value) → RowShows told after (columns_at tables t) k (new t k) (with_chain chains (row_id u key) c t k)
  rows row t k = subst (λ b. RowShows told after (columns_at tables t) k (new t k) (cond b c (chains t k))) (same_row t k u key) (go (is_at_row t k u key) refl)
    where
      go : (b : Bool) → is_at_row t k u key ≡ b → RowShows told after (columns_at tables t) k (new t k) (cond b c (chains t k))
      go true e =
          let is = row_is t k u key e in
          subst (λ n. RowShows told after (columns_at tables n) k (new n k) c) (sym is.0) (subst (λ q. RowShows told after (columns_at tables u) q (new u q) c) (sym is.1) row)
      go false e = subst (λ g. RowShows told after (columns_at tables t) k g (chains t k)) (sym (off t k e)) (moved told h.cells after (columns_at tables t) k (heads t k) (chains t k) (λ is_told. stays is_told t k e) (h.rows t k))

  abbrev owner : (a : AreApart h.cells heads) → ℕ → ℕ → Option RowId
  owner a page slot = cond (is_at (new u key).cell page slot) (Some (row_id u key)) (cond (is_at (heads u key).cell page slot) None (a.owner page slot))

  apart : told ≡ true → IsUsed after (new u key).cell → AreApart after new
  apart is_told in_use = record { owner = λ p s. owner a p s; owned = owned; used = used }
    where
      a : AreApart h.cells heads
      a = h.apart is_told

      mine : (o : Option Spot) → (new u key).cell ≡ o → Owns (λ p s. owner a p s) o (row_id u key)
      mine None e = tt
      mine (Some at) e = ap (λ b. cond b (Some (row_id u key)) (cond (is_at (heads u key).cell at.page at.slot) None (a.owner at.page at.slot))) (ap (λ o. is_at o at.page at.slot) e ∙ at_itself at)

      theirs : (t : ℕ) (k : Value) → is_at_row t k u key ≡ false → (o : Option Spot) → Owns a.owner o (row_id t k) → Owns (λ p s. owner a p s) o (row_id t k)
      theirs t k e None m = tt
      theirs t k e (Some at) m =
          let both = elsewhere a (fresh is_told) t k e at m in
          ap (λ b. cond b (Some (row_id u key)) (cond (is_at (heads u key).cell at.page at.slot) None (a.owner at.page at.slot))) both.1
          ∙ ap (λ b. cond b None (a.owner at.page at.slot)) both.0 ∙ m

      owned : (t : ℕ) (k : Value) → Owns (λ p s. owner a p s) (new t k).cell (row_id t k)
      owned t k = go (is_at_row t k u key) refl
        where
          go : (b : Bool) → is_at_row t k u key ≡ b → Owns (λ p s. owner a p s) (new t k).cell (row_id t k)
          go true e =
              let is = row_is t k u key e in
              subst (λ n. Owns (λ p s. owner a p s) (new n k).cell (row_id n k)) (sym is.0) (subst (λ q. Owns (λ p s. owner a p s) (new u q).cell (row_id u q)) (sym is.1) (mine (new u key).cell refl))
          go false e = subst (λ g. Owns (λ p s. owner a p s) g.cell (row_id t k)) (sym (off t k e)) (theirs t k e (heads t k).cell (a.owned t k))

      in_use_at : (o : Option Spot) → IsUsed after o → (p s : ℕ) → is_at o p s ≡ true → is_some (after p s) ≡ true
      in_use_at None w p s e = absurd cc
      in_use_at (Some at) w p s e = let is = at_is at p s e in ap (λ q. is_some (after q s)) is.0 ∙ ap (λ q. is_some (after at.page q)) is.1 ∙ w

      used : (p s : ℕ) → is_some (owner a p s) ≡ true → is_some (after p s) ≡ true
      used p s e = go (is_at (new u key).cell p s) refl (is_at (heads u key).cell p s) refl e
        where
          go : (b : Bool) → is_at (new u key).cell p s ≡ b → (d : Bool) → is_at (heads u key).cell p s ≡ d → is_some (cond b (Some (row_id u key)) (cond d None (a.owner p s))) ≡ true → is_some (after p s) ≡ true
          go true x d y z = in_use_at (new u key).cell in_use p s x
          go false x true y z = absurd cc
          go false x false y z = ap is_some (others p s y x) ∙ a.used p s z

  pub written_all : then after → RowShows told after (columns_at tables u) key (new u key) c → (told ≡ true → IsUsed after (new u key).cell) → ShowsAll told then new tables (with_chain chains (row_id u key) c)
  written_all has_after row in_use = record { cells = after; has_cells = has_after; rows = rows row; apart = λ t. apart t (in_use t) }

-- ---- one row's head changes, and its cell stays

pub changed_all : (told : Bool) (has : Cells → Type 0) (heads new : Heads) (tables : List Table) (chains : Chains) (u : ℕ) (key : Value) (c : Chained) (h : ShowsAll told has heads tables chains)
    → (new u key).cell ≡ (heads u key).cell → ((t : ℕ) (k : Value) → is_at_row t k u key ≡ false → new t k ≡ heads t k) → RowShows told h.cells (columns_at tables u) key (new u key) c
    → ShowsAll told has new tables (with_chain chains (row_id u key) c)
changed_all told has heads new tables chains u key c h same off row =
    written_all told has has heads new tables chains u key c h h.cells (λ p s x y. refl) (λ t. fresh (new u key).cell same) off h.has_cells row
    (λ t. subst (IsUsed h.cells) (sym same) (own_used h.cells heads u key (h.apart t)))
  where
    fresh : (o : Option Spot) → o ≡ (heads u key).cell → IsFresh h.cells (heads u key).cell o
    fresh None e = tt
    fresh (Some at) e = inl (sym e)
