-- Places that become free.
use Rattle.std.proofs.Common.{◌≡◌, ℕ, zero, suc, ◌+◌, ◌≤◌, ◌<◌, true, false, List, [], ◌∷◌, ◌++◌, length, get_or, slice_set, Option, Some, None, refl, sym, ap, subst, ◌∙◌, arith}
use Rattle.sk_rows.specs.declared.value.Value.{Value}
use Rattle.sk_undo.specs.declared.undo.Undo.{Undo}
use Rattle.sk_undo.specs.Log.{Log, AreLinked, AreWhole, IsClaimed, IsFree, IsFirst, MayBeNamed, IsNamed, IsLinked, IsOlder, IsPushed, IsUnnamed, LinksTo, NameApart, bound, bound_of, cut_behind, dropped, dropped_in, filled, is_empty, is_free, older_of, named, newer_of, put_at, record_at, unlinked, with_newer, without_older}
use Rattle.sk_undo.proofs.Places.{not_both, other, shorter, set_other, put_same, put_other, pushed_links, push_is_put, set_is_put}

pub free_at : (log : Log) (at : ℕ) → is_free log at ≡ true → IsFree log at
unfolding is_free
free_at [] at e = absurd cc
free_at (None ∷ log) zero e = (omega arith, refl)
free_at (Some u ∷ log) zero e = absurd cc
free_at (s ∷ log) (suc at) e = let h = free_at log at e in let lt = h.0 in (omega arith, h.1)

pub past_end : (log : Log) (at : ℕ) → length log ≤ at → record_at log at ≡ None
past_end [] at le = refl
past_end (s ∷ log) zero le = absurd (omega arith)
past_end (s ∷ log) (suc at) le = past_end log at (omega arith)

pub set_past : (log : Log) (at : ℕ) (x : Option Undo) → length log ≤ at → slice_set log at x ≡ log
set_past [] at x le = refl
set_past (s ∷ log) zero x le = absurd (omega arith)
set_past (s ∷ log) (suc at) x le = ap (λ (l : Log). s ∷ l) (set_past log at x (omega arith))

pub set_none : (log : Log) (at : ℕ) → record_at log at ≡ None → slice_set log at None ≡ log
set_none [] at e = refl
set_none (s ∷ log) zero e = ap (λ (x : Option Undo). x ∷ log) (sym e)
set_none (s ∷ log) (suc at) e = ap (λ (l : Log). s ∷ l) (set_none log at e)

pub put_none : (log : Log) (at : ℕ) → IsFree log at → log ≡ put_at log at None
put_none log at h = sym (set_none log at h.1) ∙ set_is_put log at None h.0

pub is_free_past : (log : Log) (at : ℕ) → length log ≤ at → is_free log at ≡ false
unfolding is_free
is_free_past [] at le = refl
is_free_past (s ∷ log) zero le = absurd (omega arith)
is_free_past (s ∷ log) (suc at) le = is_free_past log at (omega arith)

pub is_free_at : (log : Log) (at : ℕ) (d : Option Undo) → at < length log → is_empty (get_or log at d) ≡ is_free log at
unfolding is_free
is_free_at [] at d lt = absurd (omega arith)
is_free_at (s ∷ log) zero d lt = refl
is_free_at (s ∷ log) (suc at) d lt = is_free_at log at d (omega arith)

-- ---- a record goes

none_links : (log new : Log) → ((q : ℕ) → record_at new q ≡ record_at log q) → (o : Option ℕ) (n : ℕ) → LinksTo log o n → LinksTo new o n
none_links log new same None n l = tt
none_links log new same (Some p) n l = subst (λ (s : Option Undo). IsNamed s n) (sym (same p)) l

like_links : (log new : Log) → ((q : ℕ) → record_at new q ≡ record_at log q) → (s : Option Undo) → IsLinked log s → IsLinked new s
like_links log new same None l = tt
like_links log new same (Some u) l = none_links log new same u.older u.n l

-- a log that reads the same is as whole
pub like_whole : (log new : Log) → ((q : ℕ) → record_at new q ≡ record_at log q) → AreWhole log → AreWhole new
like_whole log new same h = (
  λ at. subst (λ (s : Option Undo). IsLinked new s) (sym (same at)) (like_links log new same (record_at log at) (h.0 at)),
  λ p q o e f. h.1 p q o (ap older_of (sym (same p)) ∙ e) (ap older_of (sym (same q)) ∙ f),
)

pub put_reads : (log : Log) (at : ℕ) → at ≤ length log → record_at log at ≡ None → (q : ℕ) → record_at (put_at log at None) q ≡ record_at log q
put_reads log at le e q =
    other q at
    (λ s. ap (record_at (put_at log at None)) s ∙ put_same log at None le ∙ sym (ap (record_at log) s ∙ e))
    (λ s. put_other log at q None le s)

-- ---- another record in a place

pub set_here : (xs : Log) (k : ℕ) (x : Option Undo) → (record_at xs k ≡ None → x ≡ None) → record_at (slice_set xs k x) k ≡ x
set_here [] k x h = sym (h refl)
set_here (y ∷ xs) zero x h = refl
set_here (y ∷ xs) (suc k) x h = set_here xs k x h

-- what holds of the record that is put, and of those elsewhere, holds of each
set_at : (log : Log) (at q : ℕ) (x : Option Undo) (P : Option Undo → Type 0) → (record_at log at ≡ None → x ≡ None) → (q ≡ at → P x) → ((q ≡ at → ⊥) → P (record_at log q)) → P (record_at (slice_set log at x) q)
set_at log at q x P gone here there =
    other q at
    (λ e. subst P (sym (ap (record_at (slice_set log at x)) e ∙ set_here log at x gone)) (here e))
    (λ e. subst P (sym (set_other log at q x e)) (there e))

alone_linked : (log : Log) (x : Option Undo) → older_of x ≡ None → IsLinked log x
alone_linked log None e = tt
alone_linked log (Some u) e = subst (λ (o : Option ℕ). LinksTo log o u.n) (sym e) tt

-- a record that names nobody, put where each name that was right stays right
abbrev pub Replaces : Log → ℕ → Option Undo → Type 0
Replaces log at x = (record_at log at ≡ None → x ≡ None) × (older_of x ≡ None)

abbrev pub KeepsNames : Log → ℕ → Option Undo → Type 0
KeepsNames log at x = (q n : ℕ) → older_of (record_at log q) ≡ Some at → IsNamed (record_at log at) n → IsNamed x n

set_link : (log : Log) (at : ℕ) (x : Option Undo) → Replaces log at x → (o : Option ℕ) (n : ℕ) → (o ≡ Some at → IsNamed (record_at log at) n → IsNamed x n) → LinksTo log o n → LinksTo (slice_set log at x) o n
set_link log at x r None n f l = tt
set_link log at x r (Some p) n f l = set_at log at p x (λ s. IsNamed s n) r.0 (λ e. f (ap Some e) (subst (λ (z : ℕ). IsNamed (record_at log z) n) e l)) (λ e. l)

set_linked : (log : Log) (at : ℕ) (x : Option Undo) → Replaces log at x → (s : Option Undo) → ((n : ℕ) → older_of s ≡ Some at → IsNamed (record_at log at) n → IsNamed x n) → IsLinked log s → IsLinked (slice_set log at x) s
set_linked log at x r None f l = tt
set_linked log at x r (Some u) f l = set_link log at x r u.older u.n (f u.n) l

pub still_names : (log : Log) (at : ℕ) (x : Option Undo) → Replaces log at x → (p o : ℕ) → older_of (record_at (slice_set log at x) p) ≡ Some o → older_of (record_at log p) ≡ Some o
still_names log at x r p o = set_at log at p x (λ s. older_of s ≡ Some o → older_of (record_at log p) ≡ Some o) r.0 (λ e h. absurd (let z : None ≡ Some o = sym r.1 ∙ h in cc)) (λ e h. h)

pub set_whole : (log : Log) (at : ℕ) (x : Option Undo) → Replaces log at x → KeepsNames log at x → AreWhole log → AreWhole (slice_set log at x)
set_whole log at x r keep h = (
  λ q. set_at log at q x (IsLinked (slice_set log at x)) r.0 (λ e. alone_linked (slice_set log at x) x r.1) (λ e. set_linked log at x r (record_at log q) (keep q) (h.0 q)),
  λ p q o e f. h.1 p q o (still_names log at x r p o e) (still_names log at x r q o f),
)

-- what the record of this place named is named by nobody any more
pub set_unnamed : (log : Log) (at : ℕ) (x : Option Undo) → Replaces log at x → NameApart log → IsUnnamed (slice_set log at x) (older_of (record_at log at))
set_unnamed log at x r h = from (older_of (record_at log at)) refl
  where
    from : (o : Option ℕ) → older_of (record_at log at) ≡ o → IsUnnamed (slice_set log at x) o
    from None e = tt
    from (Some o) e = λ q. set_at log at q x (λ s. older_of s ≡ Some o → ⊥) r.0 (λ s f. let z : None ≡ Some o = sym r.1 ∙ f in cc) (λ apart f. apart (h q at o f e))

pub none_replaces : (log : Log) (at : ℕ) → Replaces log at None
none_replaces log at = (λ e. refl, refl)

pub free_whole : (log : Log) (at : ℕ) → AreWhole log → IsUnnamed log (Some at) → AreWhole (slice_set log at None)
free_whole log at h un = set_whole log at None (none_replaces log at) (λ q n e l. absurd (un q e)) h

pub free_unnamed : (log : Log) (at : ℕ) → AreWhole log → IsUnnamed (slice_set log at None) (older_of (record_at log at))
free_unnamed log at h = set_unnamed log at None (none_replaces log at) h.1

pub without_replaces : (log : Log) (at : ℕ) → Replaces log at (without_older (record_at log at))
without_replaces log at = (λ e. ap without_older e, alone (record_at log at))
  where
    alone : (s : Option Undo) → older_of (without_older s) ≡ None
    alone None = refl
    alone (Some u) = refl

still_named : (s : Option Undo) (n : ℕ) → IsNamed s n → IsNamed (without_older s) n
still_named None n l = absurd l
still_named (Some u) n l = l

pub unlinked_whole : (log : Log) (at : ℕ) → AreWhole log → AreWhole (unlinked log at)
unlinked_whole log at h = set_whole log at (without_older (record_at log at)) (without_replaces log at) (λ q n e l. still_named (record_at log at) n l) h

pub unlinked_unnamed : (log : Log) (at : ℕ) → AreWhole log → IsUnnamed (unlinked log at) (older_of (record_at log at))
unlinked_unnamed log at h = set_unnamed log at (without_older (record_at log at)) (without_replaces log at) h.1

first_is : (s : Option Undo) (n : ℕ) → newer_of s ≡ None → IsNamed s n → ⊥
first_is None n e l = l
first_is (Some v) n e l = let z : None ≡ Some n = sym e ∙ l.1 in cc

names_it : (log : Log) (at : ℕ) (s : Option Undo) → newer_of (record_at log at) ≡ None → IsLinked log s → older_of s ≡ Some at → ⊥
names_it log at None e l f = cc
names_it log at (Some u) e l f = first_is (record_at log at) u.n e (subst (λ (o : Option ℕ). LinksTo log o u.n) f l)

-- a record without a newer one is named by nobody
pub first_unnamed : (log : Log) (from : Option ℕ) → AreLinked log → IsFirst log from → IsUnnamed log from
first_unnamed log None h e = tt
first_unnamed log (Some at) h e = λ q. names_it log at (record_at log q) e (h q)

-- ---- a path goes

set_bound : (log : Log) (at : ℕ) (o : Option ℕ) → bound (slice_set log at None) o ≤ bound log o
set_bound log at None = omega arith
set_bound log at (Some p) = set_at log at p None (λ s. bound_of s ≤ bound_of (record_at log p)) (λ e. refl) (λ e. omega arith) (λ e. omega arith)

pub shrinks : (log : Log) (at k : ℕ) → AreLinked log → bound log (Some at) ≤ suc k → bound (slice_set log at None) (older_of (record_at log at)) ≤ k
shrinks log at k h le = from (record_at log at) refl le
  where
    from : (s : Option Undo) → record_at log at ≡ s → bound_of s ≤ suc k → bound (slice_set log at None) (older_of s) ≤ k
    from None e le = omega arith
    from (Some u) e le = let a = shorter log at u h e in let b = set_bound log at u.older in omega arith

no_record : (s : Option Undo) → bound_of s ≤ 0 → s ≡ None
no_record None le = refl
no_record (Some u) le = absurd (omega arith)

dropped_none : (k : ℕ) (log : Log) → dropped_in k log None ≡ log
unfolding dropped_in
dropped_none zero log = refl
dropped_none (suc k) log = refl

nothing : (k : ℕ) (log : Log) (at : ℕ) → bound log (Some at) ≤ 0 → dropped_in (suc k) log (Some at) ≡ log
unfolding dropped_in
nothing k log at le =
    let e = no_record (record_at log at) le in
    ap (λ (s : Option Undo). dropped_in k (slice_set log at None) (older_of s)) e ∙ ap (λ (l : Log). dropped_in k l None) (set_none log at e) ∙ dropped_none k log

-- as many steps as the path may have are enough
dropped_enough : (k j : ℕ) (log : Log) (from : Option ℕ) → AreWhole log → IsUnnamed log from → bound log from ≤ k → bound log from ≤ j → dropped_in k log from ≡ dropped_in j log from
unfolding dropped_in
dropped_enough zero zero log from h un p q = refl
dropped_enough zero (suc j) log None h un p q = refl
dropped_enough (suc k) zero log None h un p q = refl
dropped_enough (suc k) (suc j) log None h un p q = refl
dropped_enough zero (suc j) log (Some at) h un p q = sym (nothing j log at p)
dropped_enough (suc k) zero log (Some at) h un p q = nothing k log at q
dropped_enough (suc k) (suc j) log (Some at) h un p q =
    dropped_enough k j (slice_set log at None) (older_of (record_at log at)) (free_whole log at h un) (free_unnamed log at h) (shrinks log at k h.0 p) (shrinks log at j h.0 q)

pub dropped_step : (log : Log) (at : ℕ) → AreWhole log → IsUnnamed log (Some at) → dropped (slice_set log at None) (older_of (record_at log at)) ≡ dropped log (Some at)
unfolding dropped dropped_in
dropped_step log at h un =
    let new = slice_set log at None in
    let o = older_of (record_at log at) in
    let k = bound new o + bound log (Some at) in
    dropped_enough (bound new o) k new o (free_whole log at h un) (free_unnamed log at h) (omega arith) (omega arith)
    ∙ dropped_enough (suc k) (bound log (Some at)) log (Some at) h un (omega arith) (omega arith)

pub dropped_end : (log : Log) → dropped log None ≡ log
unfolding dropped dropped_in
dropped_end log = refl

dropped_in_whole : (k : ℕ) (log : Log) (from : Option ℕ) → AreWhole log → IsUnnamed log from → AreWhole (dropped_in k log from)
unfolding dropped_in
dropped_in_whole zero log from h un = h
dropped_in_whole (suc k) log None h un = h
dropped_in_whole (suc k) log (Some at) h un = dropped_in_whole k (slice_set log at None) (older_of (record_at log at)) (free_whole log at h un) (free_unnamed log at h)

pub dropped_whole : (log : Log) (from : Option ℕ) → AreWhole log → IsUnnamed log from → AreWhole (dropped log from)
unfolding dropped
dropped_whole log from h un = dropped_in_whole (bound log from) log from h un

pub cut_whole : (log : Log) (from : Option ℕ) → AreWhole log → AreWhole (cut_behind log from)
cut_whole log None h = h
cut_whole log (Some at) h = dropped_whole (unlinked log at) (older_of (record_at log at)) (unlinked_whole log at h) (unlinked_unnamed log at h)

-- how many turns a path takes at most
abbrev pub turns : Log → Option ℕ → ℕ
turns log None = 0
turns log (Some at) = suc (bound log (Some at))

-- ---- a record comes

named_older : (log : Log) (older : Option ℕ) (n q : ℕ) → older_of (record_at (named log older n) q) ≡ older_of (record_at log q)
named_older log None n q = refl
named_older log (Some p) n q =
    set_at log p q (with_newer (record_at log p) n) (λ s. older_of s ≡ older_of (record_at log q)) (λ e. ap (λ (s : Option Undo). with_newer s n) e)
    (λ e. same (record_at log p) ∙ ap (λ (z : ℕ). older_of (record_at log z)) (sym e)) (λ e. refl)
  where
    same : (s : Option Undo) → older_of (with_newer s n) ≡ older_of s
    same None = refl
    same (Some u) = refl

-- what a new record may name is named by nobody
older_unnamed : (log : Log) (o n : ℕ) (s : Option Undo) → MayBeNamed (record_at log o) n → IsLinked log s → older_of s ≡ Some o → ⊥
older_unnamed log o n None f l e = cc
older_unnamed log o n (Some u) f l e = not_both (record_at log o) u.n n f (subst (λ (z : Option ℕ). LinksTo log z u.n) e l)

pub fill_whole : (log : Log) (at : ℕ) (u : Undo) → AreWhole log → IsOlder log u.older u.n → record_at log at ≡ None → at ≤ length log → AreWhole (named (put_at log at (Some u)) u.older u.n)
fill_whole log at u h free empty fits = (pushed_links log at u h.0 free empty fits, λ p q o e f. apart p q o (back p e) (back q f))
  where
    mid : Log
    mid = put_at log at (Some u)

    back : {r : Option ℕ} (p : ℕ) → older_of (record_at (named mid u.older u.n) p) ≡ r → older_of (record_at mid p) ≡ r
    back p e = sym (named_older mid u.older u.n p) ∙ e

    here : (p o : ℕ) → p ≡ at → older_of (record_at mid p) ≡ Some o → u.older ≡ Some o
    here p o s e = sym (ap older_of (ap (record_at mid) s ∙ put_same log at (Some u) fits)) ∙ e

    there : (p o : ℕ) → (p ≡ at → ⊥) → older_of (record_at mid p) ≡ Some o → older_of (record_at log p) ≡ Some o
    there p o s e = sym (ap older_of (put_other log at p (Some u) fits s)) ∙ e

    never : (p o : ℕ) → u.older ≡ Some o → older_of (record_at log p) ≡ Some o → ⊥
    never p o e f = older_unnamed log o u.n (record_at log p) (subst (λ (z : Option ℕ). IsOlder log z u.n) e free) (h.0 p) f

    apart : (p q o : ℕ) → older_of (record_at mid p) ≡ Some o → older_of (record_at mid q) ≡ Some o → p ≡ q
    apart p q o e f =
        other p at
        (λ s. other q at (λ t. s ∙ sym t) (λ t. absurd (never q o (here p o s e) (there q o t f))))
        (λ s. other q at (λ t. absurd (never p o (here q o t f) (there p o s e))) (λ t. h.1 p q o (there p o s e) (there q o t f)))

pub put_again : (log : Log) (at : ℕ) (x y : Option Undo) → at ≤ length log → put_at (put_at log at x) at y ≡ put_at log at y
unfolding put_at
put_again [] zero x y le = refl
put_again [] (suc at) x y le = absurd (omega arith)
put_again (s ∷ log) zero x y le = refl
put_again (s ∷ log) (suc at) x y le = ap (λ (l : Log). s ∷ l) (put_again log at x y (omega arith))

pub put_within : (log : Log) (at : ℕ) (x : Option Undo) → at ≤ length log → at < length (put_at log at x)
unfolding put_at
put_within [] zero x le = omega arith
put_within [] (suc at) x le = absurd (omega arith)
put_within (s ∷ log) zero x le = omega arith
put_within (s ∷ log) (suc at) x le = let h = put_within log at x (omega arith) in omega arith

pub claimed_free : (old new : Log) (at : ℕ) → IsClaimed old at new → IsFree new at
claimed_free old new at h = subst (λ (l : Log). IsFree l at) (sym h.2) (put_within old at None h.0, put_same old at None h.0)

pub claimed_older : (old new : Log) (at : ℕ) (older : Option ℕ) (n : ℕ) → IsClaimed old at new → IsOlder old older n → IsOlder new older n
claimed_older old new at None n h free = tt
claimed_older old new at (Some p) n h free = subst (λ (s : Option Undo). MayBeNamed s n) (sym (ap (λ (l : Log). record_at l p) h.2 ∙ put_reads old at h.0 h.1 p)) free

pub claimed_whole : (old new : Log) (at : ℕ) → IsClaimed old at new → AreWhole old → AreWhole new
claimed_whole old new at h whole = like_whole old new (λ q. ap (λ (l : Log). record_at l q) h.2 ∙ put_reads old at h.0 h.1 q) whole

pub found_claimed : (log : Log) (at : ℕ) → IsFree log at → IsClaimed log at log
found_claimed log at h = (let lt = h.0 in omega arith, h.1, put_none log at h)

pub grown_claimed : (log new : Log) (at : ℕ) → at ≡ length log → new ≡ log ++ None ∷ [] → IsClaimed log at new
grown_claimed log new at e s = (omega arith, past_end log at (omega arith), s ∙ push_is_put log at None (omega arith))

pub claimed_filled : (old new : Log) (at : ℕ) (older : Option ℕ) (n : ℕ) (row : Option (List Value)) → IsClaimed old at new → IsPushed old at (filled old at older n row) (filled new at older n row)
claimed_filled old new at older n row h =
    (h.0, h.1, ap (λ (l : Log). named l older n) (ap (λ (l : Log). put_at l at (Some (record { older = older; newer = None; n = n; row = row }))) h.2 ∙ put_again old at None (Some (record { older = older; newer = None; n = n; row = row })) h.0))

pub set_filled : (log : Log) (at : ℕ) (older : Option ℕ) (n : ℕ) (row : Option (List Value)) → at < length log → named (slice_set log at (Some (record { older = older; newer = None; n = n; row = row }))) older n ≡ filled log at older n row
set_filled log at older n row lt = ap (λ (l : Log). named l older n) (set_is_put log at (Some (record { older = older; newer = None; n = n; row = row })) lt)
