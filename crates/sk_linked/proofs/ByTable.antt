-- Lists of writes by table that have the same writes to each engine's tables are the same.
use Rattle.std.specs.Prelude.{ℕ, List, [], ◌∷◌, Bool, true, false, cond, not, ◌≡◌, ◌≤◌}
use Rattle.std.proofs.Common.{refl, sym, ap, subst, ◌∙◌, ⊎_elim, arith}
use Rattle.std.specs.List.{flat_map}
use Rattle.std.proofs.lemmas.Bool.{cases_Bool, cond_both, cond-true, cond-false, false≢true}
use Rattle.std.proofs.lemmas.List.{append-nil}
use Rattle.sk_model.specs.declared.commit.Write.{Write}
use Rattle.sk_model.specs.declared.commit.Commit.{Commit}
use Rattle.sk_model.specs.declared.point.Point.{Point}
use Rattle.sk_model.specs.Database.{net}
use Rattle.sk_model.proofs.Lists.{Each, each_append, each_weaker, each_filter}
use Rattle.sk_model.proofs.NetLaws.{by_table}
use Rattle.sk_model.proofs.Quiet.{each_map_from}
use Rattle.sk_weave.specs.Points.{before_a, before_b}
use Rattle.sk_weave.specs.Weave.{with_writes, cross, store_at, mem_at, mem_within, store_within, mem_past, store_past, weave_from}
use Rattle.sk_weave.specs.Woven.{MatchedAt, Matched, own_writes}
use Rattle.sk_weave.specs.Laws.{FromTable}
use Rattle.sk_weave.proofs.Merging.{merged_from}
use Rattle.sk_linked.proofs.Projection.{cons_head, cons_tail, nil_cons}

pub net_from : (ws : List Write) → FromTable 0 (net ws)
net_from ws = by_table FromTable (λ t. tt) (λ t w ws l h. (l, h)) ws

each_from : (t : ℕ) (ws : List Write) → FromTable t ws → Each (λ (w : Write). t ≤ w.table) ws
each_from t [] h = tt
each_from t (w ∷ ws) h = (h.0, each_weaker (λ (v : Write). w.table ≤ v.table) (λ (v : Write). t ≤ v.table) (λ v k. let l : t ≤ w.table = h.0 in omega (arith, l, k)) ws (each_from w.table ws h.1))

module _ (owns : ℕ → Bool) where
  abbrev theirs : List Write → List Write
  theirs ws = own_writes (λ t. not (owns t)) ws

  abbrev ours : List Write → List Write
  ours ws = own_writes owns ws

  ours_in : (x : Write) (xs : List Write) → owns x.table ≡ true → ours (x ∷ xs) ≡ x ∷ ours xs
  ours_in x xs y = cond-true (owns x.table) (x ∷ ours xs) (ours xs) y

  ours_out : (x : Write) (xs : List Write) → owns x.table ≡ false → ours (x ∷ xs) ≡ ours xs
  ours_out x xs n = cond-false (owns x.table) (x ∷ ours xs) (ours xs) n

  theirs_in : (x : Write) (xs : List Write) → owns x.table ≡ false → theirs (x ∷ xs) ≡ x ∷ theirs xs
  theirs_in x xs n = cond-true (not (owns x.table)) (x ∷ theirs xs) (theirs xs) (ap not n)

  theirs_out : (x : Write) (xs : List Write) → owns x.table ≡ true → theirs (x ∷ xs) ≡ theirs xs
  theirs_out x xs y = cond-false (not (owns x.table)) (x ∷ theirs xs) (theirs xs) (ap not y)

  -- heads of two classes: each stands before the other
  crossed : (x y : Write) (xs ys : List Write) → FromTable x.table xs → FromTable y.table ys → owns x.table ≡ true → owns y.table ≡ false
      → x ∷ ours xs ≡ ours ys → theirs xs ≡ y ∷ theirs ys → ⊥
  crossed x y xs ys f g a b e k =
      let p : Each (λ (w : Write). y.table ≤ w.table) (ours ys) = each_filter (λ (w : Write). y.table ≤ w.table) (λ (w : Write). y.table ≤ w.table) (λ (w : Write). owns w.table) (λ w q z. z) ys (each_from y.table ys g) in
      let q : Each (λ (w : Write). x.table ≤ w.table) (theirs xs) = each_filter (λ (w : Write). x.table ≤ w.table) (λ (w : Write). x.table ≤ w.table) (λ (w : Write). not (owns w.table)) (λ w q z. z) xs (each_from x.table xs f) in
      let yx : y.table ≤ x.table = (subst (λ ws. Each (λ (w : Write). y.table ≤ w.table) ws) (sym e) p).0 in
      let xy : x.table ≤ y.table = (subst (λ ws. Each (λ (w : Write). x.table ≤ w.table) ws) k q).0 in
      let same : x.table ≡ y.table = omega (arith, yx, xy) in
      false≢true (sym b ∙ ap owns (sym same) ∙ a)

  pub same_by_table : (t u : ℕ) (xs ys : List Write) → FromTable t xs → FromTable u ys → theirs xs ≡ theirs ys → ours xs ≡ ours ys → xs ≡ ys
  same_by_table t u [] [] f g e k = refl
  same_by_table t u [] (y ∷ ys) f g e k = ⊎_elim
      (λ (a : owns y.table ≡ true). nil_cons (k ∙ ours_in y ys a))
      (λ (a : owns y.table ≡ false). nil_cons (e ∙ theirs_in y ys a))
      (cases_Bool (owns y.table))
  same_by_table t u (x ∷ xs) [] f g e k = ⊎_elim
      (λ (a : owns x.table ≡ true). nil_cons (sym k ∙ ours_in x xs a))
      (λ (a : owns x.table ≡ false). nil_cons (sym e ∙ theirs_in x xs a))
      (cases_Bool (owns x.table))
  same_by_table t u (x ∷ xs) (y ∷ ys) f g e k = ⊎_elim
      (λ (a : owns x.table ≡ true). ⊎_elim
      (λ (b : owns y.table ≡ true).
      let both : x ∷ ours xs ≡ y ∷ ours ys = sym (ours_in x xs a) ∙ k ∙ ours_in y ys b in
      let rest : xs ≡ ys = same_by_table x.table y.table xs ys f.1 g.1 (sym (theirs_out x xs a) ∙ e ∙ theirs_out y ys b) (cons_tail both) in
      ap (λ z. z ∷ xs) (cons_head both) ∙ ap (λ zs. y ∷ zs) rest)
      (λ (b : owns y.table ≡ false). absurd (crossed x y xs ys f.1 g.1 a b (sym (ours_in x xs a) ∙ k ∙ ours_out y ys b) (sym (theirs_out x xs a) ∙ e ∙ theirs_in y ys b)))
      (cases_Bool (owns y.table)))
      (λ (a : owns x.table ≡ false). ⊎_elim
      (λ (b : owns y.table ≡ true). absurd (crossed y x ys xs g.1 f.1 b a (sym (ours_in y ys b) ∙ sym k ∙ ours_out x xs a) (sym (theirs_out y ys b) ∙ sym e ∙ theirs_in x xs a)))
      (λ (b : owns y.table ≡ false).
      let both : x ∷ theirs xs ≡ y ∷ theirs ys = sym (theirs_in x xs a) ∙ e ∙ theirs_in y ys b in
      let rest : xs ≡ ys = same_by_table x.table y.table xs ys f.1 g.1 (cons_tail both) (sym (ours_out x xs a) ∙ k ∙ ours_out y ys b) in
      ap (λ z. z ∷ xs) (cons_head both) ∙ ap (λ zs. y ∷ zs) rest)
      (cases_Bool (owns y.table)))
      (cases_Bool (owns x.table))

  -- who wrote to neither engine's tables wrote nothing
  pub both_nil : (ws : List Write) → theirs ws ≡ [] → ours ws ≡ [] → ws ≡ []
  both_nil [] e k = refl
  both_nil (w ∷ ws) e k = ⊎_elim
      (λ (a : owns w.table ≡ true). nil_cons (sym k ∙ ours_in w ws a))
      (λ (a : owns w.table ≡ false). nil_cons (sym e ∙ theirs_in w ws a))
      (cases_Bool (owns w.table))

-- each commit of a woven list has its writes by table, where those of both engines have
abbrev pub ByTable : Commit → Type 0
ByTable c = FromTable 0 c.writes

pub woven_by_table : (p : Point) (qs : List Point) (mem store : List Commit) → Matched qs mem store → Each ByTable mem → Each ByTable store → Each ByTable (weave_from p qs mem store)
woven_by_table p [] mem store m h k = each_append ByTable (store_past p.b store) (mem_past p.a mem) (each_filter ByTable ByTable _ (λ c e x. x) store k) (each_filter ByTable ByTable _ (λ c e x. x) mem h)
woven_by_table p (q ∷ qs) mem store m h k =
    each_append ByTable (store_within p.b (before_b q) store) _ (each_filter ByTable ByTable _ (λ c e x. x) store k)
    (each_append ByTable (mem_within p.a (before_a q) mem) _ (each_filter ByTable ByTable _ (λ c e x. x) mem h)
    (each_append ByTable (cond q.commit (cross q.a q.b mem store) []) (weave_from q qs mem store)
    (cond_both q.commit (cross q.a q.b mem store) [] (λ xs. Each ByTable xs) (λ t. joined (m.0 t)) (λ t. tt))
    (woven_by_table q qs mem store m.1 h k)))
  where
    joined : MatchedAt q mem store → Each ByTable (cross q.a q.b mem store)
    joined w =
        let theirs_by : Each ByTable (store_at q.b store) = each_filter ByTable ByTable _ (λ c e x. x) store k in
        let one : ByTable w.theirs = (subst (λ cs. Each ByTable cs) w.other theirs_by).0 in
        let ws : flat_map (λ (d : Commit). d.writes) (store_at q.b store) ≡ w.theirs.writes = ap (flat_map (λ (d : Commit). d.writes)) w.other ∙ append-nil w.theirs.writes in
        let by : FromTable 0 (flat_map (λ (d : Commit). d.writes) (store_at q.b store)) = subst (FromTable 0) (sym ws) one in
        each_map_from ByTable ByTable (with_writes (flat_map (λ (d : Commit). d.writes) (store_at q.b store))) (λ c x. merged_from 0 c.writes (flat_map (λ (d : Commit). d.writes) (store_at q.b store)) x by) (mem_at q.a mem) (each_filter ByTable ByTable _ (λ c e x. x) mem h)
