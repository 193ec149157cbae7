-- What holds of each write that is read of a log holds of each write of the commits that are read of it.
use Rattle.std.proofs.Common.{◌≡◌, ◌⊎◌, ℕ, zero, suc, ◌+◌, Bool, true, false, cond, List, [], ◌∷◌, ◌++◌, slice_get, Option, Some, Result, Ok, refl, subst, inl, inr}
use Rattle.std.specs.Prelude.{nat_le}
use Rattle.std.specs.Int.{w16, w32}
use Rattle.std.specs.List.{AllByRecursion, filter}
use Rattle.sk_rows.specs.declared.table.Column.{Column}
use Rattle.sk_rows.specs.declared.table.Table.{Table}
use Rattle.sk_model.specs.declared.label.Label.{Label}
use Rattle.sk_model.specs.declared.commit.Write.{Write}
use Rattle.sk_model.specs.declared.commit.Commit.{Commit}
use Rattle.sk_model.specs.Names.{columns_at}
use Rattle.sk_model.proofs.Lists.{each_append, each_map}
use Rattle.sk_codec.specs.declared.fault.Fault.{Fault}
use Rattle.sk_codec.specs.Reading.{Rest, number_at}
use Rattle.sk_codec.specs.Records.{columns_of, commit_of, is_of, label_at, numbers_at, record_at, table_at, write_at, writes_at}
use Rattle.sk_codec.proofs.Parts.{bind_ok, ok_is}
use Rattle.sk_log.specs.declared.logged.Head.{Head}
use Rattle.sk_log.specs.declared.logged.Logged.{Logged}
use Rattle.sk_log.specs.Calls.{anchor_file, store_file}
use Rattle.sk_log.specs.Groups.{body_at, halves, head_at, is_cross, logged_at, number_of, records_at, records_to}
use Rattle.sk_log.specs.Stores.{LogPosition, body_of, commits, group_of, stored_of, turn, turns}
use Rattle.sk_log.proofs.Turns.{turn_cases, turned, went}
use Rattle.sk_recover.proofs.RowsFit.{chosen, chosen_by, items_each}

-- the columns of the table of this number
columns_there : (tables : List Table) (n : ℕ) → columns_of (slice_get tables n) ≡ columns_at tables n
columns_there [] n = refl
columns_there (t ∷ ts) zero = refl
columns_there (t ∷ ts) (suc n) = columns_there ts n

-- the table of a write is of this log's engine, and has these columns
pub record IsTableOf (tables : List Table) (store : Bool) (t : ℕ × List Column) : Type 0 where
  pub of : is_of store (slice_get tables t.0) ≡ true
  pub columns : t.1 ≡ columns_at tables t.0

pub table_is : (tables : List Table) (store : Bool) (rest : Rest) (x : (ℕ × List Column) × Rest) → table_at tables store rest ≡ Ok x → IsTableOf tables store x.0
unfolding table_at
table_is tables store rest x e =
    let n = bind_ok (number_at w16 rest) _ _ e in
    let made : IsTableOf tables store (n.0.0, columns_of (slice_get tables n.0.0)) = record { of = chosen_by _ _ _ _ n.2; columns = columns_there tables n.0.0 } in
    subst (λ (y : (ℕ × List Column) × Rest). IsTableOf tables store y.0) (chosen _ _ _ _ n.2) made

-- each write of the commit has it, in this log of a store of these tables
abbrev pub EachWrite : (List Table → Bool → Write → Type 0) → List Table → Bool → Commit → Type 0
EachWrite P tables store c = AllByRecursion (P tables store) c.writes

-- each write of the commits so far has it
pub record CommitsHave (P : List Table → Bool → Write → Type 0) (s : LogPosition) : Type 0 where
  pub mem : AllByRecursion (EachWrite P s.catalog false) s.mem
  pub store : AllByRecursion (EachWrite P s.catalog true) s.store

-- nothing is left to be read, or there is more
at_end : {A : Type 0} (b : Bool) (x y : A) (r : Result A Fault) → cond b (Ok x) r ≡ Ok y → (x ≡ y) ⊎ (r ≡ Ok y)
at_end true x y r e = inl cc
at_end false x y r e = inr e

no_turns : (one two : List ℕ) (s t : LogPosition) → turns zero one two s ≡ Ok t → ⊥
unfolding turns
no_turns one two s t e = absurd cc

-- what each write that is read has
module _ (P : List Table → Bool → Write → Type 0) (law : (tables : List Table) (store : Bool) (rest : Rest) (x : Write × Rest) → write_at tables store rest ≡ Ok x → P tables store x.0) where
  -- ---- records

  commit_has : (tables : List Table) (store : Bool) (label : Label) (own : ℕ) (other : Option ℕ) (writes : List Write) → AllByRecursion (P tables store) writes → EachWrite P tables store (commit_of store label own other writes)
  commit_has tables true label own other writes all = all
  commit_has tables false label own other writes all = all

  record_has : (tables : List Table) (store : Bool) (low high : ℕ) (rest : Rest) (x : Commit × Rest) → record_at tables store low high rest ≡ Ok x → EachWrite P tables store x.0
  unfolding record_at
  record_has tables store low high rest x e =
      let l = bind_ok (label_at rest) _ _ e in
      let n = bind_ok (numbers_at low high l.0.1) _ _ l.2 in
      let k = bind_ok (number_at w32 n.0.1) _ _ n.2 in
      let w = bind_ok (writes_at tables store k.0.0 k.0.1) _ _ k.2 in
      let all = items_each (λ (_ : Unit {0}) rest. write_at tables store rest) (λ _ _. tt) (P tables store) (λ s rest x e. law tables store rest x e) k.0.0 tt k.0.1 w.0 w.1 in
      let made : Commit × Rest = (commit_of store l.0.0 n.0.0.0 n.0.0.1 w.0.0, w.0.1) in
      subst (λ (y : Commit × Rest). EachWrite P tables store y.0) {x = made} (ok_is made x w.2) (commit_has tables store l.0.0 n.0.0.0 n.0.0.1 w.0.0 all)

  abbrev LoggedHas : List Table → Bool → Logged → Type 0
  LoggedHas tables store f = EachWrite P tables store f.commit

  logged_has : (tables : List Table) (store : Bool) (upto above : ℕ) (rest : Rest) (x : Logged × Rest) → logged_at tables store upto above rest ≡ Ok x → LoggedHas tables store x.0
  unfolding logged_at
  logged_has tables store upto above rest x e =
      let c = bind_ok (record_at tables store (above + 1) upto rest) _ _ e in
      subst (λ (y : Logged × Rest). LoggedHas tables store y.0) (ok_is _ _ c.2) (record_has tables store (above + 1) upto rest c.0 c.1)

  -- the records of a body
  body_has : (tables : List Table) (above upto end : ℕ) (rest : Rest) (fs : List Logged) → body_at tables above upto end rest ≡ Ok fs → AllByRecursion (LoggedHas tables false) fs
  unfolding body_at
  body_has tables above upto end rest fs e =
      let n = bind_ok (number_at w32 rest) _ _ e in
      let found = bind_ok (records_at tables false n.0.0 upto above n.0.1) _ _ n.2 in
      subst (λ (gs : List Logged). AllByRecursion (LoggedHas tables false) gs) (chosen _ _ _ _ found.2)
      (items_each (logged_at tables false upto) (λ _ f. number_of false f) (LoggedHas tables false) (λ s rest x e. logged_has tables false upto s rest x e) n.0.0 above n.0.1 found.0 found.1)

  -- the records of a range of the storage log
  records_have : (tables : List Table) (store : Bool) (n end upto above : ℕ) (rest : Rest) (fs : List Logged) → records_to tables store n end upto above rest ≡ Ok fs → AllByRecursion (LoggedHas tables store) fs
  unfolding records_to
  records_have tables store zero end upto above rest fs e = subst (λ (gs : List Logged). AllByRecursion (LoggedHas tables store) gs) (ok_is [] fs e) tt
  records_have tables store (suc n) end upto above rest fs e = elim (at_end (nat_le end rest.place) [] fs _ e) [
    | inl none ↦ subst (λ (gs : List Logged). AllByRecursion (LoggedHas tables store) gs) none tt
    | inr on ↦
        let first = bind_ok (logged_at tables store upto above rest) _ _ on in
        let others = bind_ok (records_to tables store n end upto (number_of store first.0.0) first.0.1) _ _ first.2 in
        subst (λ (gs : List Logged). AllByRecursion (LoggedHas tables store) gs) (ok_is (first.0.0 ∷ others.0) fs others.2)
        (logged_has tables store upto above rest first.0 first.1, records_have tables store n end upto (number_of store first.0.0) first.0.1 others.0 others.1)
  ]

  -- ---- groups

  body_of_has : (s : LogPosition) (next : ℕ) (bytes : List ℕ) (x : Head × List Logged) → body_of s next bytes ≡ Ok x → AllByRecursion (LoggedHas s.catalog false) x.1
  unfolding body_of
  body_of_has s next bytes x e =
      let head = bind_ok (head_at s.cut s.end (record { file = anchor_file s.set; place = s.gate + 5; bytes = bytes })) _ _ e in
      let mem = bind_ok (body_at s.catalog s.cut.a head.0.0.cut.a next head.0.1) _ _ head.2 in
      subst (λ (y : Head × List Logged). AllByRecursion (LoggedHas s.catalog false) y.1) (ok_is _ _ mem.2) (body_has s.catalog s.cut.a head.0.0.cut.a next head.0.1 mem.0 mem.1)

  stored_of_has : (s : LogPosition) (head : Head) (bytes : List ℕ) (fs : List Logged) → stored_of s head bytes ≡ Ok fs → AllByRecursion (LoggedHas s.catalog true) fs
  unfolding stored_of
  stored_of_has s head bytes fs e = records_have s.catalog true _ _ _ _ _ fs e

  -- one list of commits more
  more_have : (tables : List Table) (store : Bool) (cs : List Commit) (fs : List Logged) → AllByRecursion (EachWrite P tables store) cs → AllByRecursion (LoggedHas tables store) fs → AllByRecursion (EachWrite P tables store) (cs ++ commits fs)
  more_have tables store cs fs so_far more = each_append (EachWrite P tables store) cs (commits fs) so_far (each_map (EachWrite P tables store) (λ (f : Logged). f.commit) fs more)

  group_has : (s u : LogPosition) (head : Head) (mem store : List Logged) (next : ℕ) → group_of s head mem store next ≡ Ok u → AllByRecursion (LoggedHas s.catalog false) mem → AllByRecursion (LoggedHas s.catalog true) store → CommitsHave P s → CommitsHave P u
  unfolding group_of
  group_has s u head mem store next e in_mem in_store have =
      let both = bind_ok (halves (store_file s.set) (anchor_file s.set) (filter is_cross store) (filter is_cross mem)) _ _ e in
      subst (CommitsHave P) (ok_is _ _ both.2) (record { mem = more_have s.catalog false s.mem mem have.mem in_mem; store = more_have s.catalog true s.store store have.store in_store })

  turn_has : (one two : List ℕ) (s u : LogPosition) → turn one two s ≡ Ok (Some u) → CommitsHave P s → CommitsHave P u
  turn_has one two s u e have =
      let t = turned one two s u e in
      let w = went one two s u t.next t.is_group in
      group_has s u w.body.0 w.body.1 w.store t.next w.is_group (body_of_has s t.next _ w.body w.is_body) (stored_of_has s w.body.0 _ w.store w.is_store) have

  -- of both logs all commits have it
  pub turns_have : (n : ℕ) (one two : List ℕ) (s t : LogPosition) → turns n one two s ≡ Ok t → CommitsHave P s → CommitsHave P t
  turns_have zero one two s t e have = absurd (no_turns one two s t e)
  turns_have (suc n) one two s t e have = elim (turn_cases n one two s t e) [
    | inl here ↦ subst (CommitsHave P) here.1 have
    | inr on ↦ turns_have n one two on.0 t on.2 (turn_has one two s on.0 on.1 have)
  ]
