-- The commits that an engine lists are the ones of its table.
use Rattle.std.specs.Prelude.{◌≡◌, ℕ, zero, suc, ◌<◌, ◌≤◌, ◌-◌, List, [], ◌∷◌, ◌++◌, Option, Some, None, Result, Ok, Err, Bool, true, false, ◌&&◌, ◌⊎◌, nat_lt, nat_le, map, take, drop, slice_get, length, IfSome}
use Rattle.std.proofs.Common.{inl, inr, refl, sym, ap, subst, ◌∙◌, ⊎_elim, arith}
use Rattle.std.specs.List.{filter}
use Rattle.std.proofs.lemmas.Bool.{cases_Bool, cases_lt, and_parts, and_from, cond-true, false≢true, lt-ltb, le-ltb, le-leb, leb-true}
use Rattle.std.proofs.lemmas.Grind.{flat_map-append}
use Rattle.std.proofs.lemmas.List.Elements.{filter-append}
use Rattle.std.proofs.Math.Bool.{and-false}
use Rattle.sk_rows.specs.declared.table.Table.{Table}
use Rattle.sk_model.specs.declared.label.Label.{Label}
use Rattle.sk_model.specs.declared.engine.EngineName.{EngineName}
use Rattle.sk_model.specs.declared.commit.Write.{Write}
use Rattle.sk_model.specs.declared.commit.Commit.{Commit}
use Rattle.sk_model.specs.declared.call.EngineCall.{EngineCall}
use Rattle.sk_model.specs.declared.call.EngineCall.TheVariants as call
use Rattle.sk_model.specs.declared.call.EngineFault.{EngineFault}
use Rattle.sk_model.specs.declared.call.EngineFault.TheVariants as fault
use Rattle.sk_model.specs.declared.call.EngineReply.TheVariants.{Commits, Fault}
use Rattle.sk_model.specs.Database.{row_of, net}
use Rattle.sk_model.specs.Numbers.{Rises}
use Rattle.sk_model.specs.Engine.{EngineTable, Version}
use Rattle.sk_model.specs.EngineReplies.{answer_of, commit_of, commits_between, is_stamped_with, mem_number, store_number}
use Rattle.sk_model.specs.EngineConditions.{may, empty_of}
use Rattle.sk_model.proofs.Lists.{Each, each_front, each_end, each_filter, each_map, each_weaker, filter_twice}
use Rattle.sk_model.proofs.Numbered.{filter_none}
use Rattle.sk_model.proofs.Nets.{each_net}
use Rattle.sk_model.specs.Resembling.{Resembles, RowFits, CommitFits, numbered}
use Rattle.sk_chain.specs.Promise.{Replies, replied}
use Rattle.sk_engine.specs.declared.book.Book.{Book}
use Rattle.sk_engine.specs.declared.row_id.RowId.{RowId}
use Rattle.sk_engine.specs.declared.numbers.Number.{Number}
use Rattle.sk_engine.specs.Rows.{Chains}
use Rattle.sk_engine.specs.Counts.{Used, used, number_in, stamped_in, stamped_of, Wrote}
use Rattle.sk_engine.specs.Recording.{Alike, IsWrite, IsCommit, Yields, write_given, commit_by, commits_given}
use Rattle.sk_engine.specs.Engines.{StandsBy, VersionFits}
use Rattle.sk_engine.proofs.Serving.{LeavesTable, due_reply, after_asked}
use Rattle.sk_engine.proofs.Numbering.{some_one, each_stamped}
use Rattle.sk_engine.proofs.Netted.{net_given, filter_all}
use Rattle.sk_engine.proofs.Purged.{parts_of}

-- ---- which numbers are asked for

front_upto : (q low k : ℕ) (ns : List Number) → Rises number_in low (map used ns) → k < length ns → IfSome (slice_get ns k) (λ (u : Number). u.n ≤ q) → Each (λ (u : Used). u.n ≤ q) (map used (take (suc k) ns))
front_upto q low k [] r l h = tt
front_upto q low zero (x ∷ xs) r l h = (h, tt)
front_upto q low (suc k) (x ∷ []) r l h = absurd (omega (arith, l))
front_upto q low (suc k) (x ∷ y ∷ ys) r l h =
    let rest : Each (λ (u : Used). u.n ≤ q) (map used (take (suc k) (y ∷ ys))) = front_upto q r.0 k (y ∷ ys) r.3 (omega (arith, l)) h in
    let here : x.n ≡ r.0 = some_one x.n r.0 r.1 in
    let next : y.n ≡ r.3.0 = some_one y.n r.3.0 r.3.1 in
    let l : r.0 < r.3.0 = r.3.2 in
    let k : y.n ≤ q = rest.0 in
    (omega arith, rest)

pub all_upto : (q low k : ℕ) (ns : List Number) → Rises number_in low (map used ns) → k ≤ length ns → (k ≡ 0) ⊎ IfSome (slice_get ns (k - 1)) (λ (u : Number). u.n ≤ q) → Each (λ (u : Used). u.n ≤ q) (map used (take k ns))
all_upto q low zero ns r l h = tt
all_upto q low (suc k) ns r l h = ⊎_elim
    (λ (z : suc k ≡ 0). absurd (omega (arith, z)))
    (λ (at : IfSome (slice_get ns (suc k - 1)) (λ (u : Number). u.n ≤ q)). front_upto q low k ns r (omega (arith, l)) (subst (λ j. IfSome (slice_get ns j) (λ (u : Number). u.n ≤ q)) (down k) at))
    h
  where
    down : (k : ℕ) → suc k - 1 ≡ k
    down k = omega arith

each_past : (q low : ℕ) (us : List Used) → q ≤ low → Rises number_in low us → Each (λ (u : Used). q < u.n) us
each_past q low [] l r = tt
each_past q low (u ∷ us) l r =
    let here : u.n ≡ r.0 = some_one u.n r.0 r.1 in
    let k : low < r.0 = r.2 in
    (omega arith, each_past q r.0 us (omega arith) r.3)

pub all_past : (q low k : ℕ) (ns : List Number) → Rises number_in low (map used ns) → IfSome (slice_get ns k) (λ (u : Number). q < u.n) → Each (λ (u : Used). q < u.n) (map used (drop k ns))
all_past q low zero [] r h = tt
all_past q low (suc k) [] r h = tt
all_past q low zero (x ∷ xs) r h =
    let here : x.n ≡ r.0 = some_one x.n r.0 r.1 in
    let l : q < x.n = h in
    (h, each_past q r.0 (map used xs) (omega arith) r.3)
all_past q low (suc k) (x ∷ xs) r h = all_past q r.0 k xs r.3 h

pub rises_drop : (low k : ℕ) (ns : List Number) → Rises number_in low (map used ns) → (m : ℕ) × Rises number_in m (map used (drop k ns))
rises_drop low zero ns r = (low, r)
rises_drop low (suc k) [] r = (low, tt)
rises_drop low (suc k) (x ∷ xs) r = rises_drop r.0 k xs r.3

-- ---- the commits of the table

abbrev between : ℕ → ℕ → ℕ × Label → Bool
between from to x = nat_lt from x.0 && nat_le x.0 to

past_to : (a b : ℕ) → b < a → nat_le a b ≡ false
past_to a b l = grind (arith, l)

later_only : (p from to : ℕ) (x : ℕ × Label) → p ≤ from → (nat_lt p x.0 && between from to x) ≡ between from to x
later_only p from to x le = ⊎_elim
    (λ (l : from < x.0). ap (λ b. b && between from to x) (lt-ltb p x.0 (omega arith)))
    (λ (g : x.0 ≤ from). let off : nat_lt from x.0 ≡ false = le-ltb from x.0 g in rw off (and-false (nat_lt p x.0)))
    (cases_lt from x.0)

stamped_between : (from to : ℕ) (front asked back : List Used) → Each (λ (u : Used). u.n ≤ from) front → Each (λ (u : Used). from < u.n) asked → Each (λ (u : Used). u.n ≤ to) asked → Each (λ (u : Used). to < u.n) back
    → filter (between from to) (stamped_of (front ++ (asked ++ back))) ≡ stamped_of asked
stamped_between from to front asked back f a b l =
    ap (filter (between from to)) (flat_map-append (λ u. stamped_in u u.wrote) front (asked ++ back) ∙ ap (λ xs. stamped_of front ++ xs) (flat_map-append (λ u. stamped_in u u.wrote) asked back))
    ∙ filter-append (between from to) (stamped_of front) (stamped_of asked ++ stamped_of back) ∙ ap (λ xs. filter (between from to) (stamped_of front) ++ xs) (filter-append (between from to) (stamped_of asked) (stamped_of back))
    ∙ ap (λ xs. xs ++ (filter (between from to) (stamped_of asked) ++ filter (between from to) (stamped_of back)))
    (filter_none (between from to) (stamped_of front) (each_weaker _ _ (λ (x : ℕ × Label) (g : x.0 ≤ from). ap (λ b. b && nat_le x.0 to) (le-ltb from x.0 g)) (stamped_of front) (each_stamped (λ n. n ≤ from) front f)))
    ∙ ap (λ xs. filter (between from to) (stamped_of asked) ++ xs)
    (filter_none (between from to) (stamped_of back) (each_weaker _ _ (λ (x : ℕ × Label) (g : to < x.0). ap (λ b. nat_lt from x.0 && b) (past_to x.0 to g) ∙ and-false (nat_lt from x.0)) (stamped_of back) (each_stamped (λ n. to < n) back l)))
    ∙ end_none (filter (between from to) (stamped_of asked))
    ∙ filter_all (between from to) (stamped_of asked) (both (stamped_of asked) (each_stamped (λ n. from < n) asked a) (each_stamped (λ n. n ≤ to) asked b))
  where
    end_none : {X : Type 0} (xs : List X) → xs ++ [] ≡ xs
    end_none [] = refl
    end_none (x ∷ xs) = ap (λ ys. x ∷ ys) (end_none xs)

    both : (xs : List (ℕ × Label)) → Each (λ (x : ℕ × Label). from < x.0) xs → Each (λ (x : ℕ × Label). x.0 ≤ to) xs → Each (λ (x : ℕ × Label). between from to x ≡ true) xs
    both [] h k = tt
    both (x ∷ xs) h k = (and_from _ _ (lt-ltb from x.0 h.0) (le-leb x.0 to k.0), both xs h.1 k.1)

commits_fit : (e : EngineTable) → Each (VersionFits e.catalog) e.versions → (xs : List (ℕ × Label)) → Each (CommitFits e.catalog) (map (commit_of e) xs)
commits_fit e h [] = tt
commits_fit e h (x ∷ xs) =
    let vs : List Version = filter (is_stamped_with x.0) e.versions in (
      each_net (λ (w : Write). RowFits e.catalog w.table w.key w.row) (map (λ (v : Version). v.write) vs)
          (each_map (λ (w : Write). RowFits e.catalog w.table w.key w.row) (λ (v : Version). v.write) vs (each_filter (VersionFits e.catalog) (VersionFits e.catalog) (is_stamped_with x.0) (λ v t f. f) e.versions h)),
      commits_fit e h xs,
    )

-- ---- lists that are alike

module _ (told : Bool) (tables : List Table) where
  exact_writes : told ≡ true → (ds ws : List Write) → Alike (IsWrite told tables) ds ws → ds ≡ ws
  exact_writes t [] [] h = refl
  exact_writes t [] (w ∷ ws) h = absurd h
  exact_writes t (d ∷ ds) [] h = absurd h
  exact_writes t (d ∷ ds) (w ∷ ws) h =
      let one : d ≡ w = ⊎_elim (λ (e : d ≡ w). e) (λ (u : (told ≡ false) × RowFits tables w.table w.key w.row). absurd (false≢true (sym u.0 ∙ t))) h.0 in
      let rest : ds ≡ ws = exact_writes t ds ws h.1 in
      λ i. one i ∷ rest i

  exact : told ≡ true → (ds cs : List Commit) → Alike (IsCommit told tables) ds cs → ds ≡ cs
  exact t [] [] h = refl
  exact t [] (c ∷ cs) h = absurd h
  exact t (d ∷ ds) [] h = absurd h
  exact t (d ∷ ds) (c ∷ cs) h =
      let named : numbered d ≡ numbered c = sym h.0.0 in
      let writes : d.writes ≡ c.writes = exact_writes t d.writes c.writes h.0.1 in
      let one : d ≡ c = λ i. record { label = (named i).0; mem = (named i).1; store = (named i).2; writes = writes i } in
      let rest : ds ≡ cs = exact t ds cs h.1 in
      λ i. one i ∷ rest i

  fit_writes : (ds ws : List Write) → Each (λ (w : Write). RowFits tables w.table w.key w.row) ds → Alike (IsWrite told tables) ds ws → Each (λ (w : Write). RowFits tables w.table w.key w.row) ws
  fit_writes [] [] f h = tt
  fit_writes [] (w ∷ ws) f h = absurd h
  fit_writes (d ∷ ds) [] f h = absurd h
  fit_writes (d ∷ ds) (w ∷ ws) f h = (
    ⊎_elim (λ (e : d ≡ w). subst (λ (w : Write). RowFits tables w.table w.key w.row) e f.0) (λ (u : (told ≡ false) × RowFits tables w.table w.key w.row). u.1) h.0,
    fit_writes ds ws f.1 h.1,
  )

  fits : (ds cs : List Commit) → Each (CommitFits tables) ds → Alike (IsCommit told tables) ds cs → (map numbered cs ≡ map numbered ds) × Each (CommitFits tables) cs
  fits [] [] f h = (refl, tt)
  fits [] (c ∷ cs) f h = absurd h
  fits (d ∷ ds) [] f h = absurd h
  fits (d ∷ ds) (c ∷ cs) f h =
      let rest = fits ds cs f.1 h.1 in
      ((λ i. h.0.0 i ∷ rest.0 i), (fit_writes d.writes c.writes f.0 h.0.1, rest.1))

module _ (name : EngineName) (told : Bool) (before now : ℕ) (shown then : List Table → Chains → Type 0) (b : Book) (e : EngineTable) (h : StandsBy name shown b e) where
  commits_are : (us : List Used) → Each (λ (u : Used). b.purged ≤ u.n) us → Each (λ (u : Used). IfSome u.wrote (Wrote e.versions u.n)) us → map (commit_of e) (stamped_of us) ≡ commits_given name h.chains us
  commits_are [] l w = refl
  commits_are (u ∷ us) l w = go u.wrote w.0 (commits_are us l.1 w.1)
    where
      go : (o : Option (List RowId)) → IfSome o (Wrote e.versions u.n) → map (commit_of e) (stamped_of us) ≡ commits_given name h.chains us
          → map (commit_of e) (stamped_in u o ++ stamped_of us) ≡ commit_by name h.chains u o ++ commits_given name h.chains us
      go None w ih = ih
      go (Some row_ids) w ih =
          let ws : net (map (λ (v : Version). v.write) (filter (is_stamped_with u.n) e.versions)) ≡ map (write_given h.chains u.n) row_ids =
          net_given e.greatest b.purged u.n (row_of e.rows) e.versions h.chains row_ids h.stands.rows h.sound.good.ordered h.sound.good.timed l.0 w in
          λ i. record { label = u.by; mem = mem_number (h.sound.named i) u.n; store = store_number (h.sound.named i) u.n; writes = ws i } ∷ ih i

  commits_due : (from to : ℕ) (front asked back : List Used) → b.purged ≤ from → map used b.numbers.items ≡ front ++ (asked ++ back)
      → Each (λ (u : Used). u.n ≤ from) front → Each (λ (u : Used). from < u.n) asked → Each (λ (u : Used). u.n ≤ to) asked → Each (λ (u : Used). to < u.n) back
      → Each (λ (u : Used). IfSome u.wrote (Wrote e.versions u.n)) asked → commits_between e from to ≡ commits_given name h.chains asked
  commits_due from to front asked back le parts f a t l w =
      ap (map (commit_of e))
      (sym (filter_twice (between from to) (λ x. nat_lt b.purged x.0) (between from to) (λ x. later_only b.purged from to x le) e.stamped)
      ∙ ap (filter (between from to)) (h.counts.stamped ∙ ap stamped_of parts) ∙ stamped_between from to front asked back f a t l)
      ∙ commits_are asked (each_weaker (λ (u : Used). from < u.n) (λ (u : Used). b.purged ≤ u.n) (λ u k. omega (arith, k, le)) asked a) w

  pub serve_records : (from to : ℕ) (front asked back : List Used) (o : Result (List Commit) EngineFault) → map used b.numbers.items ≡ front ++ (asked ++ back)
      → Each (λ (u : Used). u.n ≤ from) front → Each (λ (u : Used). from < u.n) asked → Each (λ (u : Used). u.n ≤ to) asked → Each (λ (u : Used). to < u.n) back
      → Each (λ (u : Used). IfSome u.wrote (Wrote e.versions u.n)) asked
      → ((tables : List Table) (chains : Chains) → shown tables chains → then tables chains)
      → ((tables : List Table) (chains : Chains) → shown tables chains → Yields before now (Alike (IsCommit told tables) (commits_given name chains asked)) o)
      → may e (call.Records from to) ≡ true → LeavesTable told before now (StandsBy name then b) e (call.Records from to) (replied Commits o)
  serve_records from to front asked back o parts f a t l w keeps gives m = go o (gives e.catalog h.chains h.shows)
    where
      c : EngineCall
      c = call.Records from to

      kept : StandsBy name then b e
      kept = record { sound = h.sound; chains = h.chains; shows = keeps e.catalog h.chains h.shows; stands = h.stands; counts = h.counts; room = h.room }

      le : b.purged ≤ from
      le = subst (λ p. p ≤ from) (sym h.stands.purged) (leb-true e.purged from (and_parts (nat_le e.purged from) _ m).0)

      answer : commits_between e from to ≡ commits_given name h.chains asked
      answer = commits_due from to front asked back le parts f a t l w

      right : (cs : List Commit) → Alike (IsCommit told e.catalog) (commits_given name h.chains asked) cs → Replies told before now e c (Commits cs)
      right cs k = ⊎_elim
          (λ (y : told ≡ true). due_reply told before now e c (Commits cs) m (ap Commits (answer ∙ exact told e.catalog y (commits_given name h.chains asked) cs k)))
          (λ (n : told ≡ false).
          let like : (map numbered cs ≡ map numbered (commits_between e from to)) × Each (CommitFits e.catalog) cs =
          fits told e.catalog (commits_between e from to) cs (commits_fit e h.sound.fit (filter (between from to) e.stamped)) (subst (λ ds. Alike (IsCommit told e.catalog) ds cs) (sym answer) k) in
          inr (inr (n, subst (λ x. Resembles e.catalog c x (Commits cs)) (sym (cond-true (may e c) (answer_of e c) (empty_of c) m)) like)))
          (cases_Bool told)

      go : (o : Result (List Commit) EngineFault) → Yields before now (Alike (IsCommit told e.catalog) (commits_given name h.chains asked)) o → LeavesTable told before now (StandsBy name then b) e c (replied Commits o)
      go (Ok cs) k = (right cs k, after_asked (StandsBy name then b) e c (Commits cs) refl kept)
      go (Err (fault.Old x y)) k = absurd k
      go (Err (fault.Busy by)) k = absurd k
      go (Err (fault.Conflict by why)) k = absurd k
      go (Err fault.Device) k = (inl (refl, refl, k), after_asked (StandsBy name then b) e c (Fault fault.Device) refl kept)
      go (Err fault.NoMemory) k = kept

  -- the numbers as they were looked up: xs are all, ys those past `from`, and zs of these the ones up to `to`
  pub serve_listed : (from to i j : ℕ) (xs ys zs : List Number) (o : Result (List Commit) EngineFault) → xs ≡ b.numbers.items → ys ≡ drop i b.numbers.items → zs ≡ take j (drop i b.numbers.items)
      → i ≤ length xs → (i ≡ 0) ⊎ IfSome (slice_get xs (i - 1)) (λ (u : Number). u.n ≤ from) → IfSome (slice_get xs i) (λ (u : Number). from < u.n)
      → j ≤ length ys → (j ≡ 0) ⊎ IfSome (slice_get ys (j - 1)) (λ (u : Number). u.n ≤ to) → IfSome (slice_get ys j) (λ (u : Number). to < u.n)
      → ((tables : List Table) (chains : Chains) → shown tables chains → then tables chains)
      → ((tables : List Table) (chains : Chains) → shown tables chains → Yields before now (Alike (IsCommit told tables) (commits_given name chains (map used zs))) o)
      → may e (call.Records from to) ≡ true → LeavesTable told before now (StandsBy name then b) e (call.Records from to) (replied Commits o)
  serve_listed from to i j xs ys zs o all rest some within below behind within_rest before_rest behind_rest keeps gives m =
      let ns : List Number = b.numbers.items in
      let ds : List Number = drop i ns in
      let low = rises_drop b.purged i ns h.counts.rising in
      let past : Each (λ (u : Used). from < u.n) (map used ds) = all_past from b.purged i ns h.counts.rising (subst (λ zs. IfSome (slice_get zs i) (λ (u : Number). from < u.n)) all behind) in
      let wrote : Each (λ (u : Used). IfSome u.wrote (Wrote e.versions u.n)) (map used ds) =
      each_end (λ (u : Used). IfSome u.wrote (Wrote e.versions u.n)) (map used (take i ns)) (map used ds) (subst (Each (λ (u : Used). IfSome u.wrote (Wrote e.versions u.n))) (parts_of i ns) h.counts.wrote) in
      serve_records from to (map used (take i ns)) (map used (take j ds)) (map used (drop j ds)) o
      (parts_of i ns ∙ ap (λ us. map used (take i ns) ++ us) (parts_of j ds))
      (all_upto from b.purged i ns h.counts.rising (subst (λ zs. i ≤ length zs) all within) (subst (λ zs. (i ≡ 0) ⊎ IfSome (slice_get zs (i - 1)) (λ (u : Number). u.n ≤ from)) all below))
      (each_front (λ (u : Used). from < u.n) (map used (take j ds)) (map used (drop j ds)) (subst (Each (λ (u : Used). from < u.n)) (parts_of j ds) past))
      (all_upto to low.0 j ds low.1 (subst (λ zs. j ≤ length zs) rest within_rest) (subst (λ zs. (j ≡ 0) ⊎ IfSome (slice_get zs (j - 1)) (λ (u : Number). u.n ≤ to)) rest before_rest))
      (all_past to low.0 j ds low.1 (subst (λ zs. IfSome (slice_get zs j) (λ (u : Number). to < u.n)) rest behind_rest))
      (each_front (λ (u : Used). IfSome u.wrote (Wrote e.versions u.n)) (map used (take j ds)) (map used (drop j ds)) (subst (Each (λ (u : Used). IfSome u.wrote (Wrote e.versions u.n))) (parts_of j ds) wrote))
      keeps (λ tables chains k. subst (λ xs. Yields before now (Alike (IsCommit told tables) (commits_given name chains (map used xs))) o) some (gives tables chains k)) m
