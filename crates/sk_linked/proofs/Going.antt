-- A transaction goes on by some calls, draws a number, passes its check or stamps: it belongs to the traces still.
use Rattle.std.specs.Prelude.{ℕ, List, [], ◌∷◌, ◌++◌, Some, None, Bool, true, false, not, ◌&&◌, ◌||◌, ◌≡◌, ◌<◌, ◌⊎◌}
use Rattle.std.proofs.Common.{refl, sym, ap, subst, ◌∙◌, inl, inr, ⊎_elim}
use Rattle.std.specs.List.{filter, list_any}
use Rattle.std.proofs.lemmas.Bool.{cond-true, false≢true}
use Rattle.std.proofs.lemmas.List.{append-nil, append_assoc}
use Rattle.std.proofs.lemmas.List.Concat.{flat_map-append}
use Rattle.std.proofs.lemmas.List.Elements.{filter-append}
use Rattle.std.proofs.Math.Bool.{or-true}
use Rattle.sk_model.specs.declared.label.Label.{Label}
use Rattle.sk_model.specs.declared.engine.EngineName.{EngineName}
use Rattle.sk_model.specs.declared.engine.EngineName.TheVariants.{Mem, Store}
use Rattle.sk_model.specs.declared.point.Point.{Point}
use Rattle.sk_model.specs.declared.call.EngineCall.{EngineCall}
use Rattle.sk_model.specs.declared.call.EngineCall.TheVariants as call
use Rattle.sk_model.specs.declared.call.EngineReply.{EngineReply}
use Rattle.sk_model.specs.declared.call.Entry.{Entry}
use Rattle.sk_model.specs.Records.{some_writes}
use Rattle.sk_model.specs.Calls.{ends}
use Rattle.sk_model.specs.Talks.{OwnCall, Talk, calls_in, wrote_in, tx_of, is_tx, is_by, entries_by}
use Rattle.sk_model.proofs.Lists.{Each, each_append, each_weaker, each_both, each_front}
use Rattle.sk_model.proofs.Labels.{same_itself}
use Rattle.sk_weave.specs.Points.{commit_point}
use Rattle.sk_weave.specs.Woven.{At}
use Rattle.sk_linked.specs.Reads.{Snapshots, snapshot_at, PairIf, number_at}
use Rattle.sk_linked.specs.Traces.{Drawn, drawn_at, Transaction, Traces, stamp_entry, is_stamp, has_stamped, stamp_if, owed_by, IsOwn, opens, NotAgain, close_entry, Drew, Belongs, open_entry, In}
use Rattle.sk_linked.specs.Invariant.{Shut}
use Rattle.sk_linked.proofs.Projection.{cons_head, cons_tail, nil_append}
use Rattle.sk_linked.proofs.Members.{some_clash, some_same, in_front, in_append}
use Rattle.sk_linked.proofs.Grounds.{filter_pass}
use Rattle.sk_linked.proofs.Growing.{at_more, pair_more, grown}

pub again_none : (tx : Label) (ys : List Entry) → Each (λ (j : Entry). opens tx j.call ≡ false) ys → NotAgain tx ys
again_none tx [] h = tt
again_none tx (y ∷ ys) h = ((λ e. h.1), again_none tx ys h.1)

pub again_append : (tx : Label) (xs ys : List Entry) → NotAgain tx xs → Each (λ (j : Entry). opens tx j.call ≡ false) ys → NotAgain tx (xs ++ ys)
again_append tx [] ys h k = again_none tx ys k
again_append tx (x ∷ xs) ys h k = ((λ e. each_append _ xs ys (h.0 e) k), again_append tx xs ys h.1 k)

pub calls_more : (s : EngineName) (xs ys : Talk) → calls_in s (xs ++ ys) ≡ calls_in s xs ++ calls_in s ys
calls_more s xs ys = flat_map-append _ xs ys

filter_all : (p : Entry → Bool) (xs : List Entry) → Each (λ j. p j ≡ true) xs → filter p xs ≡ xs
filter_all p [] h = refl
filter_all p (x ∷ xs) h = cond-true (p x) (x ∷ filter p xs) (filter p xs) h.0 ∙ ap (λ ys. x ∷ ys) (filter_all p xs h.1)

-- the entries of a transaction behind its journals
pub entries_more : (s : EngineName) (l : Label) (js es : List Entry) (talk added : Talk) → entries_by l js ≡ calls_in s talk → es ≡ calls_in s added → Each (λ (j : Entry). is_by l j ≡ true) es → entries_by l (js ++ es) ≡ calls_in s (talk ++ added)
entries_more s l js es talk added e is own =
    filter-append (is_by l) js es ∙ ap (λ xs. xs ++ entries_by l es) e ∙ ap (λ xs. calls_in s talk ++ xs) (filter_all (is_by l) es own ∙ is) ∙ sym (calls_more s talk added)

-- a call stays the transaction's where its snapshots, numbers and commit stay
pub own_stays : (t u : Transaction) → ((s : EngineName) (n : ℕ) → snapshot_at s t.snapshots ≡ Some n → snapshot_at s u.snapshots ≡ Some n) → ((s : EngineName) (n : ℕ) → drawn_at s t.drew ≡ Some n → drawn_at s u.drew ≡ Some n)
    → (t.committed ≡ true → u.committed ≡ true) → (s : EngineName) (c : EngineCall) (reply : EngineReply) → IsOwn t s c reply → IsOwn u s c reply
own_stays t u f g k s (call.Open tx n) reply h = λ r. f s n (h r)
own_stays t u f g k s (call.Get tx v key) reply h = tt
own_stays t u f g k s (call.Scan tx v) reply h = tt
own_stays t u f g k s (call.Put tx v key row) reply h = tt
own_stays t u f g k s (call.Close tx) reply h = tt
own_stays t u f g k s (call.Stamp tx n) reply h = (g s n h.0, k h.1)
own_stays t u f g k s (call.Void tx n) reply h = g s n h
own_stays t u f g k s (call.DropTx tx) reply h = tt
own_stays t u f g k s call.Horizon reply h = tt
own_stays t u f g k s (call.Records from to) reply h = tt
own_stays t u f g k s (call.Purge upto) reply h = tt

abbrev pub IsOwnCall : Transaction → OwnCall → Type 0
IsOwnCall t c = IsOwn t c.engine c.entry.call c.entry.reply

pub own_all_stay : (t u : Transaction) → ((s : EngineName) (n : ℕ) → snapshot_at s t.snapshots ≡ Some n → snapshot_at s u.snapshots ≡ Some n) → ((s : EngineName) (n : ℕ) → drawn_at s t.drew ≡ Some n → drawn_at s u.drew ≡ Some n)
    → (t.committed ≡ true → u.committed ≡ true) → (talk : Talk) → Each (IsOwnCall t) talk → Each (IsOwnCall u) talk
own_all_stay t u f g k talk h = each_weaker (IsOwnCall t) (IsOwnCall u) (λ c q. own_stays t u f g k c.engine c.entry.call c.entry.reply q) talk h

-- ---- calls before a commit

-- the transaction with these snapshots and these points made, behind these calls
abbrev pub gone : Transaction → Snapshots → List Point → Talk → Transaction
gone t snapshots made added = record t { snapshots = snapshots; made = made; talk = t.talk ++ added }

module _ (h : Traces) (t : Transaction) (es : EngineName → List Entry) (more : List Point) (snapshots : Snapshots) (made : List Point) (added : Talk) where
  pub record Goes : Type 0 where
    pub live : t.committed ≡ false
    pub left : (s : EngineName) → es s ≡ calls_in s added
    pub by : (s : EngineName) → Each (λ (j : Entry). is_by t.label j ≡ true) (es s)
    pub snapshot_stays : (s : EngineName) (n : ℕ) → snapshot_at s t.snapshots ≡ Some n → snapshot_at s snapshots ≡ Some n
    pub opened : (s : EngineName) (n : ℕ) → snapshot_at s snapshots ≡ Some n → (snapshot_at s t.snapshots ≡ Some n) ⊎ In (open_entry t.label n) (es s)
    pub own : Each (IsOwnCall (gone t snapshots made added)) added
    pub again : (s : EngineName) → Each (λ (j : Entry). opens t.label j.call ≡ false) (es s) ⊎ ((calls_in s t.talk ≡ []) × NotAgain t.label (es s))
    pub pair : PairIf (h.first ∷ (h.points ++ more)) snapshots.mem snapshots.store
    pub selections : Each (λ (q : Point). q.commit ≡ false) more

  pub goes_on : Belongs h t → Goes → Belongs (grown h (gone t snapshots made added) es more) (gone t snapshots made added)
  goes_on k g = record {
    entries = λ s. entries_more s t.label (h.journals s) (es s) t.talk added (k.entries s) (g.left s) (g.by s);
    own = each_append (IsOwnCall (gone t snapshots made added)) t.talk added (own_all_stay t (gone t snapshots made added) g.snapshot_stays (λ s n e. e) (λ e. e) t.talk k.own) g.own;
    again = λ s. subst (NotAgain t.label) (ap (λ xs. calls_in s t.talk ++ xs) (g.left s) ∙ sym (calls_more s t.talk added)) (again s (g.again s));
    pair = g.pair;
    past = k.past;
    drew = λ s n e.
        let d : Drew t s n = k.drew s n e in
        record {
          before = d.before;
          floor = d.floor;
          tail = d.tail ++ calls_in s added;
          is = calls_more s t.talk added ∙ ap (λ xs. xs ++ calls_in s added) d.is ∙ append_assoc d.before (close_entry t.label d.floor ∷ d.tail) (calls_in s added);
          none_ends = d.none_ends;
          past = d.past;
          wrote = d.wrote;
          once = λ c. absurd (false≢true (sym g.live ∙ c));
        };
    silent = λ s c. absurd (false≢true (sym g.live ∙ c));
    opened = λ s n q. subst (λ xs. In (open_entry t.label n) xs) (ap (λ xs. calls_in s t.talk ++ xs) (g.left s) ∙ sym (calls_more s t.talk added)) (⊎_elim
        (λ (o : snapshot_at s t.snapshots ≡ Some n). in_front (open_entry t.label n) (calls_in s t.talk) (es s) (k.opened s n o))
        (λ (o : In (open_entry t.label n) (es s)). in_append (open_entry t.label n) (calls_in s t.talk) (es s) o)
        (g.opened s n q));
    alone = λ s x n e c. absurd (false≢true (sym g.live ∙ c));
    crossed = λ a b c. absurd (false≢true (sym g.live ∙ c));
    paired = each_append (λ (q : Point). q.commit ≡ true → t.drew.mem ≡ Some q.a → t.drew.store ≡ Some q.b) h.points more k.paired
        (each_weaker (λ (q : Point). q.commit ≡ false) (λ (q : Point). q.commit ≡ true → t.drew.mem ≡ Some q.a → t.drew.store ≡ Some q.b) (λ (q : Point) f c. absurd (false≢true (sym f ∙ c))) more g.selections);
  }
    where
      again : (s : EngineName) → Each (λ (j : Entry). opens t.label j.call ≡ false) (es s) ⊎ ((calls_in s t.talk ≡ []) × NotAgain t.label (es s)) → NotAgain t.label (calls_in s t.talk ++ es s)
      again s o = ⊎_elim
          (λ (x : Each (λ (j : Entry). opens t.label j.call ≡ false) (es s)). again_append t.label (calls_in s t.talk) (es s) (k.again s) x)
          (λ (x : (calls_in s t.talk ≡ []) × NotAgain t.label (es s)). subst (λ xs. NotAgain t.label (xs ++ es s)) (sym x.0) x.1)
          o

-- ---- a first call

-- a transaction that begins: no entry has its label yet
module _ (h : Traces) (t : Transaction) (es : EngineName → List Entry) where
  pub record Begins : Type 0 where
    pub live : t.committed ≡ false
    pub undrawn : (s : EngineName) → drawn_at s t.drew ≡ None
    pub fresh : (s : EngineName) → entries_by t.label (h.journals s) ≡ []
    pub left : (s : EngineName) → es s ≡ calls_in s t.talk
    pub by : (s : EngineName) → Each (λ (j : Entry). is_by t.label j ≡ true) (es s)
    pub opened : (s : EngineName) (n : ℕ) → snapshot_at s t.snapshots ≡ Some n → In (open_entry t.label n) (es s)
    pub own : Each (IsOwnCall t) t.talk
    pub again : (s : EngineName) → NotAgain t.label (calls_in s t.talk)
    pub alone : PairIf (h.first ∷ (h.points ++ [])) t.snapshots.mem t.snapshots.store

  pub begins : Begins → Belongs (grown h t es []) t
  begins g = record {
    entries = λ s. filter-append (is_by t.label) (h.journals s) (es s) ∙ ap (λ xs. xs ++ entries_by t.label (es s)) (g.fresh s) ∙ filter_all (is_by t.label) (es s) (g.by s) ∙ g.left s;
    own = g.own;
    again = g.again;
    pair = g.alone;
    past = λ s n e. some_clash (sym e ∙ g.undrawn s);
    drew = λ s n e. some_clash (sym e ∙ g.undrawn s);
    silent = λ s c. absurd (false≢true (sym g.live ∙ c));
    opened = λ s n q. subst (λ xs. In (open_entry t.label n) xs) (g.left s) (g.opened s n q);
    alone = λ s x n e c. absurd (false≢true (sym g.live ∙ c));
    crossed = λ a b c. absurd (false≢true (sym g.live ∙ c));
    paired = all_paired (h.points ++ []);
  }
    where
      all_paired : (qs : List Point) → Each (λ (q : Point). q.commit ≡ true → t.drew.mem ≡ Some q.a → t.drew.store ≡ Some q.b) qs
      all_paired [] = tt
      all_paired (q ∷ qs) = ((λ c e. some_clash (sym e ∙ g.undrawn Mem)), all_paired qs)

-- ---- a commit

own_not_stamp : (l : Label) (c : EngineCall) → is_tx l (tx_of c) ≡ true → ends l c ≡ false → is_stamp c ≡ false
own_not_stamp l (call.Open tx k) b e = refl
own_not_stamp l (call.Get tx t key) b e = refl
own_not_stamp l (call.Scan tx t) b e = refl
own_not_stamp l (call.Put tx t key row) b e = refl
own_not_stamp l (call.Close tx) b e = refl
own_not_stamp l (call.Stamp tx m) b e = absurd (false≢true (sym e ∙ b))
own_not_stamp l (call.Void tx m) b e = refl
own_not_stamp l (call.DropTx tx) b e = refl
own_not_stamp l call.Horizon b e = refl
own_not_stamp l (call.Records from to) b e = refl
own_not_stamp l (call.Purge upto) b e = refl

none_any : {X : Type 0} (p : X → Bool) (xs : List X) → Each (λ x. p x ≡ false) xs → list_any p xs ≡ false
none_any p [] h = refl
none_any p (x ∷ xs) h = ap (λ b. b || list_any p xs) h.0 ∙ none_any p xs h.1

-- a stamp stands at the end
pub any_stamp : (l : Label) (n : ℕ) (xs : List Entry) → list_any (λ (j : Entry). is_stamp j.call) (xs ++ stamp_entry l n ∷ []) ≡ true
any_stamp l n [] = refl
any_stamp l n (x ∷ xs) = ap (λ b. is_stamp x.call || b) (any_stamp l n xs) ∙ or-true (is_stamp x.call)

-- no stamp stands before its close
pub none_stamped : (t : Transaction) (s : EngineName) (before : List Entry) (floor : ℕ) → Each (λ (j : Entry). is_by t.label j ≡ true) (before ++ close_entry t.label floor ∷ []) → Each (λ (j : Entry). ends t.label j.call ≡ false) before
    → list_any (λ (j : Entry). is_stamp j.call) (before ++ close_entry t.label floor ∷ []) ≡ false
none_stamped t s before floor by h = none_any (λ (j : Entry). is_stamp j.call) (before ++ close_entry t.label floor ∷ [])
    (each_append (λ (j : Entry). is_stamp j.call ≡ false) before (close_entry t.label floor ∷ [])
    (each_weaker _ (λ (j : Entry). is_stamp j.call ≡ false) (λ j k. own_not_stamp t.label j.call k.0 k.1) before (each_both (λ (j : Entry). is_by t.label j ≡ true) (λ (j : Entry). ends t.label j.call ≡ false) before (each_front _ before (close_entry t.label floor ∷ []) by) h))
    (refl, tt))

wrote_before : (before : List Entry) (l : Label) (floor : ℕ) → wrote_in (before ++ close_entry l floor ∷ []) ≡ wrote_in before
wrote_before before l floor = flat_map-append _ before (close_entry l floor ∷ []) ∙ append-nil (wrote_in before)

-- two cuts of a list at its first end
pub cut_same : (end : EngineCall → Bool) (xs ys : List Entry) (c d : Entry) (zs : List Entry) → xs ++ c ∷ zs ≡ ys ++ d ∷ [] → Each (λ (j : Entry). end j.call ≡ false) ys → end c.call ≡ true → zs ≡ []
cut_same end [] [] c d zs e h y = cons_tail e
cut_same end (x ∷ xs) [] c d zs e h y = nil_append xs c zs (sym (cons_tail e))
cut_same end [] (y ∷ ys) c d zs e h t = absurd (false≢true (sym h.0 ∙ ap (λ (j : Entry). end j.call) (sym (cons_head e)) ∙ t))
cut_same end (x ∷ xs) (y ∷ ys) c d zs e h t = cut_same end xs ys c d zs (cons_tail e) h.1 t

module _ (h : Traces) (t : Transaction) (k : Belongs h t) (live : t.committed ≡ false) where
  pub mine : (s : EngineName) → Each (λ (j : Entry). is_by t.label j ≡ true) (calls_in s t.talk)
  mine s = subst (λ xs. Each (λ (j : Entry). is_by t.label j ≡ true) xs) (k.entries s) (filter_pass (is_by t.label) (h.journals s))

  same_calls : (s : EngineName) → calls_in s (t.talk ++ []) ≡ calls_in s t.talk
  same_calls s = ap (calls_in s) (append-nil t.talk)

  no_more : (P : Point → Type 0) → Each P h.points → Each P (h.points ++ [])
  no_more P q = each_append P h.points [] q tt

  pair_here : PairIf (h.first ∷ (h.points ++ [])) t.snapshots.mem t.snapshots.store
  pair_here = subst (λ (qs : List Point). PairIf (h.first ∷ qs) t.snapshots.mem t.snapshots.store) (sym (append-nil h.points)) k.pair

  -- its close is its last call there
  tail_gone : (s : EngineName) (n : ℕ) → Shut t s → (d : Drew t s n) → d.tail ≡ []
  tail_gone s n w d = cut_same (ends t.label) d.before w.before (close_entry t.label d.floor) (close_entry t.label w.floor) d.tail (sym d.is ∙ w.is) w.none_ends (same_itself t.label)

  -- ---- it draws a number
  abbrev pub drawing : Drawn → Transaction
  drawing drew = record t { drew = drew; talk = t.talk ++ [] }

  pub record Draws (name : EngineName) (n : ℕ) (drew : Drawn) : Type 0 where
    pub kept : (s : EngineName) (m : ℕ) → drawn_at s t.drew ≡ Some m → drawn_at s drew ≡ Some m
    pub cases : (s : EngineName) (m : ℕ) → drawn_at s drew ≡ Some m → ((s ≡ name) × (m ≡ n)) ⊎ (drawn_at s t.drew ≡ Some m)
    pub shut : Shut t name
    pub wrote : some_writes (wrote_in (calls_in name t.talk)) ≡ true
    pub past : shut.floor < n
    pub first : number_at name h.first < n
    pub paired : Each (λ (q : Point). q.commit ≡ true → drew.mem ≡ Some q.a → drew.store ≡ Some q.b) h.points

  pub draws_on : (name : EngineName) (n : ℕ) (drew : Drawn) → Draws name n drew → Belongs (grown h (drawing drew) (λ s. []) []) (drawing drew)
  draws_on name n drew g = record {
    entries = λ s. entries_more s t.label (h.journals s) [] t.talk [] (k.entries s) refl tt;
    own = each_append (IsOwnCall (drawing drew)) t.talk [] (own_all_stay t (drawing drew) (λ s m e. e) g.kept (λ e. e) t.talk k.own) tt;
    again = λ s. subst (NotAgain t.label) (sym (same_calls s)) (k.again s);
    pair = pair_here;
    past = λ s m e. ⊎_elim
        (λ (c : (s ≡ name) × (m ≡ n)). subst (λ (x : EngineName). number_at x h.first < m) (sym c.0) (subst (λ x. number_at name h.first < x) (sym c.1) g.first))
        (λ (c : drawn_at s t.drew ≡ Some m). k.past s m c)
        (g.cases s m e);
    drew = λ s m e. ⊎_elim
        (λ (c : (s ≡ name) × (m ≡ n)). subst (λ (x : EngineName). Drew (drawing drew) x m) (sym c.0) (subst (λ x. Drew (drawing drew) name x) (sym c.1) new))
        (λ (c : drawn_at s t.drew ≡ Some m). old s m (k.drew s m c))
        (g.cases s m e);
    silent = λ s c. absurd (false≢true (sym live ∙ c));
    opened = λ s m q. subst (λ xs. In (open_entry t.label m) xs) (sym (same_calls s)) (k.opened s m q);
    alone = λ s x m e c. absurd (false≢true (sym live ∙ c));
    crossed = λ a b c. absurd (false≢true (sym live ∙ c));
    paired = no_more (λ (q : Point). q.commit ≡ true → drew.mem ≡ Some q.a → drew.store ≡ Some q.b) g.paired;
  }
    where
      new : Drew (drawing drew) name n
      new = record {
        before = g.shut.before;
        floor = g.shut.floor;
        tail = [];
        is = same_calls name ∙ g.shut.is;
        none_ends = g.shut.none_ends;
        past = g.past;
        wrote = ap some_writes (sym (wrote_before g.shut.before t.label g.shut.floor) ∙ ap wrote_in (sym g.shut.is)) ∙ g.wrote;
        once = λ c. absurd (false≢true (sym live ∙ c));
      }

      old : (s : EngineName) (m : ℕ) → Drew t s m → Drew (drawing drew) s m
      old s m d = record {
        before = d.before;
        floor = d.floor;
        tail = d.tail;
        is = same_calls s ∙ d.is;
        none_ends = d.none_ends;
        past = d.past;
        wrote = d.wrote;
        once = λ c. absurd (false≢true (sym live ∙ c));
      }

  -- ---- its check passes
  abbrev pub checked : List Point → Transaction
  checked made = record t { committed = true; made = made; talk = t.talk ++ [] }

  pub checks_on : (made : List Point) (ca cb : ℕ) → t.drew.mem ≡ Some ca → t.drew.store ≡ Some cb → ((s : EngineName) → Shut t s) → Belongs (grown h (checked made) (λ s. []) (commit_point ca cb ∷ [])) (checked made)
  checks_on made ca cb em es shut = record {
    entries = λ s. entries_more s t.label (h.journals s) [] t.talk [] (k.entries s) refl tt;
    own = each_append (IsOwnCall (checked made)) t.talk [] (own_all_stay t (checked made) (λ s m e. e) (λ s m e. e) (λ e. refl) t.talk k.own) tt;
    again = λ s. subst (NotAgain t.label) (sym (same_calls s)) (k.again s);
    pair = pair_more (h.first ∷ h.points) (commit_point ca cb ∷ []) t.snapshots.mem t.snapshots.store k.pair;
    past = k.past;
    drew = λ s n e. drew s n e (k.drew s n e);
    silent = λ s c e. both_drawn s e;
    opened = λ s m q. subst (λ xs. In (open_entry t.label m) xs) (sym (same_calls s)) (k.opened s m q);
    alone = λ s x m d c e f. both_drawn x f;
    crossed = λ a b c e f. last_at a b h.points (some_same (sym em ∙ e)) (some_same (sym es ∙ f));
    paired = each_append (λ (q : Point). q.commit ≡ true → t.drew.mem ≡ Some q.a → t.drew.store ≡ Some q.b) h.points (commit_point ca cb ∷ []) k.paired ((λ c e. es), tt);
  }
    where
      both_drawn : {A : Type 0} (s : EngineName) → drawn_at s t.drew ≡ None → A
      both_drawn Mem e = some_clash (sym em ∙ e)
      both_drawn Store e = some_clash (sym es ∙ e)

      last_at : (a b : ℕ) (qs : List Point) → ca ≡ a → cb ≡ b → At a b (qs ++ commit_point ca cb ∷ [])
      last_at a b [] x y = inl (refl, x, y)
      last_at a b (q ∷ qs) x y = inr (last_at a b qs x y)

      drew : (s : EngineName) (n : ℕ) → drawn_at s t.drew ≡ Some n → Drew t s n → Drew (checked made) s n
      drew s n e d =
          let gone : d.tail ≡ [] = tail_gone s n (shut s) d in
          let calls : calls_in s (checked made).talk ≡ d.before ++ close_entry t.label d.floor ∷ [] = same_calls s ∙ d.is ∙ ap (λ xs. d.before ++ close_entry t.label d.floor ∷ xs) gone in
          let unstamped : has_stamped s (checked made) ≡ false = ap (list_any (λ (j : Entry). is_stamp j.call)) calls ∙ none_stamped t s d.before d.floor (subst (λ xs. Each (λ (j : Entry). is_by t.label j ≡ true) xs) (d.is ∙ ap (λ xs. d.before ++ close_entry t.label d.floor ∷ xs) gone) (mine s)) d.none_ends in
          record {
            before = d.before;
            floor = d.floor;
            tail = [];
            is = calls;
            none_ends = d.none_ends;
            past = d.past;
            wrote = d.wrote;
            once = λ c. ap (λ b. stamp_if (not b) t.label (drawn_at s t.drew)) unstamped ∙ ap (stamp_if true t.label) e;
          }

-- ---- it stamps

abbrev pub stamped : Transaction → Talk → Transaction
stamped t added = record t { committed = true; talk = t.talk ++ added }

-- an engine that it does not stamp now: it stamps there otherwise, or wrote nothing there
pub record Aside (t : Transaction) (added : Talk) (s : EngineName) : Type 0 where
  pub drawn : (m : ℕ) → drawn_at s t.drew ≡ Some m → (t.committed ≡ true) × (calls_in s added ≡ [])
  pub silent : drawn_at s t.drew ≡ None → wrote_in (calls_in s t.talk ++ calls_in s added) ≡ []

module _ (h : Traces) (t : Transaction) (k : Belongs h t) (es : EngineName → List Entry) (added : Talk) (name : EngineName) (n : ℕ) where
  pub record Stamps : Type 0 where
    pub left : (s : EngineName) → es s ≡ calls_in s added
    pub by : (s : EngineName) → Each (λ (j : Entry). is_by t.label j ≡ true) (es s)
    pub own : Each (IsOwnCall (stamped t added)) added
    pub again : (s : EngineName) → Each (λ (j : Entry). opens t.label j.call ≡ false) (es s)
    pub mine : drawn_at name t.drew ≡ Some n
    pub shut : Shut t name
    pub here : calls_in name added ≡ stamp_entry t.label n ∷ []
    pub aside : (s : EngineName) → (s ≡ name) ⊎ Aside t added s
    pub both : (a b : ℕ) → t.drew.mem ≡ Some a → t.drew.store ≡ Some b → t.committed ≡ true

  pub stamps_on : Stamps → Belongs (grown h (stamped t added) es []) (stamped t added)
  stamps_on g = record {
    entries = λ s. entries_more s t.label (h.journals s) (es s) t.talk added (k.entries s) (g.left s) (g.by s);
    own = each_append (IsOwnCall (stamped t added)) t.talk added (own_all_stay t (stamped t added) (λ s m e. e) (λ s m e. e) (λ e. refl) t.talk k.own) g.own;
    again = λ s. subst (NotAgain t.label) (ap (λ xs. calls_in s t.talk ++ xs) (g.left s) ∙ sym (calls_more s t.talk added)) (again_append t.label (calls_in s t.talk) (es s) (k.again s) (g.again s));
    pair = subst (λ (qs : List Point). PairIf (h.first ∷ qs) t.snapshots.mem t.snapshots.store) (sym (append-nil h.points)) k.pair;
    past = k.past;
    drew = λ s m e. ⊎_elim
        (λ (c : s ≡ name). subst (λ (x : EngineName). Drew (stamped t added) x m) (sym c) (now m (subst (λ (x : EngineName). drawn_at x t.drew ≡ Some m) c e)))
        (λ (c : Aside t added s). later s m e c)
        (g.aside s);
    silent = λ s c e. ⊎_elim
        (λ (q : s ≡ name). some_clash (sym g.mine ∙ ap (λ (x : EngineName). drawn_at x t.drew) (sym q) ∙ e))
        (λ (q : Aside t added s). ap wrote_in (calls_more s t.talk added) ∙ q.silent e)
        (g.aside s);
    opened = λ s m q. subst (λ xs. In (open_entry t.label m) xs) (sym (calls_more s t.talk added)) (in_front (open_entry t.label m) (calls_in s t.talk) (calls_in s added) (k.opened s m q));
    alone = λ s x m d c e f. ⊎_elim
        (λ (q : s ≡ name). subst (λ (y : EngineName). has_stamped y (stamped t added) ≡ true) (sym q) has_now)
        (λ (q : Aside t added s). ap (list_any (λ (j : Entry). is_stamp j.call)) (calls_more s t.talk added ∙ ap (λ xs. calls_in s t.talk ++ xs) (q.drawn m e).1 ∙ append-nil (calls_in s t.talk)) ∙ k.alone s x m d (q.drawn m e).0 e f)
        (g.aside s);
    crossed = λ a b c e f. at_more a b h.points [] (k.crossed a b (g.both a b e f) e f);
    paired = each_append (λ (q : Point). q.commit ≡ true → t.drew.mem ≡ Some q.a → t.drew.store ≡ Some q.b) h.points [] k.paired tt;
  }
    where
      has_now : has_stamped name (stamped t added) ≡ true
      has_now = ap (list_any (λ (j : Entry). is_stamp j.call)) (calls_more name t.talk added ∙ ap (λ xs. calls_in name t.talk ++ xs) g.here) ∙ any_stamp t.label n (calls_in name t.talk)

      now : (m : ℕ) → drawn_at name t.drew ≡ Some m → Drew (stamped t added) name m
      now m e =
          let same : n ≡ m = some_same (sym g.mine ∙ e) in
          let d : Drew t name n = k.drew name n g.mine in
          let gone : d.tail ≡ [] = cut_same (ends t.label) d.before g.shut.before (close_entry t.label d.floor) (close_entry t.label g.shut.floor) d.tail (sym d.is ∙ g.shut.is) g.shut.none_ends (same_itself t.label) in
          let calls : calls_in name (t.talk ++ added) ≡ d.before ++ close_entry t.label d.floor ∷ (stamp_entry t.label n ∷ []) =
          calls_more name t.talk added ∙ ap (λ xs. xs ++ calls_in name added) (d.is ∙ ap (λ xs. d.before ++ close_entry t.label d.floor ∷ xs) gone)
          ∙ append_assoc d.before (close_entry t.label d.floor ∷ []) (calls_in name added) ∙ ap (λ xs. d.before ++ close_entry t.label d.floor ∷ xs) g.here in
          let has : has_stamped name (stamped t added) ≡ true = ap (list_any (λ (j : Entry). is_stamp j.call)) (calls_more name t.talk added ∙ ap (λ xs. calls_in name t.talk ++ xs) g.here) ∙ any_stamp t.label n (calls_in name t.talk) in
          subst (λ x. Drew (stamped t added) name x) same (record {
            before = d.before;
            floor = d.floor;
            tail = stamp_entry t.label n ∷ [];
            is = calls;
            none_ends = d.none_ends;
            past = d.past;
            wrote = d.wrote;
            once = λ c. ap (λ b. stamp_entry t.label n ∷ stamp_if (not b) t.label (drawn_at name t.drew)) has;
          })

      later : (s : EngineName) (m : ℕ) → drawn_at s t.drew ≡ Some m → Aside t added s → Drew (stamped t added) s m
      later s m e q =
          let d : Drew t s m = k.drew s m e in
          let f : (t.committed ≡ true) × (calls_in s added ≡ []) = q.drawn m e in
          let same : calls_in s (t.talk ++ added) ≡ calls_in s t.talk = calls_more s t.talk added ∙ ap (λ xs. calls_in s t.talk ++ xs) f.1 ∙ append-nil (calls_in s t.talk) in
          let owed_same : owed_by s (stamped t added) ≡ owed_by s t = ap (λ b. stamp_if b t.label (drawn_at s t.drew))
          (ap (λ xs. not (list_any (λ (j : Entry). is_stamp j.call) xs)) same ∙ ap (λ b. b && not (has_stamped s t)) (sym f.0)) in
          record {
            before = d.before;
            floor = d.floor;
            tail = d.tail;
            is = same ∙ d.is;
            none_ends = d.none_ends;
            past = d.past;
            wrote = d.wrote;
            once = λ c. ap (λ xs. d.tail ++ xs) owed_same ∙ d.once f.0;
          }
