-- Linked traces are a run: the commits of each engine are those of its journal, with the stamps that are still to come behind it.
use Rattle.std.specs.Prelude.{ℕ, List, [], ◌∷◌, ◌++◌, Option, Some, None, Bool, true, false, cond, not, ◌&&◌, ◌≡◌}
use Rattle.std.proofs.Common.{refl, sym, ap, subst, ◌∙◌, inr, ⊎_elim}
use Rattle.std.specs.List.{filter}
use Rattle.std.proofs.lemmas.Bool.{cases_Bool, cond_both, cond-true, cond-false, false≢true, and_parts}
use Rattle.std.proofs.lemmas.List.{append_assoc, append-nil}
use Rattle.std.proofs.lemmas.List.Concat.{flat_map-append}
use Rattle.std.proofs.lemmas.List.Elements.{filter-append}
use Rattle.sk_model.specs.declared.label.Label.{Label}
use Rattle.sk_model.specs.declared.engine.EngineName.{EngineName}
use Rattle.sk_model.specs.declared.engine.EngineName.TheVariants.{Mem, Store}
use Rattle.sk_model.specs.declared.commit.Write.{Write}
use Rattle.sk_model.specs.declared.commit.Commit.{Commit}
use Rattle.sk_model.specs.declared.point.Point.{Point}
use Rattle.sk_model.specs.declared.call.EngineCall.{EngineCall}
use Rattle.sk_model.specs.declared.call.EngineCall.TheVariants as call
use Rattle.sk_model.specs.declared.call.EngineReply.TheVariants.{Done}
use Rattle.sk_model.specs.declared.call.Entry.{Entry}
use Rattle.sk_model.specs.Database.{net}
use Rattle.sk_model.specs.Records.{same_label}
use Rattle.sk_model.specs.Numbers.{Rises}
use Rattle.sk_model.specs.Engine.{VersionState, Closed, Stamped, Dropped, Version, EngineTable, keeps, is_undecided, snapshot_of, write_at}
use Rattle.sk_model.specs.EngineReplies.{is_stamped_with}
use Rattle.sk_model.specs.EngineChanges.{change, restood}
use Rattle.sk_model.specs.EngineConditions.{may}
use Rattle.sk_model.specs.Legal.{step, after_entries, due, Legal, Allowed}
use Rattle.sk_model.specs.Calls.{put_by, puts_of, ends}
use Rattle.sk_model.specs.Stamped.{number_in, number_of, v_number, writes_of, Has, CommitsOf}
use Rattle.sk_model.specs.Talks.{calls_in, puts_in, wrote_by, wrote_in, tx_of, is_tx, is_by, entries_by}
use Rattle.sk_model.proofs.Lists.{Each, each_append, each_weaker, each_both, each_filter, each_front, each_end}
use Rattle.sk_model.proofs.Labels.{same_itself, not_same_back}
use Rattle.sk_model.proofs.Quiet.{step_keeps, each_put, each_map_from}
use Rattle.sk_model.proofs.Order.{good_start}
use Rattle.sk_weave.specs.Woven.{MemOk, StoreOk, CrossOk, MatchedAt, Matched, own_writes}
use Rattle.sk_linked.specs.Reads.{owns, number_at, IsRun, first_table}
use Rattle.sk_linked.proofs.Writers.{each_unfilter}
use Rattle.sk_linked.specs.Traces.{drawn_at, Transaction, Traces, commit_in, commits_in, run_of, stamp_entry, owes, stamp_if, owed_by, owed, In, IsOwn, close_entry, Drew, Belongs, Distinct, DrewUnlike, CommitOf, Whose, Known, Linked}
use Rattle.sk_linked.proofs.Projection.{SplitBy, split_by, cons_tail, nil_cons, none_pass_filter, each_of_own, ends_by, puts_by}
use Rattle.sk_linked.proofs.Others.{NotUse, may_stamp_stays, may_stamp}
use Rattle.sk_linked.proofs.Stamps.{NotStamp, stamped_is_puts}
use Rattle.sk_linked.proofs.Members.{in_each, each_in, each_flat, some_clash, some_same, each_call, unlike_same}
use Rattle.sk_linked.proofs.Puts.{PutsWell, entries_well, puts_are, own_puts}
use Rattle.sk_linked.proofs.Commits.{number_is, counts_is, counts_from, commits_each, counted_in, commits_rise, has_in, one_in, owned_writes}

append_nil_front : {X : Type 0} (xs ys : List X) → xs ++ ys ≡ [] → xs ≡ []
append_nil_front [] ys e = refl
append_nil_front (x ∷ xs) ys e = nil_cons (sym e)

-- a number of stamped versions, from the stamps of the journal
abbrev pub StampHas : (ℕ → Type 0) → EngineCall → Type 0
StampHas P (call.Open tx s) = Unit {0}
StampHas P (call.Get tx t k) = Unit {0}
StampHas P (call.Scan tx t) = Unit {0}
StampHas P (call.Put tx t key row) = Unit {0}
StampHas P (call.Close tx) = Unit {0}
StampHas P (call.Stamp tx n) = P n
StampHas P (call.Void tx n) = Unit {0}
StampHas P (call.DropTx tx) = Unit {0}
StampHas P call.Horizon = Unit {0}
StampHas P (call.Records from to) = Unit {0}
StampHas P (call.Purge upto) = Unit {0}

module _ (P : ℕ → Type 0) where
  abbrev Numbers : Version → Type 0
  Numbers v = (n : ℕ) → v_number v ≡ Some n → P n

  restood_numbers : (tx : Label) (st : VersionState) → ((n : ℕ) → number_of st ≡ Some n → P n) → (v : Version) → Numbers v → Numbers (restood tx st v)
  restood_numbers tx st f v h = cond_both (same_label tx v.by && is_undecided v.standing) (record v { standing = st }) v (λ (x : Version). Numbers x) (λ e. f) (λ e. h)

  none_numbers : {A : Type 0} {n : ℕ} → None ≡ Some n → A
  none_numbers e = some_clash (sym e)

  numbers_change : (e : EngineTable) (c : EngineCall) → StampHas P c → Each Numbers e.versions → Each Numbers (change e c).versions
  numbers_change e (call.Open tx s) k h = h
  numbers_change e (call.Get tx t key) k h = h
  numbers_change e (call.Scan tx t) k h = h
  numbers_change e (call.Put tx t key row) k h = each_put Numbers Numbers tx (snapshot_of e tx) (write_at t key row) (λ v q. q) (λ v i o q. q) (λ n q. none_numbers q) e.versions h
  numbers_change e (call.Close tx) k h = each_map_from Numbers Numbers (restood tx (Closed e.greatest)) (restood_numbers tx (Closed e.greatest) (λ n q. none_numbers q)) e.versions h
  numbers_change e (call.Stamp tx m) k h = each_map_from Numbers Numbers (restood tx (Stamped m)) (restood_numbers tx (Stamped m) (λ n q. subst P (some_same q) k)) e.versions h
  numbers_change e (call.Void tx m) k h = each_map_from Numbers Numbers (restood tx Dropped) (restood_numbers tx Dropped (λ n q. none_numbers q)) e.versions h
  numbers_change e (call.DropTx tx) k h = each_map_from Numbers Numbers (restood tx Dropped) (restood_numbers tx Dropped (λ n q. none_numbers q)) e.versions h
  numbers_change e call.Horizon k h = h
  numbers_change e (call.Records from to) k h = h
  numbers_change e (call.Purge upto) k h = h

  pub numbers_stay : (e : EngineTable) (js : List Entry) → Each (λ (j : Entry). StampHas P j.call) js → Each Numbers e.versions → Each Numbers (after_entries e js).versions
  numbers_stay e [] k h = h
  numbers_stay e (j ∷ js) k h = numbers_stay (step e j) js k.1 (step_keeps (λ (f : EngineTable). Each Numbers f.versions) e j h (λ m r. numbers_change e j.call k.0 h))

owed_own : (s : EngineName) (r : Transaction) → entries_by r.label (owed_by s r) ≡ owed_by s r
owed_own s r = go (owes s r) (drawn_at s r.drew)
  where
    go : (b : Bool) (o : Option ℕ) → entries_by r.label (stamp_if b r.label o) ≡ stamp_if b r.label o
    go true (Some n) = cond-true (same_label r.label r.label) (stamp_entry r.label n ∷ []) [] (same_itself r.label)
    go true None = refl
    go false o = refl

owed_other : (s : EngineName) (l : Label) (r : Transaction) → same_label l r.label ≡ false → entries_by l (owed_by s r) ≡ []
owed_other s l r f = go (owes s r) (drawn_at s r.drew)
  where
    go : (b : Bool) (o : Option ℕ) → entries_by l (stamp_if b r.label o) ≡ []
    go true (Some n) = cond-false (same_label l r.label) (stamp_entry r.label n ∷ []) [] f
    go true None = refl
    go false o = refl

none_owed : (s : EngineName) (l : Label) (rs : List Transaction) → Each (λ (x : Transaction). same_label l x.label ≡ false) rs → entries_by l (owed s rs) ≡ []
none_owed s l [] h = refl
none_owed s l (r ∷ rs) h = filter-append (is_by l) (owed_by s r) (owed s rs) ∙ ap (λ xs. xs ++ entries_by l (owed s rs)) (owed_other s l r h.0) ∙ none_owed s l rs h.1

own_owed : (s : EngineName) (rs : List Transaction) (r : Transaction) → Distinct rs → In r rs → entries_by r.label (owed s rs) ≡ owed_by s r
own_owed s [] r d i = absurd i
own_owed s (x ∷ rs) r d i = ⊎_elim
    (λ (a : r ≡ x). subst (λ (y : Transaction). entries_by y.label (owed s (x ∷ rs)) ≡ owed_by s y) (sym a)
    (filter-append (is_by x.label) (owed_by s x) (owed s rs) ∙ ap (λ xs. xs ++ entries_by x.label (owed s rs)) (owed_own s x) ∙ ap (λ xs. owed_by s x ++ xs) (none_owed s x.label rs d.0) ∙ append-nil (owed_by s x)))
    (λ (a : In r rs).
    let f : same_label x.label r.label ≡ false = each_in (λ (y : Transaction). same_label x.label y.label ≡ false) rs r d.0 a in
    filter-append (is_by r.label) (owed_by s x) (owed s rs) ∙ ap (λ xs. xs ++ entries_by r.label (owed s rs)) (owed_other s r.label x (not_same_back x.label r.label f)) ∙ own_owed s rs r d.1 a)
    i

pub cond_same : {X : Type 0} (b : Bool) (x : X) → cond b x x ≡ x
cond_same true x = refl
cond_same false x = refl

owed_each : (P : Entry → Type 0) (s : EngineName) (rs : List Transaction) → ((r : Transaction) → In r rs → (n : ℕ) → owes s r ≡ true → drawn_at s r.drew ≡ Some n → P (stamp_entry r.label n)) → Each P (owed s rs)
owed_each P s rs f = each_flat P (owed_by s) rs (in_each (λ (r : Transaction). Each P (owed_by s r)) rs (λ r i. go r i (owes s r) refl (drawn_at s r.drew) refl))
  where
    go : (r : Transaction) → In r rs → (b : Bool) → owes s r ≡ b → (o : Option ℕ) → drawn_at s r.drew ≡ o → Each P (stamp_if b r.label o)
    go r i true e (Some n) g = (f r i n e g, tt)
    go r i true e None g = tt
    go r i false e o g = tt

legal_stamps : (e : EngineTable) (ys : List Entry) → Each (λ (j : Entry). (f : EngineTable) → due f j.call ≡ j.reply) ys → Legal e ys
legal_stamps e [] h = tt
legal_stamps e (y ∷ ys) h = (inr (h.0 e), legal_stamps (step e y) ys h.1)

pub legal_append : (e : EngineTable) (xs ys : List Entry) → Legal e xs → Legal (after_entries e xs) ys → Legal e (xs ++ ys)
legal_append e [] ys l k = k
legal_append e (x ∷ xs) ys l k = (l.0, legal_append (step e x) xs ys l.1 k)

pub allowed_append : (e : EngineTable) (xs ys : List Entry) → Allowed e xs → Allowed (after_entries e xs) ys → Allowed e (xs ++ ys)
allowed_append e [] ys l k = k
allowed_append e (x ∷ xs) ys l k = (l.0, allowed_append (step e x) xs ys l.1 k)

abbrev Ready : EngineName → EngineTable → Transaction → Type 0
Ready s e r = (n : ℕ) → owes s r ≡ true → drawn_at s r.drew ≡ Some n → may e (call.Stamp r.label n) ≡ true

owed_allowed : (s : EngineName) (e : EngineTable) (rs : List Transaction) → Each (Ready s e) rs → Distinct rs → DrewUnlike s rs → Allowed e (owed s rs)
owed_allowed s e [] h d u = tt
owed_allowed s e (r ∷ rs) h d u = go (owes s r) refl (drawn_at s r.drew) refl (λ f k. owed_allowed s f rs k d.1 u.1)
  where
    go : (b : Bool) → owes s r ≡ b → (o : Option ℕ) → drawn_at s r.drew ≡ o → ((f : EngineTable) → Each (Ready s f) rs → Allowed f (owed s rs)) → Allowed e (stamp_if b r.label o ++ owed s rs)
    go true q (Some n) g ih = (
      h.0 n q g,
      ih (step e (stamp_entry r.label n))
          (each_weaker _ (Ready s (step e (stamp_entry r.label n))) (λ x k m a b.
          may_stamp_stays x.label m e (stamp_entry r.label n ∷ [])
          ((not_same_back r.label x.label k.0.0, (λ z. k.0.1 n g (b ∙ ap Some z))), tt) (k.1 m a b)) rs (each_both _ (Ready s e) rs (each_both (λ (x : Transaction). same_label r.label x.label ≡ false) (λ (x : Transaction). (n : ℕ) → drawn_at s r.drew ≡ Some n → drawn_at s x.drew ≡ Some n → ⊥) rs d.0 u.0) h.1)),
    )
    go true q None g ih = ih e h.1
    go false q o g ih = ih e h.1

-- a stamp of the journal is of the transaction that drew its number and is committed, and a void of the one that drew it
pub record Stamper (s : EngineName) (ts : List Transaction) (tx : Label) (n : ℕ) : Type 0 where
  pub who : Transaction
  pub among : In who ts
  pub is : who.label ≡ tx
  pub drew : drawn_at s who.drew ≡ Some n
  pub committed : who.committed ≡ true

pub record Voider (s : EngineName) (ts : List Transaction) (tx : Label) (n : ℕ) : Type 0 where
  pub who : Transaction
  pub among : In who ts
  pub is : who.label ≡ tx
  pub drew : drawn_at s who.drew ≡ Some n

abbrev pub UseOf : EngineName → List Transaction → EngineCall → Type 0
UseOf s ts (call.Open tx k) = Unit {0}
UseOf s ts (call.Get tx t key) = Unit {0}
UseOf s ts (call.Scan tx t) = Unit {0}
UseOf s ts (call.Put tx t key row) = Unit {0}
UseOf s ts (call.Close tx) = Unit {0}
UseOf s ts (call.Stamp tx n) = Stamper s ts tx n
UseOf s ts (call.Void tx n) = Voider s ts tx n
UseOf s ts (call.DropTx tx) = Unit {0}
UseOf s ts call.Horizon = Unit {0}
UseOf s ts (call.Records from to) = Unit {0}
UseOf s ts (call.Purge upto) = Unit {0}

-- an own call that does not end uses no number
own_not_use : (l : Label) (n : ℕ) (c : EngineCall) → is_tx l (tx_of c) ≡ true → ends l c ≡ false → NotUse n c
own_not_use l n (call.Open tx k) b e = tt
own_not_use l n (call.Get tx t key) b e = tt
own_not_use l n (call.Scan tx t) b e = tt
own_not_use l n (call.Put tx t key row) b e = tt
own_not_use l n (call.Close tx) b e = tt
own_not_use l n (call.Stamp tx m) b e = absurd (false≢true (sym e ∙ b))
own_not_use l n (call.Void tx m) b e = absurd (false≢true (sym e ∙ b))
own_not_use l n (call.DropTx tx) b e = tt
own_not_use l n call.Horizon b e = tt
own_not_use l n (call.Records from to) b e = tt
own_not_use l n (call.Purge upto) b e = tt

pub filter_pass : {X : Type 0} (p : X → Bool) (xs : List X) → Each (λ x. p x ≡ true) (filter p xs)
filter_pass p [] = tt
filter_pass p (x ∷ xs) = cond_both (p x) (x ∷ filter p xs) (filter p xs) (λ ys. Each (λ y. p y ≡ true) ys) (λ e. (e, filter_pass p xs)) (λ e. filter_pass p xs)

tail_nil : {X : Type 0} (xs : List X) (x : X) → xs ++ x ∷ [] ≡ x ∷ [] → xs ≡ []
tail_nil [] x e = refl
tail_nil {X = X} (y ∷ ys) x e = gone ys (cons_tail e)
  where
    gone : (ys : List X) → ys ++ x ∷ [] ≡ [] → y ∷ ys ≡ []
    gone [] f = nil_cons (sym f)
    gone (z ∷ zs) f = nil_cons (sym f)

module _ (h : Traces) (l : Linked h) where
  abbrev pub start : EngineName → EngineTable
  start s = first_table (run_of h) s

  abbrev pub all : EngineName → List Entry
  all s = h.journals s ++ owed s h.transactions

  pub belongs : (t : Transaction) → In t h.transactions → Belongs h t
  belongs t i = each_in (Belongs h) h.transactions t l.each i

  -- the calls of a transaction, those owed too
  pub own_all : (s : EngineName) (t : Transaction) → In t h.transactions → entries_by t.label (all s) ≡ calls_in s t.talk ++ owed_by s t
  own_all s t i = filter-append (is_by t.label) (h.journals s) (owed s h.transactions) ∙ ap (λ xs. xs ++ entries_by t.label (owed s h.transactions)) ((belongs t i).entries s) ∙ ap (λ xs. calls_in s t.talk ++ xs) (own_owed s h.transactions t l.distinct i)

  known_all : (s : EngineName) → Each (λ (j : Entry). Known h.transactions (tx_of j.call)) (all s)
  known_all s = each_append _ (h.journals s) (owed s h.transactions) (l.known s) (owed_each (λ (j : Entry). Known h.transactions (tx_of j.call)) s h.transactions (λ r i n o e. record { who = r; among = i; is = refl }))

  abbrev Own : EngineName → Transaction → Entry → Type 0
  Own s t j = IsOwn t s j.call j.reply

  pub own_calls : (s : EngineName) (t : Transaction) → In t h.transactions → Each (Own s t) (calls_in s t.talk)
  own_calls s t i = each_call (λ name j. IsOwn t name j.call j.reply) s t.talk (belongs t i).own

  pub own_fits : (s : EngineName) (t : Transaction) → In t h.transactions → Each (λ (j : Entry). is_by t.label j ≡ true → Own s t j) (all s)
  own_fits s t i =
      let both : Each (Own s t) (calls_in s t.talk ++ owed_by s t) = each_append _ (calls_in s t.talk) (owed_by s t) (own_calls s t i) (go (owes s t) refl (drawn_at s t.drew) refl) in
      each_unfilter (Own s t) (is_by t.label) (all s) (subst (λ xs. Each (Own s t) xs) (sym (own_all s t i)) both)
    where
      go : (b : Bool) → owes s t ≡ b → (o : Option ℕ) → drawn_at s t.drew ≡ o → Each (Own s t) (stamp_if b t.label o)
      go true e (Some n) g = ((g, (and_parts _ _ e).0), tt)
      go true e None g = tt
      go false e o g = tt

  pub uses_all : (s : EngineName) → Each (λ (j : Entry). UseOf s h.transactions j.call) (all s)
  uses_all s = in_each (λ (j : Entry). UseOf s h.transactions j.call) (all s) (λ j i. go j j.call refl i (each_in (λ (j : Entry). Known h.transactions (tx_of j.call)) (all s) j (known_all s) i))
    where
      mine : (j : Entry) (c : EngineCall) (tx : Label) → j.call ≡ c → tx_of c ≡ Some tx → In j (all s) → (k : Whose h.transactions tx) → IsOwn k.who s c j.reply
      mine j c tx e is i k =
          let by : is_by k.who.label j ≡ true = ap (λ (x : EngineCall). is_tx k.who.label (tx_of x)) e ∙ ap (is_tx k.who.label) is ∙ ap (same_label k.who.label) (sym k.is) ∙ same_itself k.who.label in
          subst (λ (x : EngineCall). IsOwn k.who s x j.reply) e (each_in (λ (j : Entry). is_by k.who.label j ≡ true → Own s k.who j) (all s) j (own_fits s k.who k.among) i by)

      go : (j : Entry) (c : EngineCall) → j.call ≡ c → In j (all s) → Known h.transactions (tx_of j.call) → UseOf s h.transactions c
      go j (call.Open tx k) e i w = tt
      go j (call.Get tx t k) e i w = tt
      go j (call.Scan tx t) e i w = tt
      go j (call.Put tx t key row) e i w = tt
      go j (call.Close tx) e i w = tt
      go j (call.Stamp tx n) e i w =
          let k : Whose h.transactions tx = subst (λ (c : EngineCall). Known h.transactions (tx_of c)) e w in
          let f : (drawn_at s k.who.drew ≡ Some n) × (k.who.committed ≡ true) = mine j (call.Stamp tx n) tx e refl i k in
          record { who = k.who; among = k.among; is = k.is; drew = f.0; committed = f.1 }
      go j (call.Void tx n) e i w =
          let k : Whose h.transactions tx = subst (λ (c : EngineCall). Known h.transactions (tx_of c)) e w in
          record { who = k.who; among = k.among; is = k.is; drew = mine j (call.Void tx n) tx e refl i k }
      go j (call.DropTx tx) e i w = tt
      go j call.Horizon e i w = tt
      go j (call.Records from to) e i w = tt
      go j (call.Purge upto) e i w = tt

  -- who drew the number is the transaction
  drew_same : (s : EngineName) (n : ℕ) (t u : Transaction) → In t h.transactions → In u h.transactions → drawn_at s t.drew ≡ Some n → drawn_at s u.drew ≡ Some n → t.label ≡ u.label
  drew_same s n t u i k e f = ap (λ (x : Transaction). x.label) (unlike_same s n h.transactions t u (l.unlike s) i k e f)

  -- who is not the transaction uses another number
  not_use : (s : EngineName) (n : ℕ) (t : Transaction) → In t h.transactions → drawn_at s t.drew ≡ Some n → (c : EngineCall) → UseOf s h.transactions c → is_tx t.label (tx_of c) ≡ false → NotUse n c
  not_use s n t i e (call.Open tx k) w f = tt
  not_use s n t i e (call.Get tx u k) w f = tt
  not_use s n t i e (call.Scan tx u) w f = tt
  not_use s n t i e (call.Put tx u key row) w f = tt
  not_use s n t i e (call.Close tx) w f = tt
  not_use s n t i e (call.Stamp tx m) w f = λ q. false≢true (sym f ∙ ap (same_label t.label) (sym (drew_same s n t w.who i w.among e (w.drew ∙ ap Some (sym q)) ∙ w.is)) ∙ same_itself t.label)
  not_use s n t i e (call.Void tx m) w f = λ q. false≢true (sym f ∙ ap (same_label t.label) (sym (drew_same s n t w.who i w.among e (w.drew ∙ ap Some (sym q)) ∙ w.is)) ∙ same_itself t.label)
  not_use s n t i e (call.DropTx tx) w f = tt
  not_use s n t i e call.Horizon w f = tt
  not_use s n t i e (call.Records from to) w f = tt
  not_use s n t i e (call.Purge upto) w f = tt

  not_stamp : (s : EngineName) (n : ℕ) (t : Transaction) → In t h.transactions → drawn_at s t.drew ≡ Some n → (c : EngineCall) → UseOf s h.transactions c → ends t.label c ≡ false → NotStamp n c
  not_stamp s n t i e (call.Open tx k) w f = tt
  not_stamp s n t i e (call.Get tx u k) w f = tt
  not_stamp s n t i e (call.Scan tx u) w f = tt
  not_stamp s n t i e (call.Put tx u key row) w f = tt
  not_stamp s n t i e (call.Close tx) w f = tt
  not_stamp s n t i e (call.Stamp tx m) w f = not_use s n t i e (call.Stamp tx m) w f
  not_stamp s n t i e (call.Void tx m) w f = tt
  not_stamp s n t i e (call.DropTx tx) w f = tt
  not_stamp s n t i e call.Horizon w f = tt
  not_stamp s n t i e (call.Records from to) w f = tt
  not_stamp s n t i e (call.Purge upto) w f = tt

  -- where a close is the last call, the number that was drawn may be used
  pub may_use : (s : EngineName) (t : Transaction) → In t h.transactions → (n : ℕ) → drawn_at s t.drew ≡ Some n → (d : Drew t s n) → d.tail ≡ [] → may (after_entries (start s) (h.journals s)) (call.Stamp t.label n) ≡ true
  may_use s t i n e d none =
      let b : Belongs h t = belongs t i in
      let own : entries_by t.label (h.journals s) ≡ d.before ++ close_entry t.label d.floor ∷ [] = b.entries s ∙ d.is ∙ ap (λ xs. d.before ++ close_entry t.label d.floor ∷ xs) none in
      let mine : Each (λ (j : Entry). is_by t.label j ≡ true) (d.before ++ close_entry t.label d.floor ∷ []) = subst (λ xs. Each (λ (j : Entry). is_by t.label j ≡ true) xs) own (filter_pass (is_by t.label) (h.journals s)) in
      let front : Each (λ (j : Entry). NotUse n j.call) d.before = each_weaker _ (λ (j : Entry). NotUse n j.call) (λ j k. own_not_use t.label n j.call k.0 k.1) d.before (each_both (λ (j : Entry). is_by t.label j ≡ true) (λ (j : Entry). ends t.label j.call ≡ false) d.before (each_front _ d.before (close_entry t.label d.floor ∷ []) mine) d.none_ends) in
      let ours : Each (λ (j : Entry). NotUse n j.call) (entries_by t.label (h.journals s)) = subst (λ xs. Each (λ (j : Entry). NotUse n j.call) xs) (sym own) (each_append (λ (j : Entry). NotUse n j.call) d.before (close_entry t.label d.floor ∷ []) front (tt, tt)) in
      let uses : Each (λ (j : Entry). UseOf s h.transactions j.call) (h.journals s) = each_front _ (h.journals s) (owed s h.transactions) (uses_all s) in
      let unused : Each (λ (j : Entry). NotUse n j.call) (h.journals s) = each_weaker _ (λ (j : Entry). NotUse n j.call)
      (λ j k. ⊎_elim (λ (y : is_by t.label j ≡ true). k.0 y) (λ (f : is_by t.label j ≡ false). not_use s n t i e j.call k.1 f) (cases_Bool (is_by t.label j)))
      (h.journals s) (each_both (λ (j : Entry). is_by t.label j ≡ true → NotUse n j.call) (λ (j : Entry). UseOf s h.transactions j.call) (h.journals s) (each_unfilter (λ (j : Entry). NotUse n j.call) (is_by t.label) (h.journals s) ours) uses) in
      may_stamp s h.catalog h.rows (number_at s h.first) (h.journals s) d.before t.label d.floor n (l.legal s) (l.allowed s) own d.past unused

  -- an owed stamp may be made behind the journal
  ready : (s : EngineName) (t : Transaction) → In t h.transactions → Ready s (after_entries (start s) (h.journals s)) t
  ready s t i n o e =
      let b : Belongs h t = belongs t i in
      let d : Drew t s n = b.drew s n e in
      let owing : owed_by s t ≡ stamp_entry t.label n ∷ [] = ap (λ b. stamp_if b t.label (drawn_at s t.drew)) o ∙ ap (stamp_if true t.label) e in
      may_use s t i n e d (tail_nil d.tail (stamp_entry t.label n) (ap (λ xs. d.tail ++ xs) (sym owing) ∙ d.once (and_parts _ _ o).0))

  pub all_legal : (s : EngineName) → Legal (start s) (all s)
  all_legal s = legal_append (start s) (h.journals s) (owed s h.transactions) (l.legal s)
      (legal_stamps (after_entries (start s) (h.journals s)) (owed s h.transactions) (owed_each (λ (j : Entry). (f : EngineTable) → due f j.call ≡ j.reply) s h.transactions (λ r i n o e f. cond_same (may f (call.Stamp r.label n)) Done)))

  pub all_allowed : (s : EngineName) → Allowed (start s) (all s)
  all_allowed s = allowed_append (start s) (h.journals s) (owed s h.transactions) (l.allowed s)
      (owed_allowed s (after_entries (start s) (h.journals s)) h.transactions (in_each (Ready s (after_entries (start s) (h.journals s))) h.transactions (λ t i. ready s t i)) l.distinct (l.unlike s))

  -- ---- what a transaction wrote

  well_all : (s : EngineName) (t : Transaction) → Each (λ (j : Entry). is_by t.label j ≡ true → PutsWell h.catalog s t.label j) (all s)
  well_all s t = entries_well h.catalog s t.label (start s) (all s) refl refl (all_legal s) (all_allowed s)

  pub calls_well : (s : EngineName) (t : Transaction) → In t h.transactions → Each (PutsWell h.catalog s t.label) (calls_in s t.talk)
  calls_well s t i =
      let both : Each (λ (j : Entry). (is_by t.label j ≡ true) × (is_by t.label j ≡ true → PutsWell h.catalog s t.label j)) (entries_by t.label (h.journals s)) =
      each_both (λ (j : Entry). is_by t.label j ≡ true) (λ (j : Entry). is_by t.label j ≡ true → PutsWell h.catalog s t.label j) (entries_by t.label (h.journals s)) (filter_pass (is_by t.label) (h.journals s))
      (each_filter _ (λ (j : Entry). is_by t.label j ≡ true → PutsWell h.catalog s t.label j) (is_by t.label) (λ j y k. k) (h.journals s) (each_front _ (h.journals s) (owed s h.transactions) (well_all s t))) in
      subst (λ xs. Each (PutsWell h.catalog s t.label) xs) ((belongs t i).entries s) (each_weaker _ (PutsWell h.catalog s t.label) (λ j k. k.1 k.0) (entries_by t.label (h.journals s)) both)

  -- a transaction's Puts to an engine's tables are those of its calls there
  pub puts_wrote : (s : EngineName) (t : Transaction) → In t h.transactions → own_writes (owns h.catalog s) (puts_in t.talk) ≡ wrote_in (calls_in s t.talk)
  puts_wrote s t i = own_puts h.catalog t.talk (λ name. each_weaker (PutsWell h.catalog name t.label) (λ (j : Entry). Each (λ (w : Write). owns h.catalog name w.table ≡ true) (wrote_by j.call j.reply)) (λ j k. k.owned) (calls_in name t.talk) (calls_well name t i)) s

  -- and those in the journal
  pub puts_here : (s : EngineName) (t : Transaction) → In t h.transactions → puts_of t.label (calls_in s t.talk) ≡ own_writes (owns h.catalog s) (puts_in t.talk)
  puts_here s t i = puts_are h.catalog s t.label (calls_in s t.talk) (calls_well s t i) ∙ sym (puts_wrote s t i)

  -- what was stamped comes to what the transaction's Puts come to
  written : (s : EngineName) (n : ℕ) (t : Transaction) → In t h.transactions → t.committed ≡ true → drawn_at s t.drew ≡ Some n
      → (commit_in h.catalog s t).writes ≡ net (writes_of (filter (is_stamped_with n) (after_entries (start s) (all s)).versions))
  written s n t i y e =
      let b : Belongs h t = belongs t i in
      let d : Drew t s n = b.drew s n e in
      let close : Entry = close_entry t.label d.floor in
      let stamp : Entry = stamp_entry t.label n in
      let once : d.tail ++ owed_by s t ≡ stamp ∷ [] = d.once y in
      let own : entries_by t.label (all s) ≡ d.before ++ close ∷ (stamp ∷ []) =
      own_all s t i ∙ ap (λ xs. xs ++ owed_by s t) d.is ∙ append_assoc d.before (close ∷ d.tail) (owed_by s t) ∙ ap (λ xs. d.before ++ close ∷ xs) once in
      let one : SplitBy (is_by t.label) (all s) d.before close (stamp ∷ []) = split_by (is_by t.label) (all s) d.before close (stamp ∷ []) own in
      let two : SplitBy (is_by t.label) one.later [] stamp [] = split_by (is_by t.label) one.later [] stamp [] one.back in
      let whole : all s ≡ one.before ++ close ∷ (two.before ++ stamp ∷ two.later) = one.is ∙ ap (λ xs. one.before ++ close ∷ xs) two.is in
      let uses : Each (λ (j : Entry). UseOf s h.transactions j.call) (one.before ++ close ∷ (two.before ++ stamp ∷ two.later)) = subst (λ xs. Each (λ (j : Entry). UseOf s h.transactions j.call) xs) whole (uses_all s) in
      let s1 : Each (λ (j : Entry). UseOf s h.transactions j.call) one.before = each_front _ one.before (close ∷ (two.before ++ stamp ∷ two.later)) uses in
      let s2 : Each (λ (j : Entry). UseOf s h.transactions j.call) (two.before ++ stamp ∷ two.later) = (each_end _ one.before (close ∷ (two.before ++ stamp ∷ two.later)) uses).1 in
      let s3 : Each (λ (j : Entry). UseOf s h.transactions j.call) two.before = each_front _ two.before (stamp ∷ two.later) s2 in
      let s4 : Each (λ (j : Entry). UseOf s h.transactions j.call) two.later = (each_end _ two.before (stamp ∷ two.later) s2).1 in
      let n1 : Each (λ (j : Entry). ends t.label j.call ≡ false) one.before = each_of_own t.label (λ (j : Entry). ends t.label j.call ≡ false) (λ j f. ends_by t.label j.call f) one.before (subst (λ xs. Each (λ (j : Entry). ends t.label j.call ≡ false) xs) (sym one.front) d.none_ends) in
      let b2 : Each (λ (j : Entry). is_by t.label j ≡ false) two.before = none_pass_filter (is_by t.label) two.before two.front in
      let b3 : Each (λ (j : Entry). is_by t.label j ≡ false) two.later = none_pass_filter (is_by t.label) two.later two.back in
      let n2 : Each (λ (j : Entry). ends t.label j.call ≡ false) two.before = each_weaker _ (λ (j : Entry). ends t.label j.call ≡ false) (λ j f. ends_by t.label j.call f) two.before b2 in
      let n3 : Each (λ (j : Entry). ends t.label j.call ≡ false) two.later = each_weaker _ (λ (j : Entry). ends t.label j.call ≡ false) (λ j f. ends_by t.label j.call f) two.later b3 in
      let m1 : Each (λ (j : Entry). NotStamp n j.call) one.before = each_weaker _ (λ (j : Entry). NotStamp n j.call) (λ j q. not_stamp s n t i e j.call q.0 q.1) one.before (each_both (λ (j : Entry). UseOf s h.transactions j.call) (λ (j : Entry). ends t.label j.call ≡ false) one.before s1 n1) in
      let m2 : Each (λ (j : Entry). NotStamp n j.call) two.before = each_weaker _ (λ (j : Entry). NotStamp n j.call) (λ j q. not_stamp s n t i e j.call q.0 q.1) two.before (each_both (λ (j : Entry). UseOf s h.transactions j.call) (λ (j : Entry). ends t.label j.call ≡ false) two.before s3 n2) in
      let m3 : Each (λ (j : Entry). NotStamp n j.call) two.later = each_weaker _ (λ (j : Entry). NotStamp n j.call) (λ j q. not_stamp s n t i e j.call q.0 q.1) two.later (each_both (λ (j : Entry). UseOf s h.transactions j.call) (λ (j : Entry). ends t.label j.call ≡ false) two.later s4 n3) in
      let p2 : puts_of t.label two.before ≡ [] = puts_by t.label two.before ∙ ap (puts_of t.label) two.front in
      let table_is : net (writes_of (filter (is_stamped_with n) (after_entries (start s) (one.before ++ close ∷ (two.before ++ stamp ∷ two.later))).versions)) ≡ net (puts_of t.label one.before) =
      stamped_is_puts t.label n (start s) one.before d.floor two.before two.later (good_start s h.catalog h.rows (number_at s h.first)) (λ u key x. refl) refl
      (subst (λ xs. Legal (start s) xs) whole (all_legal s)) (subst (λ xs. Allowed (start s) xs) whole (all_allowed s)) n1 m1
      (each_both (λ (j : Entry). ends t.label j.call ≡ false) (λ (j : Entry). NotStamp n j.call) two.before n2 m2) p2 m3 in
      let tail_puts : puts_of t.label d.tail ≡ [] = append_nil_front (puts_of t.label d.tail) (puts_of t.label (owed_by s t)) (sym (flat_map-append (λ (j : Entry). put_by t.label j.call j.reply) d.tail (owed_by s t)) ∙ ap (puts_of t.label) once) in
      let before_puts : puts_of t.label (calls_in s t.talk) ≡ puts_of t.label d.before =
      ap (puts_of t.label) d.is ∙ flat_map-append (λ (j : Entry). put_by t.label j.call j.reply) d.before (close ∷ d.tail) ∙ ap (λ xs. puts_of t.label d.before ++ xs) tail_puts ∙ append-nil (puts_of t.label d.before) in
      ap net (sym (puts_here s t i) ∙ before_puts ∙ ap (puts_of t.label) (sym one.front) ∙ sym (puts_by t.label one.before)) ∙ sym table_is
      ∙ ap (λ xs. net (writes_of (filter (is_stamped_with n) (after_entries (start s) xs).versions))) (sym whole)

  -- ---- the commits of each engine, and the run

  pub rising : (s : EngineName) → Rises (number_in s) (number_at s h.first) (commits_in h.catalog s h.transactions)
  rising s = commits_rise h.catalog s (number_at s h.first) h.transactions (λ t i n e. (belongs t i).past s n e) (l.unlike s)

  pub commits_all : (s : EngineName) → CommitsOf (number_in s) (number_at s h.first) (after_entries (start s) (all s)).versions (commits_in h.catalog s h.transactions)
  commits_all s = record {
    rises = rising s;
    writes = commits_each h.catalog s (λ (c : Commit). (n : ℕ) → number_in s c ≡ Some n → c.writes ≡ net (writes_of (filter (is_stamped_with n) (after_entries (start s) (all s)).versions))) h.transactions
        (λ t i m q n e. written s n t i (counts_is s t m q).0 (sym (number_is h.catalog s s t) ∙ e));
    all = numbers_stay (λ n. Has (number_in s) n (commits_in h.catalog s h.transactions)) (start s) (all s)
        (each_weaker (λ (j : Entry). UseOf s h.transactions j.call) (λ (j : Entry). StampHas (λ n. Has (number_in s) n (commits_in h.catalog s h.transactions)) j.call) (λ j w. has j.call w) (all s) (uses_all s)) tt;
  }
    where
      has : (c : EngineCall) → UseOf s h.transactions c → StampHas (λ n. Has (number_in s) n (commits_in h.catalog s h.transactions)) c
      has (call.Open tx k) w = tt
      has (call.Get tx t k) w = tt
      has (call.Scan tx t) w = tt
      has (call.Put tx t key row) w = tt
      has (call.Close tx) w = tt
      has (call.Stamp tx n) w = has_in h.catalog s n (commit_in h.catalog s w.who) (commits_in h.catalog s h.transactions) (counted_in h.catalog s h.transactions w.who n w.among (counts_from s w.who n w.committed w.drew)) (number_is h.catalog s s w.who ∙ w.drew)
      has (call.Void tx m) w = tt
      has (call.DropTx tx) w = tt
      has call.Horizon w = tt
      has (call.Records from to) w = tt
      has (call.Purge upto) w = tt

  matched : (points : List Point) → Each (λ (q : Point). q.commit ≡ true → CommitOf h.transactions q) points → Matched points (commits_in h.catalog Mem h.transactions) (commits_in h.catalog Store h.transactions)
  matched [] k = tt
  matched (q ∷ qs) k = ((λ y. one (k.0 y)), matched qs k.1)
    where
      one : CommitOf h.transactions q → MatchedAt q (commits_in h.catalog Mem h.transactions) (commits_in h.catalog Store h.transactions)
      one w = record {
        ours = commit_in h.catalog Mem w.who;
        theirs = commit_in h.catalog Store w.who;
        one = one_in h.catalog Mem h.first.a q.a (commit_in h.catalog Mem w.who) (commits_in h.catalog Mem h.transactions) (rising Mem) (counted_in h.catalog Mem h.transactions w.who q.a w.among (counts_from Mem w.who q.a w.committed w.mem)) w.mem;
        other = one_in h.catalog Store h.first.b q.b (commit_in h.catalog Store w.who) (commits_in h.catalog Store h.transactions) (rising Store) (counted_in h.catalog Store h.transactions w.who q.b w.among (counts_from Store w.who q.b w.committed w.store)) w.store;
        labels = refl;
        ours_mem = w.mem;
        ours_store = w.store;
        theirs_mem = w.mem;
        theirs_store = w.store;
      }

  cross_pairs : (t : Transaction) (points : List Point) → Each (λ (q : Point). q.commit ≡ true → t.drew.mem ≡ Some q.a → t.drew.store ≡ Some q.b) points → CrossOk points (commit_in h.catalog Mem t)
  cross_pairs t [] k = tt
  cross_pairs t (q ∷ qs) k = (k.0, cross_pairs t qs k.1)

  pub is_run : IsRun (run_of h)
  is_run = record {
    weavable = record {
      climbs = l.stairs.1;
      mem_rises = rising Mem;
      store_rises = rising Store;
      mem_ok = commits_each h.catalog Mem (MemOk h.first h.points) h.transactions (λ t i n q a b e f m. (belongs t i).crossed a b (counts_is Mem t n q).0 e f);
      store_ok = commits_each h.catalog Store (StoreOk h.first h.points) h.transactions (λ t i n q a b e f m. (belongs t i).crossed a b (counts_is Store t n q).0 e f);
      cross_ok = commits_each h.catalog Mem (CrossOk h.points) h.transactions (λ t i n q. cross_pairs t h.points (belongs t i).paired);
      matched = matched h.points l.points;
    };
    owned = record {
      of_mem = commits_each h.catalog Mem (λ (c : Commit). Each (λ (w : Write). keeps Store h.catalog w.table ≡ false) c.writes) h.transactions
          (λ t i n q. each_weaker (λ (w : Write). owns h.catalog Mem w.table ≡ true) (λ (w : Write). keeps Store h.catalog w.table ≡ false) (λ w k. off (keeps Store h.catalog w.table) k) (commit_in h.catalog Mem t).writes (owned_writes h.catalog Mem t));
      of_store = commits_each h.catalog Store (λ (c : Commit). Each (λ (w : Write). keeps Store h.catalog w.table ≡ true) c.writes) h.transactions (λ t i n q. owned_writes h.catalog Store t);
    };
  }
    where
      off : (b : Bool) → not b ≡ true → b ≡ false
      off true e = absurd (false≢true e)
      off false e = refl
