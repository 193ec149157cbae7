-- What the engines say of a transaction's next commit step: it stands where it may close, no floor is past the counter, and a drawn number may be used.
use Rattle.std.specs.Prelude.{ℕ, List, [], ◌∷◌, ◌++◌, Option, Some, None, true, false, not, ◌≡◌, ◌≤◌}
use Rattle.std.proofs.Common.{refl, sym, ap, subst, ◌∙◌, ⊎_elim, arith}
use Rattle.std.proofs.lemmas.Bool.{cases_Bool, cond_both, cond-true, cond-false, false≢true, and_parts}
use Rattle.std.proofs.Math.Nat.{max-le}
use Rattle.sk_model.specs.declared.label.Label.{Label}
use Rattle.sk_model.specs.declared.engine.EngineName.{EngineName}
use Rattle.sk_model.specs.declared.call.EngineCall.{EngineCall}
use Rattle.sk_model.specs.declared.call.EngineCall.TheVariants as call
use Rattle.sk_model.specs.declared.call.EngineReply.{EngineReply}
use Rattle.sk_model.specs.declared.call.Entry.{Entry}
use Rattle.sk_model.specs.Records.{same_label, some_writes}
use Rattle.sk_model.specs.Engine.{EngineTable, Opening, opening_of}
use Rattle.sk_model.specs.EngineConditions.{may, floor_of, is_standing}
use Rattle.sk_model.specs.EngineChanges.{opening_at, change}
use Rattle.sk_model.specs.Legal.{step, after_entries, is_refusal, Allowed}
use Rattle.sk_model.specs.Calls.{ends}
use Rattle.sk_model.specs.Talks.{calls_in, wrote_by, wrote_in, tx_of, is_tx, is_by, entries_by}
use Rattle.sk_model.proofs.Lists.{Each, each_weaker, each_front}
use Rattle.sk_model.proofs.Labels.{same_itself, same_is, not_same_back}
use Rattle.sk_model.proofs.Quiet.{step_keeps}
use Rattle.sk_linked.specs.Reads.{snapshot_at, first_table}
use Rattle.sk_linked.specs.Traces.{drawn_at, Transaction, run_of, In, IsOwn, Whose, Known, Drew, Belongs, close_entry, owed}
use Rattle.sk_linked.specs.State.{of, Actor, transaction_of, Core, traces_of, table_of, counter}
use Rattle.sk_linked.specs.Invariant.{Shut, IsKept, Invariant}
use Rattle.sk_linked.proofs.Members.{in_each, each_in}
use Rattle.sk_linked.proofs.Projection.{shut, after_opening, opening_change, each_of_own, ends_by}
use Rattle.sk_linked.proofs.Grounds.{own_fits, may_use}
use Rattle.sk_linked.proofs.Going.{cut_same}
use Rattle.sk_linked.proofs.Moving.{first_drawn}
use Rattle.sk_linked.proofs.Applying.{each_mapped, in_mapped}
use Rattle.sk_linked.proofs.Seeing.{Sees, Freshly}

-- ---- who stands goes on standing until it ends

standing_after : (tx : Label) (g : ℕ) (c : EngineCall) (o : Option Opening) → ends tx c ≡ false → is_standing o ≡ true → is_standing (after_opening tx g c o) ≡ true
standing_after tx g (call.Open other s) o e h = cond_both (same_label tx other) (Some (opening_at s)) o (λ x. is_standing x ≡ true) (λ y. refl) (λ f. h)
standing_after tx g (call.Get other t key) o e h = h
standing_after tx g (call.Scan other t) o e h = h
standing_after tx g (call.Put other t key row) o e h = h
standing_after tx g (call.Close other) o e h = subst (λ x. is_standing x ≡ true) (sym (cond-false (same_label tx other) (shut g o) o e)) h
standing_after tx g (call.Stamp other n) o e h = subst (λ x. is_standing x ≡ true) (sym (cond-true (not (same_label other tx)) o None (ap not (not_same_back tx other e)))) h
standing_after tx g (call.Void other n) o e h = subst (λ x. is_standing x ≡ true) (sym (cond-true (not (same_label other tx)) o None (ap not (not_same_back tx other e)))) h
standing_after tx g (call.DropTx other) o e h = subst (λ x. is_standing x ≡ true) (sym (cond-true (not (same_label other tx)) o None (ap not (not_same_back tx other e)))) h
standing_after tx g call.Horizon o e h = h
standing_after tx g (call.Records from to) o e h = h
standing_after tx g (call.Purge upto) o e h = h

stays_standing : (tx : Label) (e : EngineTable) (js : List Entry) → Each (λ (j : Entry). ends tx j.call ≡ false) js → is_standing (opening_of e tx) ≡ true → is_standing (opening_of (after_entries e js) tx) ≡ true
stays_standing tx e [] q h = h
stays_standing tx e (j ∷ js) q h = stays_standing tx (step e j) js q.1
    (step_keeps (λ (f : EngineTable). is_standing (opening_of f tx) ≡ true) e j h (λ m r. subst (λ x. is_standing x ≡ true) (sym (opening_change tx e j.call)) (standing_after tx e.greatest j.call (opening_of e tx) q.0 h)))

-- who does not stand writes nothing
wrote_not : (tx : Label) (e : EngineTable) (c : EngineCall) (a : EngineReply) → may e c ≡ true → is_tx tx (tx_of c) ≡ true → is_standing (opening_of e tx) ≡ false → wrote_by c a ≡ []
wrote_not tx e (call.Open other s) a m t f = refl
wrote_not tx e (call.Get other u key) a m t f = refl
wrote_not tx e (call.Scan other u) a m t f = refl
wrote_not tx e (call.Put other u key row) a m t f = absurd (false≢true (sym f ∙ subst (λ l. is_standing (opening_of e l) ≡ true) (sym (same_is tx other t)) (and_parts (is_standing (opening_of e other)) _ m).0))
wrote_not tx e (call.Close other) a m t f = refl
wrote_not tx e (call.Stamp other n) a m t f = refl
wrote_not tx e (call.Void other n) a m t f = refl
wrote_not tx e (call.DropTx other) a m t f = refl
wrote_not tx e call.Horizon a m t f = refl
wrote_not tx e (call.Records from to) a m t f = refl
wrote_not tx e (call.Purge upto) a m t f = refl

-- who wrote and has ended nothing stands
stands : (tx : Label) (e : EngineTable) (js : List Entry) → Allowed e js → Each (λ (j : Entry). ends tx j.call ≡ false) js → some_writes (wrote_in (entries_by tx js)) ≡ true → is_standing (opening_of (after_entries e js) tx) ≡ true
stands tx e [] a q w = absurd (false≢true w)
stands tx e (j ∷ js) a q w = ⊎_elim
    (λ (y : is_standing (opening_of e tx) ≡ true). stays_standing tx e (j ∷ js) q y)
    (λ (f : is_standing (opening_of e tx) ≡ false). stands tx (step e j) js a.1 q.1 (skip f))
    (cases_Bool (is_standing (opening_of e tx)))
  where
    skip : is_standing (opening_of e tx) ≡ false → some_writes (wrote_in (entries_by tx js)) ≡ true
    skip f = ⊎_elim
        (λ (t : is_by tx j ≡ true). subst (λ ws. some_writes (ws ++ wrote_in (entries_by tx js)) ≡ true) (wrote_not tx e j.call j.reply a.0 t f)
        (subst (λ xs. some_writes (wrote_in xs) ≡ true) (cond-true (is_by tx j) (j ∷ entries_by tx js) (entries_by tx js) t) w))
        (λ (n : is_by tx j ≡ false). subst (λ xs. some_writes (wrote_in xs) ≡ true) (cond-false (is_by tx j) (j ∷ entries_by tx js) (entries_by tx js) n) w)
        (cases_Bool (is_by tx j))

-- ---- floors

-- a snapshot at which was opened is not past c
abbrev OpensUpto : ℕ → EngineCall → EngineReply → Type 0
OpensUpto c (call.Open tx s) reply = is_refusal reply ≡ false → s ≤ c
OpensUpto c (call.Get tx t key) reply = Unit {0}
OpensUpto c (call.Scan tx t) reply = Unit {0}
OpensUpto c (call.Put tx t key row) reply = Unit {0}
OpensUpto c (call.Close tx) reply = Unit {0}
OpensUpto c (call.Stamp tx n) reply = Unit {0}
OpensUpto c (call.Void tx n) reply = Unit {0}
OpensUpto c (call.DropTx tx) reply = Unit {0}
OpensUpto c call.Horizon reply = Unit {0}
OpensUpto c (call.Records from to) reply = Unit {0}
OpensUpto c (call.Purge upto) reply = Unit {0}

record FloorsUpto (c : ℕ) (e : EngineTable) : Type 0 where
  greatest : e.greatest ≤ c
  floor : (l : Label) → floor_of (opening_of e l) ≤ c

zero_upto : (c : ℕ) → 0 ≤ c
zero_upto c = omega arith

shut_upto : (c g : ℕ) (o : Option Opening) → g ≤ c → floor_of (shut g o) ≤ c
shut_upto c g None l = zero_upto c
shut_upto c g (Some o) l = l

floor_after : (c : ℕ) (l : Label) (g : ℕ) (call : EngineCall) (o : Option Opening) → g ≤ c → floor_of o ≤ c → floor_of (after_opening l g call o) ≤ c
floor_after c l g (call.Open other s) o q h = cond_both (same_label l other) (Some (opening_at s)) o (λ x. floor_of x ≤ c) (λ y. zero_upto c) (λ f. h)
floor_after c l g (call.Get other t key) o q h = h
floor_after c l g (call.Scan other t) o q h = h
floor_after c l g (call.Put other t key row) o q h = h
floor_after c l g (call.Close other) o q h = cond_both (same_label l other) (shut g o) o (λ x. floor_of x ≤ c) (λ y. shut_upto c g o q) (λ f. h)
floor_after c l g (call.Stamp other n) o q h = cond_both (not (same_label other l)) o None (λ x. floor_of x ≤ c) (λ y. h) (λ f. zero_upto c)
floor_after c l g (call.Void other n) o q h = cond_both (not (same_label other l)) o None (λ x. floor_of x ≤ c) (λ y. h) (λ f. zero_upto c)
floor_after c l g (call.DropTx other) o q h = cond_both (not (same_label other l)) o None (λ x. floor_of x ≤ c) (λ y. h) (λ f. zero_upto c)
floor_after c l g call.Horizon o q h = h
floor_after c l g (call.Records from to) o q h = h
floor_after c l g (call.Purge upto) o q h = h

greatest_change : (c : ℕ) (e : EngineTable) (call : EngineCall) (a : EngineReply) → OpensUpto c call a → is_refusal a ≡ false → e.greatest ≤ c → (change e call).greatest ≤ c
greatest_change c e (call.Open other s) a o r h = max-le h (o r)
greatest_change c e (call.Get other t key) a o r h = h
greatest_change c e (call.Scan other t) a o r h = h
greatest_change c e (call.Put other t key row) a o r h = h
greatest_change c e (call.Close other) a o r h = h
greatest_change c e (call.Stamp other n) a o r h = h
greatest_change c e (call.Void other n) a o r h = h
greatest_change c e (call.DropTx other) a o r h = h
greatest_change c e call.Horizon a o r h = h
greatest_change c e (call.Records from to) a o r h = h
greatest_change c e (call.Purge upto) a o r h = h

floors_all : (c : ℕ) (e : EngineTable) (js : List Entry) → Each (λ (j : Entry). OpensUpto c j.call j.reply) js → FloorsUpto c e → FloorsUpto c (after_entries e js)
floors_all c e [] q h = h
floors_all c e (j ∷ js) q h = floors_all c (step e j) js q.1 (step_keeps (FloorsUpto c) e j h (λ m r. record {
  greatest = greatest_change c e j.call j.reply q.0 r h.greatest;
  floor = λ l. subst (λ x. floor_of x ≤ c) (sym (opening_change l e j.call)) (floor_after c l e.greatest j.call (opening_of e l) h.greatest (h.floor l));
}))

module _ (k : Core) (inv : Invariant k) where
  -- who may still close, and wrote, stands
  pub closes_standing : (r : Actor) → In r k.actors → (name : EngineName) → of name r.wrote ≡ true → Each (λ (j : Entry). ends r.label j.call ≡ false) (calls_in name r.talk) → is_standing (opening_of (table_of k name) r.label) ≡ true
  closes_standing r among name w q =
      let b : Belongs (traces_of k) (transaction_of r) = each_in (Belongs (traces_of k)) (traces_of k).transactions (transaction_of r) inv.linked.each (in_mapped r k.actors among) in
      stands r.label (first_table (run_of (traces_of k)) name) (of name k.journals) (inv.linked.allowed name)
      (each_of_own r.label (λ (j : Entry). ends r.label j.call ≡ false) (λ j f. ends_by r.label j.call f) (of name k.journals) (subst (λ xs. Each (λ (j : Entry). ends r.label j.call ≡ false) xs) (sym (b.entries name)) q))
      (subst (λ xs. some_writes (wrote_in xs) ≡ true) (sym (b.entries name)) ((each_in (IsKept k.regs) k.actors r inv.actors among).wrote name w))

  -- a number that was drawn may be used where the close was the last call
  pub closed_may : (r : Actor) → In r k.actors → (name : EngineName) (n : ℕ) → of name r.shut ≡ true → drawn_at name r.drew ≡ Some n → may (table_of k name) (call.Stamp r.label n) ≡ true
  closed_may r among name n y e =
      let b : Belongs (traces_of k) (transaction_of r) = each_in (Belongs (traces_of k)) (traces_of k).transactions (transaction_of r) inv.linked.each (in_mapped r k.actors among) in
      let d : Drew (transaction_of r) name n = b.drew name n e in
      let w : Shut (transaction_of r) name = (each_in (IsKept k.regs) k.actors r inv.actors among).shut name y in
      may_use (traces_of k) inv.linked name (transaction_of r) (in_mapped r k.actors among) n e d
      (cut_same (ends r.label) d.before w.before (close_entry r.label d.floor) (close_entry r.label w.floor) d.tail (sym d.is ∙ w.is) w.none_ends (same_itself r.label))

module _ (k : Core) (inv : Invariant k) (h : Freshly k) where
  opened_upto : (s : EngineName) → Each (λ (x : Transaction). (n : ℕ) → snapshot_at s x.snapshots ≡ Some n → n ≤ counter s k.regs) (traces_of k).transactions
  opened_upto s = each_mapped (λ (x : Transaction). (n : ℕ) → snapshot_at s x.snapshots ≡ Some n → n ≤ counter s k.regs) k.actors
      (each_weaker (Sees k.regs) (λ (x : Actor). (n : ℕ) → snapshot_at s x.opened ≡ Some n → n ≤ counter s k.regs) (λ x q n e. (q.opened_past s n e).1) k.actors h.sees)

  all_opens : (s : EngineName) → Each (λ (j : Entry). OpensUpto (counter s k.regs) j.call j.reply) (of s k.journals)
  all_opens s = in_each (λ (j : Entry). OpensUpto (counter s k.regs) j.call j.reply) (of s k.journals) (λ j i. go j j.call refl i (each_in (λ (j : Entry). Known (traces_of k).transactions (tx_of j.call)) (of s k.journals) j (inv.linked.known s) i))
    where
      own : (j : Entry) (tx : Label) (n : ℕ) → j.call ≡ call.Open tx n → In j (of s k.journals) → (w : Whose (traces_of k).transactions tx) → IsOwn w.who s (call.Open tx n) j.reply
      own j tx n e i w =
          let by : is_by w.who.label j ≡ true = ap (λ (x : EngineCall). is_tx w.who.label (tx_of x)) e ∙ ap (same_label w.who.label) (sym w.is) ∙ same_itself w.who.label in
          subst (λ (x : EngineCall). IsOwn w.who s x j.reply) e
          (each_in (λ (j : Entry). is_by w.who.label j ≡ true → IsOwn w.who s j.call j.reply) (of s k.journals) j (each_front _ (of s k.journals) (owed s (traces_of k).transactions) (own_fits (traces_of k) inv.linked s w.who w.among)) i by)

      go : (j : Entry) (c : EngineCall) → j.call ≡ c → In j (of s k.journals) → Known (traces_of k).transactions (tx_of j.call) → OpensUpto (counter s k.regs) c j.reply
      go j (call.Open tx n) e i w = λ r.
          let who : Whose (traces_of k).transactions tx = subst (λ (c : EngineCall). Known (traces_of k).transactions (tx_of c)) e w in
          each_in (λ (x : Transaction). (n : ℕ) → snapshot_at s x.snapshots ≡ Some n → n ≤ counter s k.regs) (traces_of k).transactions who.who (opened_upto s) who.among n (own j tx n e i who r)
      go j (call.Get tx t key) e i w = tt
      go j (call.Scan tx t) e i w = tt
      go j (call.Put tx t key row) e i w = tt
      go j (call.Close tx) e i w = tt
      go j (call.Stamp tx n) e i w = tt
      go j (call.Void tx n) e i w = tt
      go j (call.DropTx tx) e i w = tt
      go j call.Horizon e i w = tt
      go j (call.Records from to) e i w = tt
      go j (call.Purge upto) e i w = tt

  -- no floor is past the counter
  pub floor_upto : (s : EngineName) (l : Label) → floor_of (opening_of (table_of k s) l) ≤ counter s k.regs
  floor_upto s l = (floors_all (counter s k.regs) (first_table (run_of (traces_of k)) s) (of s k.journals) (all_opens s) (record { greatest = first_drawn k.regs inv.sound s; floor = λ l. zero_upto (counter s k.regs) })).floor l
