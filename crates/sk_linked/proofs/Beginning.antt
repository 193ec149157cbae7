-- A transaction that begins keeps the invariant.
use Rattle.std.specs.Prelude.{ℕ, List, [], ◌∷◌, ◌++◌, Option, Some, None, true, false, ◌≡◌, ◌≤◌}
use Rattle.std.proofs.Common.{refl, sym, ap, subst, ◌∙◌, inl, ⊎_elim, arith}
use Rattle.std.proofs.lemmas.Bool.{cases_Bool, cond-true, cond-false, false≢true}
use Rattle.sk_model.specs.declared.label.Label.{Label}
use Rattle.sk_model.specs.declared.engine.EngineName.{EngineName}
use Rattle.sk_model.specs.declared.engine.EngineName.TheVariants.{Mem, Store}
use Rattle.sk_model.specs.declared.record.TxKind.{TxKind}
use Rattle.sk_model.specs.declared.record.TxKind.TheVariants as kind
use Rattle.sk_model.specs.declared.call.EngineCall.{EngineCall}
use Rattle.sk_model.specs.declared.call.EngineCall.TheVariants as call
use Rattle.sk_model.specs.declared.call.EngineReply.{EngineReply}
use Rattle.sk_model.specs.declared.call.EngineReply.TheVariants.{Done, Found, Rows, Number, Commits, Fault}
use Rattle.sk_model.specs.declared.call.Entry.{Entry}
use Rattle.sk_model.specs.Records.{same_label}
use Rattle.sk_model.specs.Talks.{wrote_in, tx_of, is_tx, is_by, entries_by}
use Rattle.sk_model.proofs.Lists.{Each, each_weaker}
use Rattle.sk_model.proofs.Labels.{same_itself}
use Rattle.sk_model.proofs.Numbered.{filter_none}
use Rattle.sk_weave.specs.Registry.{first_of}
use Rattle.sk_linked.specs.Reads.{PairIf, snapshot_at}
use Rattle.sk_linked.specs.declared.event.CoreReply.{CoreReply}
use Rattle.sk_linked.specs.declared.event.Event.TheVariants as event
use Rattle.sk_linked.specs.declared.event.CoreReply.TheVariants as reply
use Rattle.sk_linked.specs.Traces.{drawn_at, Transaction, Known, IsOwn, NotAgain, open_entry, In}
use Rattle.sk_linked.specs.State.{Both, of, Actor, Core, rest_of, traces_of}
use Rattle.sk_linked.specs.Plans.{Plan, nothing, only, answer, actor_in, newcomer, begin_mem, begin_plan}
use Rattle.sk_linked.specs.Machine.{entries_of}
use Rattle.sk_linked.specs.Invariant.{Invariant}
use Rattle.sk_linked.proofs.Members.{in_each, each_in, some_clash}
use Rattle.sk_linked.proofs.Going.{IsOwnCall, begins}
use Rattle.sk_linked.proofs.Makers.{made_by_none}
use Rattle.sk_linked.proofs.Moving.{stays}
use Rattle.sk_linked.proofs.Applying.{each_mapped, left_is, each_said, after_plan, Keeps}
use Rattle.sk_linked.proofs.Events.{none_false}

-- who is not there has another label
pub not_there : (tx : Label) (rs : List Actor) → actor_in tx rs ≡ None → Each (λ (r : Actor). same_label tx r.label ≡ false) rs
not_there tx [] e = tt
not_there tx (r ∷ rs) e = ⊎_elim
    (λ (y : same_label tx r.label ≡ true). some_clash (sym (cond-true (same_label tx r.label) (Some r) (actor_in tx rs) y) ∙ e))
    (λ (f : same_label tx r.label ≡ false). (f, not_there tx rs (sym (cond-false (same_label tx r.label) (Some r) (actor_in tx rs) f) ∙ e)))
    (cases_Bool (same_label tx r.label))

module _ (k : Core) (inv : Invariant k) (tx : Label) (none : actor_in tx k.actors ≡ None) (kind : TxKind) (said : CoreReply) (calls : Both (List EngineCall)) (mem chosen : Option ℕ) where
  abbrev plan : Plan
  plan = record { reply = said; calls = calls; regs = k.regs; who = newcomer k tx kind mem chosen }

  abbrev begun : Transaction
  begun = after_plan k (event.Begin tx kind) plan

  others : Each (λ (x : Transaction). same_label tx x.label ≡ false) (traces_of k).transactions
  others = each_mapped (λ (x : Transaction). same_label tx x.label ≡ false) k.actors (not_there tx k.actors none)

  -- no entry has its label yet
  no_entry : (j : Entry) → Known (traces_of k).transactions (tx_of j.call) → is_by tx j ≡ false
  no_entry j h = go (tx_of j.call) h
    where
      go : (o : Option Label) → Known (traces_of k).transactions o → is_tx tx o ≡ false
      go None h = refl
      go (Some l) h = ap (same_label tx) (sym h.is) ∙ each_in (λ (x : Transaction). same_label tx x.label ≡ false) (traces_of k).transactions h.who others h.among

  pub fresh : (s : EngineName) → entries_by tx (of s k.journals) ≡ []
  fresh s = filter_none (is_by tx) (of s k.journals) (each_weaker (λ (j : Entry). Known (traces_of k).transactions (tx_of j.call)) (λ (j : Entry). is_by tx j ≡ false) (λ j h. no_entry j h) (of s k.journals) (inv.linked.known s))

  pub record Starts : Type 0 where
    pub by : (s : EngineName) → Each (λ (j : Entry). is_by tx j ≡ true) (entries_of k plan s)
    pub own : (s : EngineName) → Each (λ (j : Entry). IsOwn begun s j.call j.reply) (entries_of k plan s)
    pub again : (s : EngineName) → NotAgain tx (entries_of k plan s)
    pub opened : (s : EngineName) (n : ℕ) → snapshot_at s begun.snapshots ≡ Some n → In (open_entry tx n) (entries_of k plan s)
    pub quiet : (s : EngineName) → wrote_in (entries_of k plan s) ≡ []
    pub none_store : entries_of k plan Store ≡ []
    pub pair : PairIf k.regs.points mem chosen
    pub anchor : (a : ℕ) → mem ≡ Some a → a ≤ k.regs.mem

  no_pair : (points : List _) (m : Option ℕ) → PairIf points m None
  no_pair points None = tt
  no_pair points (Some a) = tt

  no_number : (s : EngineName) → drawn_at s (newcomer k tx kind mem chosen).drew ≡ None
  no_number Mem = refl
  no_number Store = refl

  off : (s : EngineName) → of s (newcomer k tx kind mem chosen).wrote ≡ true → ⊥
  off Mem e = false≢true e
  off Store e = false≢true e

  pub starts : Starts → Keeps k (event.Begin tx kind) (Some plan)
  starts g l = record {
    more = [];
    moves = stays k.regs;
    sound = inv.sound;
    by = g.by;
    new = begins (traces_of k) begun (entries_of k plan) (record {
      live = refl;
      undrawn = no_number;
      fresh = fresh;
      left = left_is k plan;
      opened = g.opened;
      by = g.by;
      own = each_said (IsOwnCall begun) k plan g.own;
      again = λ s. subst (NotAgain tx) (left_is k plan s) (g.again s);
      alone = no_pair (first_of k.regs.points ∷ (rest_of k.regs.points ++ [])) mem;
    });
    unlike = λ s. in_each _ (traces_of k).transactions (λ x i f n a b. some_clash (sym a ∙ no_number s));
    stays = in_each _ (traces_of k).transactions (λ x i t c. absurd (false≢true (sym (each_in (λ (x : Transaction). same_label tx x.label ≡ false) (traces_of k).transactions x others i) ∙ t)));
    points = tt;
    made = sym (ap (λ ps. ps ++ []) (made_by_none (traces_of k).transactions tx others));
    kept = record {
      drew = λ s n e. some_clash (sym e ∙ no_number s);
      anchor = g.anchor;
      chosen = g.pair;
      unopened = λ y o. sym (left_is k plan Store) ∙ g.none_store;
      shut = λ s y. none_false s y;
      wrote = λ s y. absurd (off s y);
      silent = λ s f. ap wrote_in (sym (left_is k plan s)) ∙ g.quiet s;
    };
  }

module _ (k : Core) (inv : Invariant k) (tx : Label) (none : actor_in tx k.actors ≡ None) where
  begin_mem_keeps : (kind : TxKind) (a : EngineReply) → answer k Mem (call.Open tx k.regs.mem) ≡ a → Keeps k (event.Begin tx kind) (begin_mem k tx kind a)
  begin_mem_keeps kind Done e = starts k inv tx none kind (reply.Number k.regs.mem) (only Mem (call.Open tx k.regs.mem ∷ [])) (Some k.regs.mem) None (record {
    by = by;
    own = own;
    again = again;
    opened = opened;
    quiet = quiet;
    none_store = refl;
    pair = tt;
    anchor = λ a q. let same : a ≡ k.regs.mem = sym (some_is q) in omega (arith, same);
  })
    where
      some_is : {x y : ℕ} → Some x ≡ Some y → x ≡ y
      some_is q = cc

      p : Plan
      p = plan k inv tx none kind (reply.Number k.regs.mem) (only Mem (call.Open tx k.regs.mem ∷ [])) (Some k.regs.mem) None

      by : (s : EngineName) → Each (λ (j : Entry). is_by tx j ≡ true) (entries_of k p s)
      by Mem = (same_itself tx, tt)
      by Store = tt

      own : (s : EngineName) → Each (λ (j : Entry). IsOwn (after_plan k (event.Begin tx kind) p) s j.call j.reply) (entries_of k p s)
      own Mem = ((λ q. refl), tt)
      own Store = tt

      again : (s : EngineName) → NotAgain tx (entries_of k p s)
      again Mem = ((λ q. tt), tt)
      again Store = tt

      opened : (s : EngineName) (n : ℕ) → snapshot_at s (after_plan k (event.Begin tx kind) p).snapshots ≡ Some n → In (open_entry tx n) (entries_of k p s)
      opened Mem n q = inl (ap (λ m. open_entry tx m) (sym (some_is q)) ∙ ap (λ (a : EngineReply). record { call = call.Open tx k.regs.mem; reply = a }) (sym e))
      opened Store n q = some_clash (sym q)

      quiet : (s : EngineName) → wrote_in (entries_of k p s) ≡ []
      quiet Mem = refl
      quiet Store = refl
  begin_mem_keeps kind (Found row) e = tt
  begin_mem_keeps kind (Rows rows) e = tt
  begin_mem_keeps kind (Number n) e = tt
  begin_mem_keeps kind (Commits cs) e = tt
  begin_mem_keeps kind (Fault f) e = tt

  pub begin_keeps : (kind : TxKind) → Keeps k (event.Begin tx kind) (begin_plan k tx kind)
  begin_keeps kind.Cross = begin_mem_keeps kind.Cross (answer k Mem (call.Open tx k.regs.mem)) refl
  begin_keeps kind.Mem = begin_mem_keeps kind.Mem (answer k Mem (call.Open tx k.regs.mem)) refl
  begin_keeps kind.Store = starts k inv tx none kind.Store (reply.Number k.regs.store) nothing None (Some k.regs.store) (record {
    by = by;
    own = own;
    again = again;
    opened = opened;
    quiet = quiet;
    none_store = refl;
    pair = tt;
    anchor = λ a q. some_clash (sym q);
  })
    where
      p : Plan
      p = plan k inv tx none kind.Store (reply.Number k.regs.store) nothing None (Some k.regs.store)

      by : (s : EngineName) → Each (λ (j : Entry). is_by tx j ≡ true) (entries_of k p s)
      by Mem = tt
      by Store = tt

      own : (s : EngineName) → Each (λ (j : Entry). IsOwn (after_plan k (event.Begin tx kind.Store) p) s j.call j.reply) (entries_of k p s)
      own Mem = tt
      own Store = tt

      again : (s : EngineName) → NotAgain tx (entries_of k p s)
      again Mem = tt
      again Store = tt

      opened : (s : EngineName) (n : ℕ) → snapshot_at s (after_plan k (event.Begin tx kind.Store) p).snapshots ≡ Some n → In (open_entry tx n) (entries_of k p s)
      opened Mem n q = some_clash (sym q)
      opened Store n q = some_clash (sym q)

      quiet : (s : EngineName) → wrote_in (entries_of k p s) ≡ []
      quiet Mem = refl
      quiet Store = refl
