-- A plan whose transaction belongs to the traces still keeps the invariant.
use Rattle.std.specs.Prelude.{ℕ, List, [], ◌∷◌, ◌++◌, Option, Some, None, Bool, true, false, cond, ◌≡◌, ◌≤◌, map}
use Rattle.std.proofs.Common.{refl, sym, ap, subst, ◌∙◌, inl, inr, ⊎_elim, arith}
use Rattle.std.proofs.lemmas.Bool.{cond_both, and_parts}
use Rattle.std.proofs.lemmas.List.{append-nil}
use Rattle.std.proofs.lemmas.List.Concat.{flat_map-append}
use Rattle.sk_model.specs.declared.label.Label.{Label}
use Rattle.sk_model.specs.declared.engine.EngineName.{EngineName}
use Rattle.sk_model.specs.declared.engine.EngineName.TheVariants.{Mem, Store}
use Rattle.sk_model.specs.declared.point.Point.{Point}
use Rattle.sk_model.specs.declared.call.EngineCall.{EngineCall}
use Rattle.sk_model.specs.declared.call.Entry.{Entry}
use Rattle.sk_model.specs.Records.{same_label}
use Rattle.sk_model.specs.Engine.{EngineTable}
use Rattle.sk_model.specs.EngineConditions.{may}
use Rattle.sk_model.specs.Legal.{step, due, Legal, Allowed}
use Rattle.sk_model.specs.Talks.{OwnCall, call_in, calls_in, is_by}
use Rattle.sk_model.proofs.Lists.{Each, each_append, each_weaker}
use Rattle.sk_model.proofs.Labels.{same_is}
use Rattle.sk_weave.specs.Points.{Staircase}
use Rattle.sk_weave.specs.Registry.{Regs, IsSound, first_of}
use Rattle.sk_linked.specs.Reads.{PairIf}
use Rattle.sk_linked.specs.declared.event.Event.{Event}
use Rattle.sk_linked.specs.Traces.{drawn_at, Transaction, Traces, In, Belongs, Distinct, Linked}
use Rattle.sk_linked.specs.State.{Both, of, Actor, transaction_of, Flush, Core, rest_of, traces_of, table_of, counter}
use Rattle.sk_linked.specs.Plans.{Plan}
use Rattle.sk_linked.specs.Machine.{entered, may_all, lets, entries_of, calls_on, talk_of, recorded, put_actor, applied, taken, Next, not_now}
use Rattle.sk_linked.specs.Invariant.{IsKept, IsCutOf, Invariant}
use Rattle.sk_linked.proofs.Members.{in_front}
use Rattle.sk_linked.proofs.Growing.{put_transaction, pair_more, OwnPoint, grown, linked_grows}
use Rattle.sk_linked.proofs.Makers.{made_by, made_grows}
use Rattle.sk_linked.proofs.Moving.{Moves, first_stays, rest_grows, stairs_of}

-- ---- the entries of a plan

entered_legal : (e : EngineTable) (cs : List EngineCall) → Legal e (entered e cs)
entered_legal e [] = tt
entered_legal e (c ∷ cs) = (inr refl, entered_legal (step e (record { call = c; reply = due e c })) cs)

entered_allowed : (e : EngineTable) (cs : List EngineCall) → may_all e cs ≡ true → Allowed e (entered e cs)
entered_allowed e [] h = tt
entered_allowed e (c ∷ cs) h =
    let parts : (may e c ≡ true) × (may_all (step e (record { call = c; reply = due e c })) cs ≡ true) = and_parts (may e c) (may_all (step e (record { call = c; reply = due e c })) cs) h in
    (parts.0, entered_allowed (step e (record { call = c; reply = due e c })) cs parts.1)

pub lets_in : (k : Core) (calls : Both (List EngineCall)) (name : EngineName) → lets k calls ≡ true → may_all (table_of k name) (of name calls) ≡ true
lets_in k calls Mem h = (and_parts (may_all (table_of k Mem) calls.mem) (may_all (table_of k Store) calls.store) h).0
lets_in k calls Store h = (and_parts (may_all (table_of k Mem) calls.mem) (may_all (table_of k Store) calls.store) h).1

-- from calls to their entries
pub each_entered : (P : Entry → Type 0) (e : EngineTable) (cs : List EngineCall) → Each (λ (c : EngineCall). (f : EngineTable) → P (record { call = c; reply = due f c })) cs → Each P (entered e cs)
each_entered P e [] h = tt
each_entered P e (c ∷ cs) h = (h.0 e, each_entered P (step e (record { call = c; reply = due e c })) cs h.1)

on_same : (name : EngineName) (js : List Entry) → calls_in name (calls_on name js) ≡ js
on_same Mem [] = refl
on_same Mem (j ∷ js) = ap (λ xs. j ∷ xs) (on_same Mem js)
on_same Store [] = refl
on_same Store (j ∷ js) = ap (λ xs. j ∷ xs) (on_same Store js)

pub mem_on_store : (js : List Entry) → calls_in Mem (calls_on Store js) ≡ []
mem_on_store [] = refl
mem_on_store (j ∷ js) = mem_on_store js

store_on_mem : (js : List Entry) → calls_in Store (calls_on Mem js) ≡ []
store_on_mem [] = refl
store_on_mem (j ∷ js) = store_on_mem js

-- the calls of a plan on an engine are what its talk says there
pub left_is : (k : Core) (p : Plan) (name : EngineName) → entries_of k p name ≡ calls_in name (talk_of k p)
left_is k p Mem = sym (flat_map-append (call_in Mem) (calls_on Mem (entries_of k p Mem)) (calls_on Store (entries_of k p Store))
    ∙ ap (λ xs. xs ++ calls_in Mem (calls_on Store (entries_of k p Store))) (on_same Mem (entries_of k p Mem)) ∙ ap (λ xs. entries_of k p Mem ++ xs) (mem_on_store (entries_of k p Store)) ∙ append-nil (entries_of k p Mem))
left_is k p Store = sym (flat_map-append (call_in Store) (calls_on Mem (entries_of k p Mem)) (calls_on Store (entries_of k p Store))
    ∙ ap (λ xs. xs ++ calls_in Store (calls_on Store (entries_of k p Store))) (store_on_mem (entries_of k p Mem)) ∙ on_same Store (entries_of k p Store))

each_on : (P : OwnCall → Type 0) (name : EngineName) (js : List Entry) → Each (λ (j : Entry). P (record { engine = name; entry = j })) js → Each P (calls_on name js)
each_on P name [] h = tt
each_on P name (j ∷ js) h = (h.0, each_on P name js h.1)

pub each_said : (P : OwnCall → Type 0) (k : Core) (p : Plan) → ((name : EngineName) → Each (λ (j : Entry). P (record { engine = name; entry = j })) (entries_of k p name)) → Each P (talk_of k p)
each_said P k p h = each_append P (calls_on Mem (entries_of k p Mem)) (calls_on Store (entries_of k p Store)) (each_on P Mem (entries_of k p Mem) (h Mem)) (each_on P Store (entries_of k p Store) (h Store))

-- ---- the list of transactions

map_put : (r : Actor) (rs : List Actor) → put_transaction (transaction_of r) (map transaction_of rs) ≡ map transaction_of (put_actor r rs)
map_put r [] = refl
map_put r (x ∷ xs) = ap (λ ts. cond (same_label r.label x.label) (transaction_of r ∷ map transaction_of xs) (transaction_of x ∷ ts)) (map_put r xs) ∙ split (same_label r.label x.label)
  where
    split : (b : Bool) → cond b (transaction_of r ∷ map transaction_of xs) (transaction_of x ∷ map transaction_of (put_actor r xs)) ≡ map transaction_of (cond b (r ∷ xs) (x ∷ put_actor r xs))
    split true = refl
    split false = refl

pub each_mapped : (P : Transaction → Type 0) (rs : List Actor) → Each (λ (r : Actor). P (transaction_of r)) rs → Each P (map transaction_of rs)
each_mapped P [] h = tt
each_mapped P (r ∷ rs) h = (h.0, each_mapped P rs h.1)

pub in_mapped : (r : Actor) (rs : List Actor) → In r rs → In (transaction_of r) (map transaction_of rs)
in_mapped r [] i = absurd i
in_mapped r (x ∷ xs) i = ⊎_elim (λ (e : r ≡ x). inl (ap transaction_of e)) (λ (k : In r xs). inr (in_mapped r xs k)) i

abbrev pub Other : (Actor → Type 0) → Actor → Actor → Type 0
Other Q r x = same_label r.label x.label ≡ false → Q x

pub each_put_actor : (Q : Actor → Type 0) (r : Actor) (xs : List Actor) → Q r → Each (Other Q r) xs → Distinct (map transaction_of xs) → Each Q (put_actor r xs)
each_put_actor Q r [] q h d = (q, tt)
each_put_actor Q r (x ∷ xs) q h d = cond_both (same_label r.label x.label) (r ∷ xs) (x ∷ put_actor r xs) (λ (ys : List Actor). Each Q ys)
    (λ e. (q, rest e xs d.0 h.1))
    (λ e. (h.0 e, each_put_actor Q r xs q h.1 d.1))
  where
    rest : same_label r.label x.label ≡ true → (ys : List Actor) → Each (λ (u : Transaction). same_label x.label u.label ≡ false) (map transaction_of ys) → Each (Other Q r) ys → Each Q ys
    rest e [] f g = tt
    rest e (y ∷ ys) f g = (g.0 (ap (λ (l : Label). same_label l y.label) (same_is r.label x.label e) ∙ f.0), rest e ys f.1 g.1)

-- ---- what a plan has to meet

abbrev pub after_plan : Core → Event → Plan → Transaction
after_plan k e p = transaction_of (recorded k e p)

pub record Keeping (k : Core) (e : Event) (p : Plan) : Type 0 where
  pub more : List Point
  pub moves : Moves k.regs p.regs more
  pub sound : IsSound p.regs
  pub by : (name : EngineName) → Each (λ (j : Entry). is_by p.who.label j ≡ true) (entries_of k p name)
  pub new : Belongs (grown (traces_of k) (after_plan k e p) (entries_of k p) more) (after_plan k e p)
  pub unlike : (name : EngineName) → Each (λ (x : Transaction). same_label p.who.label x.label ≡ false → (n : ℕ) → drawn_at name p.who.drew ≡ Some n → drawn_at name x.drew ≡ Some n → ⊥) (traces_of k).transactions
  pub stays : Each (λ (x : Transaction). same_label p.who.label x.label ≡ true → x.committed ≡ true → (p.who.committed ≡ true) × ((name : EngineName) → drawn_at name p.who.drew ≡ drawn_at name x.drew)) (traces_of k).transactions
  pub points : Each (OwnPoint (after_plan k e p)) more
  pub made : p.who.made ≡ made_by p.who.label (traces_of k).transactions ++ more
  pub kept : IsKept p.regs (recorded k e p)

pub kept_later : (a b : Regs) (more : List Point) → Moves a b more → (r : Actor) → IsKept a r → IsKept b r
kept_later a b more m r h = record {
  drew = λ s n e. let x : n ≤ counter s a = h.drew s n e in let y : counter s a ≤ counter s b = m.counters s in omega arith;
  anchor = λ n e. let x : n ≤ a.mem = h.anchor n e in let y : a.mem ≤ b.mem = m.counters Mem in omega arith;
  chosen = subst (λ ps. PairIf ps r.opened.mem r.chosen) (sym m.points) (pair_more a.points more r.opened.mem r.chosen h.chosen);
  unopened = h.unopened;
  shut = h.shut;
  wrote = h.wrote;
  silent = h.silent;
}

pub in_later : (points after more : List Point) (q : Point) → after ≡ points ++ more → In q points → In q after
in_later points after more q e i = subst (λ ps. In q ps) (sym e) (in_front q points more i)

pub cut_later : (points after more : List Point) (f : Option Flush) → after ≡ points ++ more → IsCutOf points f → IsCutOf after f
cut_later points after more None e h = tt
cut_later points after more (Some f) e h = in_later points after more f.cut e h

journal_is : (k : Core) (e : Event) (p : Plan) (name : EngineName) → of name k.journals ++ entries_of k p name ≡ of name (applied k e p).journals
journal_is k e p Mem = refl
journal_is k e p Store = refl

pub applied_keeps : (k : Core) (e : Event) (p : Plan) → Invariant k → lets k p.calls ≡ true → Keeping k e p → Invariant (applied k e p)
applied_keeps k e p i l g =
    let before : Traces = grown (traces_of k) (after_plan k e p) (entries_of k p) g.more in
    let first : first_of k.regs.points ≡ first_of p.regs.points = sym (first_stays k.regs p.regs g.more i.sound g.moves) in
    let rest : rest_of k.regs.points ++ g.more ≡ rest_of p.regs.points = sym (rest_grows k.regs p.regs g.more i.sound g.moves) in
    let same : before ≡ traces_of (applied k e p) = λ x. record {
      catalog = k.catalog;
      rows = k.rows;
      first = first x;
      points = rest x;
      journals = λ name. journal_is k e p name x;
      transactions = map_put (recorded k e p) k.actors x;
    } in
    record {
      sorted = i.sorted;
      sound = g.sound;
      durable = in_later k.regs.points p.regs.points g.more k.durable g.moves.points i.durable;
      flush = cut_later k.regs.points p.regs.points g.more k.flush g.moves.points i.flush;
      linked = subst Linked same (linked_grows (traces_of k) (after_plan k e p) (entries_of k p) g.more i.linked (record {
        legal = λ s. entered_legal (table_of k s) (of s p.calls);
        allowed = λ s. entered_allowed (table_of k s) (of s p.calls) (lets_in k p.calls s l);
        own = g.by;
        stairs = stairs;
        new = g.new;
        unlike = g.unlike;
        stays = g.stays;
        points = g.points;
        made = made_grows (traces_of k) (after_plan k e p) (entries_of k p) g.more i.linked.distinct stairs g.made i.linked.made;
      }));
      actors = each_put_actor (IsKept p.regs) (recorded k e p) k.actors g.kept
          (each_weaker (IsKept k.regs) (Other (IsKept p.regs) (recorded k e p)) (λ x q f. kept_later k.regs p.regs g.more g.moves x q) k.actors i.actors) i.linked.distinct;
    }
  where
    first_back : first_of p.regs.points ≡ first_of k.regs.points
    first_back = first_stays k.regs p.regs g.more i.sound g.moves

    rest_back : rest_of p.regs.points ≡ rest_of k.regs.points ++ g.more
    rest_back = rest_grows k.regs p.regs g.more i.sound g.moves

    stairs : Staircase (first_of k.regs.points ∷ (rest_of k.regs.points ++ g.more))
    stairs = subst Staircase (λ x. first_back x ∷ rest_back x) (stairs_of p.regs g.sound)

-- whatever the plan is, the machine after it keeps the invariant
abbrev pub Keeps : Core → Event → Option Plan → Type 0
Keeps k e None = Unit {0}
Keeps k e (Some p) = lets k p.calls ≡ true → Keeping k e p

pub taken_keeps : (k : Core) (e : Event) (o : Option Plan) → Invariant k → Keeps k e o → Invariant (taken k e o).core
taken_keeps k e None i h = i
taken_keeps k e (Some p) i h = cond_both (lets k p.calls) (record { core = applied k e p; reply = p.reply }) (not_now k) (λ (n : Next). Invariant n.core) (λ l. applied_keeps k e p i l (h l)) (λ l. i)

pub keeps_when : (k : Core) (e : Event) (b : Bool) (o : Option Plan) → (b ≡ true → Keeps k e o) → Keeps k e (cond b o None)
keeps_when k e b o f = cond_both b o None (λ (x : Option Plan). Keeps k e x) f (λ l. tt)
