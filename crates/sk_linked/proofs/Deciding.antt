-- A draw and a check that passes keep the invariant.
use Rattle.std.specs.Prelude.{ℕ, List, [], ◌∷◌, ◌++◌, Some, None, Ok, true, false, ◌+◌, ◌≡◌, ◌<◌, ◌≤◌, ◌⊎◌}
use Rattle.std.proofs.Common.{refl, sym, ap, subst, ◌∙◌, inl, inr, ⊎_elim, arith}
use Rattle.std.proofs.lemmas.Bool.{false≢true}
use Rattle.std.proofs.lemmas.List.{append-nil}
use Rattle.sk_model.specs.declared.label.Label.{Label}
use Rattle.sk_model.specs.declared.engine.EngineName.{EngineName}
use Rattle.sk_model.specs.declared.engine.EngineName.TheVariants.{Mem, Store}
use Rattle.sk_model.specs.declared.record.Ending.TheVariants as ending
use Rattle.sk_model.specs.declared.point.Point.{Point}
use Rattle.sk_model.specs.declared.call.Entry.{Entry}
use Rattle.sk_model.specs.Records.{same_label, some_writes}
use Rattle.sk_model.specs.Calls.{ends}
use Rattle.sk_model.specs.Talks.{calls_in, wrote_in, is_by}
use Rattle.sk_model.proofs.Lists.{Each, each_weaker}
use Rattle.sk_weave.specs.Points.{commit_point}
use Rattle.sk_weave.specs.Registry.{Regs, IsSound, first_of, drawn, passes, after_check}
use Rattle.sk_linked.specs.Reads.{PairIf, number_at}
use Rattle.sk_weave.proofs.Registers.{steps_all_sound, take_steps}
use Rattle.sk_linked.specs.declared.event.Event.TheVariants as event
use Rattle.sk_linked.specs.declared.event.CoreReply.TheVariants as reply
use Rattle.sk_linked.specs.Traces.{Drawn, drawn_at, Transaction, In, close_entry, Belongs}
use Rattle.sk_linked.specs.State.{of, Actor, transaction_of, Core, rest_of, traces_of, counter}
use Rattle.sk_linked.specs.Plans.{Plan, nothing, stepped, with_drawn, after_draw, floor_in}
use Rattle.sk_linked.specs.Machine.{entries_of}
use Rattle.sk_linked.specs.Invariant.{Shut, IsKept, Invariant}
use Rattle.sk_linked.proofs.Others.{closed_opening}
use Rattle.sk_linked.proofs.Members.{in_each, each_in, some_clash, some_same}
use Rattle.sk_linked.proofs.Growing.{pair_more, grown}
use Rattle.sk_linked.proofs.Going.{Draws, draws_on, checks_on}
use Rattle.sk_linked.proofs.Moving.{Moves, append_moves, draw_mem_is, draw_store_is, drawn_ok, points_drawn, first_drawn, check_is}
use Rattle.sk_linked.proofs.Applying.{each_mapped, after_plan, Keeps}
use Rattle.sk_linked.proofs.Events.{made_now, made_same, belongs_now, kept_now, unlike_old, stays_live}

-- ---- the registry and the numbers after a draw

pub draw_moves : (r : Regs) (name : EngineName) (floor n : ℕ) → drawn (counter name r) floor ≡ Ok n → Moves r (after_draw name r floor) []
draw_moves r Mem floor n e =
    let d : n ≡ r.mem + 1 = (drawn_ok r.mem floor n e).0 in
    let l : r.mem ≤ n = omega (arith, d) in
    subst (λ (x : Regs). Moves r x []) (sym (draw_mem_is r floor n e)) (record { points = sym (append-nil r.points); counters = rises l })
  where
    rises : r.mem ≤ n → (s : EngineName) → counter s r ≤ counter s (record r { mem = n })
    rises l Mem = l
    rises l Store = omega arith
draw_moves r Store floor n e =
    let d : n ≡ r.store + 1 = (drawn_ok r.store floor n e).0 in
    let l : r.store ≤ n = omega (arith, d) in
    subst (λ (x : Regs). Moves r x []) (sym (draw_store_is r floor n e)) (record { points = sym (append-nil r.points); counters = rises l })
  where
    rises : r.store ≤ n → (s : EngineName) → counter s r ≤ counter s (record r { store = n })
    rises l Mem = omega arith
    rises l Store = l

draw_counter : (r : Regs) (name : EngineName) (floor n : ℕ) → drawn (counter name r) floor ≡ Ok n → counter name (after_draw name r floor) ≡ n
draw_counter r Mem floor n e = ap (counter Mem) (draw_mem_is r floor n e)
draw_counter r Store floor n e = ap (counter Store) (draw_store_is r floor n e)

draw_sound : (r : Regs) (name : EngineName) (floor : ℕ) → IsSound r → IsSound (after_draw name r floor)
draw_sound r Mem floor s = steps_all_sound r _ s ((take_steps r s).draws_mem floor)
draw_sound r Store floor s = steps_all_sound r _ s ((take_steps r s).draws_store floor)

drew_kept : (name : EngineName) (d : Drawn) (n : ℕ) → drawn_at name d ≡ None → (s : EngineName) (m : ℕ) → drawn_at s d ≡ Some m → drawn_at s (with_drawn name n d) ≡ Some m
drew_kept Mem d n none Mem m e = some_clash (sym e ∙ none)
drew_kept Mem d n none Store m e = e
drew_kept Store d n none Mem m e = e
drew_kept Store d n none Store m e = some_clash (sym e ∙ none)

drew_cases : (name : EngineName) (d : Drawn) (n : ℕ) (s : EngineName) (m : ℕ) → drawn_at s (with_drawn name n d) ≡ Some m → ((s ≡ name) × (m ≡ n)) ⊎ (drawn_at s d ≡ Some m)
drew_cases Mem d n Mem m e = inl (refl, sym (some_same e))
drew_cases Mem d n Store m e = inr e
drew_cases Store d n Mem m e = inr e
drew_cases Store d n Store m e = inl (refl, sym (some_same e))

-- a number behind the counter is no point's, and who has no storage number yet has no point
drew_paired : (name : EngineName) (r : Regs) (d : Drawn) (n : ℕ) → counter name r < n → drawn_at name d ≡ None → (qs : List Point) → Each (λ (q : Point). (q.a ≤ r.mem) × (q.b ≤ r.store)) qs
    → Each (λ (q : Point). q.commit ≡ true → d.mem ≡ Some q.a → d.store ≡ Some q.b) qs → Each (λ (q : Point). q.commit ≡ true → (with_drawn name n d).mem ≡ Some q.a → (with_drawn name n d).store ≡ Some q.b) qs
drew_paired name r d n l none [] h k = tt
drew_paired name r d n l none (q ∷ qs) h k = (one name l none, drew_paired name r d n l none qs h.1 k.1)
  where
    one : (name : EngineName) → counter name r < n → drawn_at name d ≡ None → q.commit ≡ true → (with_drawn name n d).mem ≡ Some q.a → (with_drawn name n d).store ≡ Some q.b
    one Mem l none c e = let same : n ≡ q.a = some_same e in let a : q.a ≤ r.mem = h.0.0 in absurd (omega (arith, l, same, a))
    one Store l none c e = some_clash (sym (k.0 c e) ∙ none)

module _ (k : Core) (inv : Invariant k) (r : Actor) (among : In r k.actors) (live : r.committed ≡ false) where
  b : Belongs (traces_of k) (transaction_of r)
  b = belongs_now k inv r among

  kept : IsKept k.regs r
  kept = kept_now k inv r among

  all_drawn : (s : EngineName) → Each (λ (x : Transaction). (m : ℕ) → drawn_at s x.drew ≡ Some m → m ≤ counter s k.regs) (traces_of k).transactions
  all_drawn s = each_mapped (λ (x : Transaction). (m : ℕ) → drawn_at s x.drew ≡ Some m → m ≤ counter s k.regs) k.actors (each_weaker (IsKept k.regs) (λ (x : Actor). (m : ℕ) → drawn_at s x.drew ≡ Some m → m ≤ counter s k.regs) (λ x q m e. q.drew s m e) k.actors inv.actors)

  -- what no call changes
  shut_same : (t : Transaction) → t.label ≡ r.label → t.talk ≡ r.talk ++ [] → (s : EngineName) → Shut (transaction_of r) s → Shut t s
  shut_same t l e s w = record {
    before = w.before;
    floor = w.floor;
    is = ap (calls_in s) (e ∙ append-nil r.talk) ∙ w.is ∙ ap (λ (x : Label). w.before ++ close_entry x w.floor ∷ []) (sym l);
    none_ends = subst (λ (x : Label). Each (λ (j : Entry). ends x j.call ≡ false) w.before) (sym l) w.none_ends;
  }

  wrote_same : (s : EngineName) → wrote_in (calls_in s (r.talk ++ [])) ≡ wrote_in (calls_in s r.talk)
  wrote_same s = ap (λ t. wrote_in (calls_in s t)) (append-nil r.talk)

  -- ---- a draw

  module _ (tx : Label) (name : EngineName) (n : ℕ) (e : drawn (counter name k.regs) (floor_in k r name) ≡ Ok n) (shut : of name r.shut ≡ true) (wrote : of name r.wrote ≡ true) (none : drawn_at name r.drew ≡ None) where
    abbrev drawing_plan : Plan
    drawing_plan = record { reply = reply.Number n; calls = nothing; regs = after_draw name k.regs (floor_in k r name); who = record (stepped r) { drew = with_drawn name n r.drew } }

    moves : Moves k.regs (after_draw name k.regs (floor_in k r name)) []
    moves = draw_moves k.regs name (floor_in k r name) n e

    behind_counter : n ≡ counter name k.regs + 1
    behind_counter = (drawn_ok (counter name k.regs) (floor_in k r name) n e).0

    closed : Shut (transaction_of r) name
    closed = kept.shut name shut

    floor_is : floor_in k r name ≡ closed.floor
    floor_is = (closed_opening name k.catalog k.rows (number_at name (first_of k.regs.points)) (of name k.journals) closed.before r.label closed.floor (inv.linked.legal name) (inv.linked.allowed name) (b.entries name ∙ closed.is)).1

    draws : Draws (traces_of k) (transaction_of r) b live name n (with_drawn name n r.drew)
    draws =
        let up : n ≡ counter name k.regs + 1 = behind_counter in
        let low : floor_in k r name ≤ counter name k.regs = (drawn_ok (counter name k.regs) (floor_in k r name) n e).1 in
        let floor : floor_in k r name ≡ closed.floor = floor_is in
        let first : number_at name (first_of k.regs.points) ≤ counter name k.regs = first_drawn k.regs inv.sound name in
        record {
          kept = drew_kept name r.drew n none;
          cases = drew_cases name r.drew n;
          shut = closed;
          wrote = kept.wrote name wrote;
          past = omega (arith, up, low, floor);
          first = omega (arith, up, first);
          paired = drew_paired name k.regs r.drew n (omega (arith, up)) none (rest_of k.regs.points) (points_drawn k.regs inv.sound) b.paired;
        }

    no_entries : (s : EngineName) → [] ≡ entries_of k drawing_plan s
    no_entries Mem = refl
    no_entries Store = refl

    by_none : (s : EngineName) → Each (λ (j : Entry). is_by r.label j ≡ true) (entries_of k drawing_plan s)
    by_none Mem = tt
    by_none Store = tt

    unlike : (s : EngineName) → Each (λ (x : Transaction). same_label r.label x.label ≡ false → (m : ℕ) → drawn_at s (with_drawn name n r.drew) ≡ Some m → drawn_at s x.drew ≡ Some m → ⊥) (traces_of k).transactions
    unlike s = in_each _ (traces_of k).transactions (λ x i f m a c. ⊎_elim
        (λ (q : (s ≡ name) × (m ≡ n)).
        let up : n ≡ counter name k.regs + 1 = behind_counter in
        let low : m ≤ counter name k.regs = subst (λ (y : EngineName). m ≤ counter y k.regs) q.0 (each_in (λ (x : Transaction). (m : ℕ) → drawn_at s x.drew ≡ Some m → m ≤ counter s k.regs) (traces_of k).transactions x (all_drawn s) i m c) in
        let same : m ≡ n = q.1 in
        omega (arith, up, low, same))
        (λ (q : drawn_at s r.drew ≡ Some m). each_in _ (traces_of k).transactions x (unlike_old k inv r among s) i f m q c)
        (drew_cases name r.drew n s m a))

    pub draw_keeps : Keeps k (event.Draw tx name) (Some drawing_plan)
    draw_keeps l = record {
      more = [];
      moves = moves;
      sound = draw_sound k.regs name (floor_in k r name) inv.sound;
      by = by_none;
      new = subst (λ (es : EngineName → List Entry). Belongs (grown (traces_of k) (after_plan k (event.Draw tx name) drawing_plan) es []) (after_plan k (event.Draw tx name) drawing_plan)) (λ i s. no_entries s i)
          (draws_on (traces_of k) (transaction_of r) b live name n (with_drawn name n r.drew) draws);
      unlike = unlike;
      stays = stays_live k inv r among live r.committed (with_drawn name n r.drew);
      points = tt;
      made = made_same k inv r among;
      kept = record {
        drew = λ s m q. ⊎_elim
            (λ (c : (s ≡ name) × (m ≡ n)).
            let at : counter name (after_draw name k.regs (floor_in k r name)) ≡ n = draw_counter k.regs name (floor_in k r name) n e in
            subst (λ (y : EngineName). m ≤ counter y (after_draw name k.regs (floor_in k r name))) (sym c.0) (let same : m ≡ n = c.1 in omega (arith, at, same)))
            (λ (c : drawn_at s r.drew ≡ Some m). let x : m ≤ counter s k.regs = kept.drew s m c in let y : counter s k.regs ≤ counter s (after_draw name k.regs (floor_in k r name)) = moves.counters s in omega (arith, x, y))
            (drew_cases name r.drew n s m q);
        anchor = λ m q. let x : m ≤ k.regs.mem = kept.anchor m q in let y : k.regs.mem ≤ (after_draw name k.regs (floor_in k r name)).mem = moves.counters Mem in omega (arith, x, y);
        chosen = subst (λ ps. PairIf ps r.opened.mem r.chosen) (sym moves.points) (pair_more k.regs.points [] r.opened.mem r.chosen kept.chosen);
        unopened = λ y o. absurd (false≢true y);
        shut = λ s y. shut_same (after_plan k (event.Draw tx name) drawing_plan) refl refl s (kept.shut s y);
        wrote = λ s y. ap some_writes (wrote_same s) ∙ kept.wrote s y;
        silent = λ s f. wrote_same s ∙ kept.silent s f;
      };
    }

  -- ---- a check that passes

  module _ (tx : Label) (ca cb : ℕ) (em : r.drew.mem ≡ Some ca) (es : r.drew.store ≡ Some cb) (passed : passes k.regs ca cb ≡ true) (shut_mem : r.shut.mem ≡ true) (shut_store : r.shut.store ≡ true) where
    abbrev passing_plan : Plan
    passing_plan = record {
      reply = reply.Point (Some (commit_point ca cb));
      calls = nothing;
      regs = after_check k.regs ca cb;
      who = record (stepped r) { committed = true; ending = ending.Committed; made = r.made ++ commit_point ca cb ∷ [] };
    }

    pass_moves : Moves k.regs (after_check k.regs ca cb) (commit_point ca cb ∷ [])
    pass_moves = subst (λ (x : Regs). Moves k.regs x (commit_point ca cb ∷ [])) (sym (check_is k.regs ca cb passed)) (append_moves k.regs (commit_point ca cb))

    both_shut : (s : EngineName) → Shut (transaction_of r) s
    both_shut Mem = kept.shut Mem shut_mem
    both_shut Store = kept.shut Store shut_store

    nothing_left : (s : EngineName) → [] ≡ entries_of k passing_plan s
    nothing_left Mem = refl
    nothing_left Store = refl

    pass_by : (s : EngineName) → Each (λ (j : Entry). is_by r.label j ≡ true) (entries_of k passing_plan s)
    pass_by Mem = tt
    pass_by Store = tt

    pub pass_keeps : Keeps k (event.Check tx) (Some passing_plan)
    pass_keeps l = record {
      more = commit_point ca cb ∷ [];
      moves = pass_moves;
      sound = subst IsSound (sym (check_is k.regs ca cb passed)) (steps_all_sound k.regs _ inv.sound ((take_steps k.regs inv.sound).checks ca cb (kept.drew Mem ca em) (kept.drew Store cb es) passed));
      by = pass_by;
      new = subst (λ (xs : EngineName → List Entry). Belongs (grown (traces_of k) (after_plan k (event.Check tx) passing_plan) xs (commit_point ca cb ∷ [])) (after_plan k (event.Check tx) passing_plan)) (λ i s. nothing_left s i)
          (checks_on (traces_of k) (transaction_of r) b live (r.made ++ commit_point ca cb ∷ []) ca cb em es both_shut);
      unlike = unlike_old k inv r among;
      stays = stays_live k inv r among live true r.drew;
      points = ((λ c. (refl, em, es)), tt);
      made = ap (λ ps. ps ++ commit_point ca cb ∷ []) (sym (made_now k inv r among));
      kept = record {
        drew = λ s m q. let x : m ≤ counter s k.regs = kept.drew s m q in let y : counter s k.regs ≤ counter s (after_check k.regs ca cb) = pass_moves.counters s in omega (arith, x, y);
        anchor = λ m q. let x : m ≤ k.regs.mem = kept.anchor m q in let y : k.regs.mem ≤ (after_check k.regs ca cb).mem = pass_moves.counters Mem in omega (arith, x, y);
        chosen = subst (λ ps. PairIf ps r.opened.mem r.chosen) (sym pass_moves.points) (pair_more k.regs.points (commit_point ca cb ∷ []) r.opened.mem r.chosen kept.chosen);
        unopened = λ y o. absurd (false≢true y);
        shut = λ s y. shut_same (after_plan k (event.Check tx) passing_plan) refl refl s (kept.shut s y);
        wrote = λ s y. ap some_writes (wrote_same s) ∙ kept.wrote s y;
        silent = λ s f. wrote_same s ∙ kept.silent s f;
      };
    }
