-- A call of the value in the slot, step by step.
use Rattle.std.proofs.Common.{◌≡◌, ◌≢◌, inl, inr, ℕ, true, List, [], ◌∷◌, ◌++◌, length, Option, Some, None, sym, ap, ◌∙◌, ⊎_elim, arith}
use Rattle.std.proofs.lemmas.List.{append-nil, length-append}
use Rattle.atomic_table.specs.Table.{Me, rest}
use Rattle.sk_booked.specs.declared.journaled.Journaled.{Ghosts}
use Rattle.sk_booked.specs.declared.view.Stage.TheVariants.{Holding}
use Rattle.sk_booked.specs.declared.view.View.{View}
use Rattle.sk_booked.specs.Writing.{Writes}
use Rattle.sk_booked.specs.Paths.{items_of}
use Rattle.sk_booked.specs.Plays.{at_stage, with_own, with_item}
use Rattle.sk_booked.specs.Answers.{IsHolding, Made}
use Rattle.sk_booked.proofs.Entries.{items_of-snoc}

abbrev value_in : {V : Type 0} → V → List (ℕ × Option V) → V
value_in x [] = x
value_in x ((n, None) ∷ more) = x
value_in x ((n, Some y) ∷ more) = y

module _ {V E : Type 0} where
  -- the value that is taken out is the one that the slot had
  pub taken_is : (m : Me (Option V) (View V E)) (x v : V) (r : Option V) → m.1 ≡ (0, Some x) ∷ [] → m.1 ≡ (0, r) ∷ rest m.1 → r ≡ Some v → x ≡ v
  taken_is m x v r slot found is = ap (value_in x) (sym slot ∙ (found ∙ ap (λ (o : Option V). (0, o) ∷ rest m.1) is))

  pub slot_there : (m : Me (Option V) (View V E)) (x : V) → m.1 ≡ (0, Some x) ∷ [] → (o : Option V) × (m.1 ≡ (0, o) ∷ rest m.1)
  slot_there m x slot = (Some x, slot ∙ ap (λ l. (0, Some x) ∷ rest l) (sym slot))

  -- a value is taken out of the slot, and another put in
  pub exchanged : (m n k : Me (Option V) (View V E)) (x y : V) → m.1 ≡ (0, Some x) ∷ [] → n ≡ (m.0, (0, None) ∷ rest m.1) → k ≡ (n.0, (0, Some y) ∷ rest n.1) → k ≡ (m.0, (0, Some y) ∷ [])
  exchanged m n k x y slot out in_ = in_ ∙ ((λ i. ((out i).0, (0, Some y) ∷ rest (out i).1)) ∙ (λ i. (m.0, (0, Some y) ∷ rest (slot i))))

module _ {V C R : Type 0} (j : Ghosts V C R) where
  abbrev Spot : Type 0
  Spot = Me (Option V) (View V (C × R))

  -- all that is known of the value once it was called and stands in the slot again
  pub record Exchanged (m k : Spot) (x y : V) (call : C) (reply : R) : Type 0 where
    pub holding : IsHolding j.journal j.ready x x m
    pub is : k ≡ (m.0, (0, Some y) ∷ [])
    pub is_ready : j.ready y
    pub is_kin : (first : V) → j.kin first x → j.kin first y
    pub given : j.gives x call reply y
    pub writes : Writes j.enters j.leaves (j.journal x) call reply (j.journal y)

  module _ (m k : Spot) (x y : V) (call : C) (reply : R) (e : Exchanged m k x y call reply) where
    abbrev h : IsHolding j.journal j.ready x x m
    h = e.holding

    pub now_live : k.0.live ≡ true
    now_live = ap (λ (s : Spot). s.0.live) e.is ∙ h.live

    pub now_alone : k.0.taken ≡ []
    now_alone = ap (λ (s : Spot). s.0.taken) e.is ∙ h.alone

    pub now_holding : k.0.stage ≡ Holding x
    now_holding = ap (λ (s : Spot). s.0.stage) e.is ∙ h.stage

    pub now_slot : k.1 ≡ (0, Some y) ∷ []
    now_slot = ap (λ (s : Spot). s.1) e.is

    was_seen : j.journal x ≡ k.0.base ++ items_of k.0.own.seen
    was_seen = h.journal_is ∙ (λ i. (sym e.is i).0.base ++ items_of (sym e.is i).0.own.seen)

    -- where the journal grew, the pair of call and reply is its new end
    grew : length (j.journal y) ≢ length (j.journal x) → (j.journal y ≡ j.journal x ++ (call, reply) ∷ []) × j.enters call reply
    grew ne = ⊎_elim (λ w. w) (λ w. absurd (ne (ap length w.0))) e.writes

    stayed : length (j.journal y) ≡ length (j.journal x) → (j.journal y ≡ j.journal x) × j.leaves call reply
    stayed same = ⊎_elim (λ w. absurd (let a = ap length w.0 in let b = length-append (j.journal x) ((call, reply) ∷ []) in omega arith)) (λ w. w) e.writes

    pub now_longer : length (j.journal y) ≢ length (j.journal x) → j.journal y ≡ (k.0.base ++ items_of k.0.own.seen) ++ (call, reply) ∷ []
    now_longer ne = (grew ne).0 ∙ ap (λ l. l ++ (call, reply) ∷ []) was_seen

    pub made_none : length (j.journal y) ≡ length (j.journal x) → Made j.journal j.ready j.kin j.gives j.enters j.leaves x m call reply k
    made_none same = record {
      behind = y;
      holding = record { live = now_live; alone = now_alone; stage = now_holding; slot = now_slot; is_ready = e.is_ready; journal_is = (stayed same).0 ∙ was_seen };
      is_kin = e.is_kin;
      given = e.given;
      tells = inr (ap (λ (s : Spot). s.0) e.is, (stayed same).1);
    }

    pub made_entry : (n : Spot) → length (j.journal y) ≢ length (j.journal x) → n ≡ (with_own k.0 (with_item k.0.own (call, reply)), k.1) → Made j.journal j.ready j.kin j.gives j.enters j.leaves x m call reply n
    made_entry n ne counted =
        let all : n ≡ (with_own m.0 (with_item m.0.own (call, reply)), (0, Some y) ∷ []) = counted ∙ (λ i. (with_own (e.is i).0 (with_item (e.is i).0.own (call, reply)), (e.is i).1)) in
        record {
          behind = y;
          holding = record {
            live = ap (λ (s : Spot). s.0.live) all ∙ h.live;
            alone = ap (λ (s : Spot). s.0.taken) all ∙ h.alone;
            stage = ap (λ (s : Spot). s.0.stage) all ∙ h.stage;
            slot = ap (λ (s : Spot). s.1) all;
            is_ready = e.is_ready;
            journal_is = (grew ne).0 ∙ (ap (λ l. l ++ (call, reply) ∷ []) h.journal_is ∙ (sym (items_of-snoc m.0.base m.0.own.seen m.0.own.path (call, reply)) ∙ (λ i. (sym all i).0.base ++ items_of (sym all i).0.own.seen)));
          };
          is_kin = e.is_kin;
          given = e.given;
          tells = inl (ap (λ (s : Spot). s.0) all, (grew ne).1);
        }

  -- the book is made: the value is put into its slot
  pub filled : (m n k : Spot) (value : V) → m.0.live ≡ true → m.0.taken ≡ [] → n ≡ (at_stage m.0 (Holding value), (0, None) ∷ []) → k ≡ (n.0, (0, Some value) ∷ rest n.1) → j.ready value
      → j.journal value ≡ m.0.base → m.0.own.seen ≡ [] → IsHolding j.journal j.ready value value k × (k ≡ (at_stage m.0 (Holding value), (0, Some value) ∷ []))
  filled m n k value live alone opened in_ is_ready is unseen =
      let all : k ≡ (at_stage m.0 (Holding value), (0, Some value) ∷ []) = in_ ∙ (λ i. ((opened i).0, (0, Some value) ∷ rest (opened i).1)) in (
        record {
          live = ap (λ (s : Spot). s.0.live) all ∙ live;
          alone = ap (λ (s : Spot). s.0.taken) all ∙ alone;
          stage = ap (λ (s : Spot). s.0.stage) all;
          slot = ap (λ (s : Spot). s.1) all;
          is_ready = is_ready;
          journal_is = is ∙ (sym (append-nil m.0.base) ∙ ((λ i. m.0.base ++ items_of (sym unseen i)) ∙ (λ i. (sym all i).0.base ++ items_of (sym all i).0.own.seen)));
        },
        all,
      )
