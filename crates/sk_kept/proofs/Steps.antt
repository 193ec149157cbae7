-- A call of one transaction keeps what holds at every moment.
use Rattle.std.specs.Prelude.{◌≡◌, ℕ, ◌<◌, ◌≤◌, List, [], ◌∷◌, ◌++◌, Some, None, Bool, true, false, ◌⊎◌}
use Rattle.std.proofs.Common.{refl, sym, ap, subst, ◌∙◌, inl, inr, ⊎_elim, arith}
use Rattle.std.specs.List.{filter}
use Rattle.std.proofs.lemmas.Bool.{cases_lt, false≢true}
use Rattle.std.proofs.lemmas.List.{append-nil}
use Rattle.std.proofs.lemmas.List.Elements.{filter-append}
use Rattle.sk_model.specs.declared.label.Label.{Label}
use Rattle.sk_model.specs.declared.engine.EngineName.{EngineName}
use Rattle.sk_model.specs.declared.engine.EngineName.TheVariants.{Mem, Store}
use Rattle.sk_model.specs.declared.point.Point.{Point}
use Rattle.sk_model.specs.declared.call.Entry.{Entry}
use Rattle.sk_model.specs.Legal.{after_entries}
use Rattle.sk_model.specs.Records.{AtMost, same_label}
use Rattle.sk_model.specs.Talks.{calls_in, tx_of, is_tx, is_by, entries_by}
use Rattle.sk_model.proofs.Labels.{same_itself, not_same_back}
use Rattle.sk_model.proofs.Lists.{Each, each_append, each_weaker, filter_all}
use Rattle.sk_weave.specs.AheadLaws.{counters_of}
use Rattle.sk_linked.specs.Reads.{PairIf, number_at}
use Rattle.sk_weave.specs.Registry.{Regs}
use Rattle.sk_linked.specs.Traces.{In, IsAtHorizons}
use Rattle.sk_linked.specs.Joining.{MayRecords}
use Rattle.sk_linked.specs.State.{counter}
use Rattle.sk_linked.proofs.Members.{each_in, in_each, in_append, in_front, in_either, each_call, some_same}
use Rattle.sk_linked.proofs.Going.{calls_more}
use Rattle.sk_commit.specs.declared.asking.Wish.{Wish}
use Rattle.sk_commit.specs.declared.asking.Got.{Got}
use Rattle.sk_commit.specs.Fits.{WishFits, own_call}
use Rattle.sk_session.specs.Common.{Common, Answered}
use Rattle.sk_session.specs.Facts.{Facts, FitsFacts, AreBy}
use Rattle.sk_kept.specs.Held.{Trace, trace_after, drawn_of, Within, IsHeld, Made, Drew, Drawer, Maker, Caller, Called, Sourced, Held, MayOpen}
use Rattle.sk_kept.proofs.Middles.{in_middle, middle_other, middle_self, each_others, each_focus, each_middle, alone_moved}
use Rattle.sk_kept.proofs.Changes.{Draws, Change, change, pair_grows, at_most_more}
use Rattle.sk_kept.proofs.Drawing.{drew_stays}
use Rattle.sk_kept.proofs.Journals.{own_may_record, unowned_grows, horizons_stay}

-- what none pass leaves none
pub filter_none : {X : Type 0} (p : X → Bool) (xs : List X) → Each (λ x. p x ≡ false) xs → filter p xs ≡ []
filter_none p [] h = refl
filter_none p (x ∷ xs) h = rw h.0 (filter_none p xs h.1)

-- the entries of a label among calls of a label
all_of : (l : Label) (js : List Entry) → Each (λ (j : Entry). tx_of j.call ≡ Some l) js → entries_by l js ≡ js
all_of l js h = filter_all (is_by l) js (each_weaker (λ (j : Entry). tx_of j.call ≡ Some l) (λ j. is_by l j ≡ true) (λ j e. ap (is_tx l) e ∙ same_itself l) js h)

none_of : (l m : Label) (js : List Entry) → same_label m l ≡ false → Each (λ (j : Entry). tx_of j.call ≡ Some l) js → entries_by m js ≡ []
none_of l m js d h = filter_none (is_by m) js (each_weaker (λ (j : Entry). tx_of j.call ≡ Some l) (λ j. is_by m j ≡ false) (λ j e. ap (is_tx m) e ∙ d) js h)

-- the counter of an engine, as it was and as it is
pub within_drew : (name : EngineName) (c : Common) (f : Facts) (n : ℕ) → Within (counters_of c.regs) f → drawn_of name f ≡ Some n → n ≤ counter name c.regs
within_drew Mem c f n w e = subst (λ o. AtMost o c.regs.mem) e w.drew_mem
within_drew Store c f n w e = subst (λ o. AtMost o c.regs.store) e w.drew_store

draws_of : (name : EngineName) {r s : Regs} {f g : Facts} → Change r s f g → Draws (counter name r) (counter name s) (drawn_of name f) (drawn_of name g)
draws_of Mem h = h.drew_mem
draws_of Store h = h.drew_store

next_of : (name : EngineName) {r s : Regs} {f g : Facts} → Change r s f g → (n : ℕ) → counter name r < n → n ≤ counter name s → drawn_of name g ≡ Some n
next_of Mem h = h.next_mem
next_of Store h = h.next_store

module _ (first : Point) (points : List Point) (c d : Common) (pre : List Trace) (t : Trace) (post : List Trace) (asked : Wish) (got : Got)
    (held : Held first points c (pre ++ t ∷ post)) (answered : Answered c asked got d) (fits : WishFits asked got) (may : MayOpen c.regs t.facts asked) (asks : FitsFacts t.facts asked)
    (calls : AreBy t.facts.label (own_call asked got)) (apart : (u : Trace) → In u (pre ++ post) → same_label t.facts.label u.facts.label ≡ false) where
  abbrev pub u : Trace
  u = trace_after asked got t

  abbrev new : EngineName → List Entry
  new name = calls_in name (own_call asked got)

  pub ch : Change c.regs d.regs t.facts u.facts
  ch = change c.regs d.regs t.facts asked got held.common.sound may fits answered.regs

  new_calls : (name : EngineName) → Each (λ (j : Entry). tx_of j.call ≡ Some t.facts.label) (new name)
  new_calls name = each_call (λ e (j : Entry). tx_of j.call ≡ Some t.facts.label) name (own_call asked got) calls

  grown : (name : EngineName) (l : Label) → entries_by l (d.journals name) ≡ entries_by l (c.journals name) ++ entries_by l (new name)
  grown name l = ap (entries_by l) (answered.journals name) ∙ filter-append (is_by l) (c.journals name) (new name)

  others_held : Each (IsHeld c) (pre ++ post)
  others_held = each_others (IsHeld c) pre t post held.each

  focus_held : IsHeld c t
  focus_held = each_focus (IsHeld c) pre t post held.each

  other_stays : (v : Trace) → In v (pre ++ post) → IsHeld d v
  other_stays v i =
      let h : IsHeld c v = each_in (IsHeld c) (pre ++ post) v others_held i in
      record {
        entries = λ name. grown name v.facts.label ∙ ap (λ js. entries_by v.facts.label (c.journals name) ++ js) (none_of t.facts.label v.facts.label (new name) (not_same_back t.facts.label v.facts.label (apart v i)) (new_calls name))
            ∙ append-nil (entries_by v.facts.label (c.journals name)) ∙ h.entries name;
        pair = subst (λ ps. PairIf ps v.facts.mem v.facts.store) (sym ch.points) (pair_grows c.regs.points ch.made v.facts.mem v.facts.store h.pair);
        within = record {
          mem = at_most_more v.facts.mem c.regs.mem d.regs.mem ch.mem h.within.mem;
          store = at_most_more v.facts.store c.regs.store d.regs.store ch.store h.within.store;
          drew_mem = at_most_more v.facts.drew_mem c.regs.mem d.regs.mem ch.mem h.within.drew_mem;
          drew_store = at_most_more v.facts.drew_store c.regs.store d.regs.store ch.store h.within.drew_store;
        };
      }

  focus_moves : IsHeld d u
  focus_moves = record {
    entries = λ name. ap (λ l. entries_by l (d.journals name)) ch.label ∙ grown name t.facts.label
        ∙ ap (λ js. js ++ entries_by t.facts.label (new name)) (focus_held.entries name) ∙ ap (λ js. calls_in name t.talk ++ js) (all_of t.facts.label (new name) (new_calls name))
        ∙ sym (calls_more name t.talk (own_call asked got));
    pair = ch.pair focus_held.pair;
    within = ch.within focus_held.within;
  }

  -- ---- callers, makers

  caller_stays : (j : Entry) → Caller (pre ++ t ∷ post) j → Caller (pre ++ u ∷ post) j
  caller_stays j h = ⊎_elim
      (λ (e : h.who ≡ t). record { who = u; among = middle_self pre u post; is = h.is ∙ ap (λ (v : Trace). Some v.facts.label) e ∙ ap Some (sym ch.label) })
      (λ (i : In h.who (pre ++ post)). record { who = h.who; among = middle_other h.who pre u post i; is = h.is })
      (in_middle h.who pre t post h.among)

  called_stays : (j : Entry) → Called (pre ++ t ∷ post) j → Called (pre ++ u ∷ post) j
  called_stays j h = ⊎_elim (λ (k : Caller (pre ++ t ∷ post) j). inl (caller_stays j k)) (λ (none : tx_of j.call ≡ None). inr none) h

  new_called : (j : Entry) → tx_of j.call ≡ Some t.facts.label → Called (pre ++ u ∷ post) j
  new_called j e = inl (record { who = u; among = middle_self pre u post; is = e ∙ ap Some (sym ch.label) })

  unowned_stays : (name : EngineName) → MayRecords (d.first name) (d.journals name)
  unowned_stays name = unowned_grows c d name (new name) answered.first (answered.journals name) (held.unowned name) (own_may_record (after_entries (c.first name) (c.journals name)) t.facts.label (new name) (new_calls name))

  made_more : (q : Point) → Made t q → Made u q
  made_more q i = subst (In q) (sym ch.gained) (in_front q t.facts.made ch.made i)

  maker_stays : (q : Point) → Maker (pre ++ t ∷ post) q → Maker (pre ++ u ∷ post) q
  maker_stays q h = ⊎_elim
      (λ (e : h.who ≡ t). record { who = u; among = middle_self pre u post; made = made_more q (subst (λ (v : Trace). Made v q) e h.made) })
      (λ (i : In h.who (pre ++ post)). record { who = h.who; among = middle_other h.who pre u post i; made = h.made })
      (in_middle h.who pre t post h.among)

  sourced_stays : (q : Point) → Sourced c.journals (pre ++ t ∷ post) q → Sourced d.journals (pre ++ u ∷ post) q
  sourced_stays q h = ⊎_elim
      (λ (k : Maker (pre ++ t ∷ post) q). inl (maker_stays q k))
      (λ (k : IsAtHorizons c.journals q). inr (horizons_stay c.journals d.journals (λ name j i. subst (In j) (sym (answered.journals name)) (in_front j (c.journals name) (new name) i)) q k))
      h

  new_sourced : (q : Point) → In q ch.made → Sourced d.journals (pre ++ u ∷ post) q
  new_sourced q i = inl (record { who = u; among = middle_self pre u post; made = subst (In q) (sym ch.gained) (in_append q t.facts.made ch.made i) })

  among_more : (qs : List Point) → Each (λ (q : Point). In q points) qs → Each (λ (q : Point). In q (points ++ ch.made)) qs
  among_more qs h = each_weaker (λ (q : Point). In q points) (λ (q : Point). In q (points ++ ch.made)) (λ q i. in_front q points ch.made i) qs h

  -- ---- each point and each number once

  labels_apart : (v : Trace) → In v (pre ++ post) → t ≡ v → ⊥
  labels_apart v i e = false≢true (sym (apart v i) ∙ ap (λ (x : Trace). same_label t.facts.label x.facts.label) (sym e) ∙ same_itself t.facts.label)

  points_of_other : (v : Trace) → In v (pre ++ post) → (q : Point) → Made v q → In q c.regs.points
  points_of_other v i q m = subst (In q) (sym held.points_are) (inr (each_in (λ (q : Point). In q points) v.facts.made q (each_in (λ (x : Trace). Each (λ (q : Point). In q points) x.facts.made) (pre ++ t ∷ post) v held.among (middle_other v pre t post i)) m))

  gained_point : (q : Point) → Made u q → Made t q ⊎ ((v : Trace) → In v (pre ++ post) → Made v q → ⊥)
  gained_point q m = ⊎_elim
      (λ (i : In q t.facts.made). inl i)
      (λ (i : In q ch.made). inr (λ v k n. each_in (λ (q : Point). In q c.regs.points → ⊥) ch.made q ch.new i (points_of_other v k q n)))
      (in_either q t.facts.made ch.made (subst (In q) ch.gained m))

  gained_number : (name : EngineName) (n : ℕ) → Drew name u n → Drew name t n ⊎ ((v : Trace) → In v (pre ++ post) → Drew name v n → ⊥)
  gained_number name n e = ⊎_elim
      (λ (s : drawn_of name u.facts ≡ drawn_of name t.facts). inl (sym s ∙ e))
      (λ (s : (m : ℕ) × (drawn_of name u.facts ≡ Some m) × (counter name c.regs < m) × (m ≤ counter name d.regs)).
      inr (λ v k f.
      let l : n ≤ counter name c.regs = within_drew name c v.facts n (each_in (IsHeld c) (pre ++ post) v others_held k).within f in
      let is : s.0 ≡ n = some_same (sym s.1 ∙ e) in
      let past : counter name c.regs < s.0 = s.2 in
      absurd (omega arith)))
      (draws_of name ch)

  drawer_stays : (name : EngineName) (n : ℕ) → Drawer name (pre ++ t ∷ post) n → Drawer name (pre ++ u ∷ post) n
  drawer_stays name n h = ⊎_elim
      (λ (e : h.who ≡ t). record { who = u; among = middle_self pre u post; drew = drew_stays name n t asked got asks fits (subst (λ (v : Trace). Drew name v n) e h.drew) })
      (λ (i : In h.who (pre ++ post)). record { who = h.who; among = middle_other h.who pre u post i; drew = h.drew })
      (in_middle h.who pre t post h.among)

  drawer : (name : EngineName) (n : ℕ) → number_at name first < n → n ≤ counter name d.regs → Drawer name (pre ++ u ∷ post) n
  drawer name n low le = ⊎_elim
      (λ (new : counter name c.regs < n). record { who = u; among = middle_self pre u post; drew = next_of name ch n new le })
      (λ (old : n ≤ counter name c.regs). drawer_stays name n (held.drawn name n low old))
      (cases_lt (counter name c.regs) n)

  pub step_held : Held first (points ++ ch.made) d (pre ++ u ∷ post)
  step_held = record {
    common = answered.common;
    points_are = ch.points ∙ ap (λ ps. ps ++ ch.made) held.points_are;
    each = each_middle (IsHeld d) pre u post (in_each (IsHeld d) (pre ++ post) other_stays) focus_moves;
    callers = λ name. subst (Each (Called (pre ++ u ∷ post))) (sym (answered.journals name))
        (each_append (Called (pre ++ u ∷ post)) (c.journals name) (new name) (each_weaker (Called (pre ++ t ∷ post)) (Called (pre ++ u ∷ post)) called_stays (c.journals name) (held.callers name))
        (each_weaker (λ (j : Entry). tx_of j.call ≡ Some t.facts.label) (Called (pre ++ u ∷ post)) new_called (new name) (new_calls name)));
    unowned = unowned_stays;
    makers = each_append (Sourced d.journals (pre ++ u ∷ post)) points ch.made (each_weaker (Sourced c.journals (pre ++ t ∷ post)) (Sourced d.journals (pre ++ u ∷ post)) sourced_stays points held.makers)
        (in_each (Sourced d.journals (pre ++ u ∷ post)) ch.made new_sourced);
    among = each_middle (λ (v : Trace). Each (λ (q : Point). In q (points ++ ch.made)) v.facts.made) pre u post
        (each_weaker (λ (v : Trace). Each (λ (q : Point). In q points) v.facts.made) (λ (v : Trace). Each (λ (q : Point). In q (points ++ ch.made)) v.facts.made) (λ v h. among_more v.facts.made h) (pre ++ post) (each_others _ pre t post held.among))
        (subst (Each (λ (q : Point). In q (points ++ ch.made))) (sym ch.gained)
        (each_append (λ (q : Point). In q (points ++ ch.made)) t.facts.made ch.made (among_more t.facts.made (each_focus (λ (v : Trace). Each (λ (q : Point). In q points) v.facts.made) pre t post held.among)) (in_each _ ch.made (λ q i. in_append q points ch.made i))));
    once = alone_moved Made pre t u post labels_apart gained_point held.once;
    unlike = λ name. alone_moved (Drew name) pre t u post labels_apart (gained_number name) (held.unlike name);
    drawn = drawer;
  }
