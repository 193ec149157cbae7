-- A transaction that begins keeps what holds at every moment.
use Rattle.std.specs.Prelude.{◌≡◌, ℕ, List, [], ◌∷◌, ◌++◌, Some, None, false}
use Rattle.std.proofs.Common.{ap, subst, ◌∙◌, inl, inr, ⊎_elim}
use Rattle.sk_model.specs.declared.label.Label.{Label}
use Rattle.sk_model.specs.declared.engine.EngineName.{EngineName}
use Rattle.sk_model.specs.declared.engine.EngineName.TheVariants.{Mem, Store}
use Rattle.sk_model.specs.declared.point.Point.{Point}
use Rattle.sk_model.specs.declared.call.Entry.{Entry}
use Rattle.sk_model.specs.declared.record.TxKind.{TxKind}
use Rattle.sk_model.specs.Records.{same_label}
use Rattle.sk_model.specs.Talks.{tx_of, is_tx, is_by, entries_by}
use Rattle.sk_model.proofs.Lists.{Each, each_weaker}
use Rattle.sk_linked.specs.Traces.{In, IsAtHorizons}
use Rattle.sk_linked.proofs.Members.{each_in}
use Rattle.sk_session.specs.Common.{Common}
use Rattle.sk_session.specs.Facts.{fresh_facts}
use Rattle.sk_kept.specs.Held.{Trace, IsHeld, Alone, Made, Drew, Drawer, Maker, Caller, Called, Sourced, Held}
use Rattle.sk_kept.proofs.Middles.{in_middle, middle_other, each_middle}
use Rattle.sk_kept.proofs.Steps.{filter_none}

-- who has x stays the only one, where the new one has nothing
alone_more : {X : Type 0} (Has : Trace → X → Type 0) (pre : List Trace) (t : Trace) (post : List Trace) → ((x : X) → Has t x → ⊥) → Alone Has (pre ++ post) → Alone Has (pre ++ t ∷ post)
alone_more Has pre t post none h x v w i k a b = ⊎_elim
    (λ (e : v ≡ t). absurd (none x (subst (λ z. Has z x) e a)))
    (λ (m : In v (pre ++ post)). ⊎_elim
    (λ (e : w ≡ t). absurd (none x (subst (λ z. Has z x) e b)))
    (λ (n : In w (pre ++ post)). h x v w m n a b)
    (in_middle w pre t post k))
    (in_middle v pre t post i)

module _ (first : Point) (points : List Point) (c : Common) (pre : List Trace) (l : Label) (kind : TxKind) (post : List Trace)
    (held : Held first points c (pre ++ post)) (apart : Each (λ (u : Trace). same_label l u.facts.label ≡ false) (pre ++ post)) where
  abbrev pub t : Trace
  t = record { facts = fresh_facts l kind; talk = [] }

  called_more : (j : Entry) → Called (pre ++ post) j → Called (pre ++ t ∷ post) j
  called_more j h = ⊎_elim
      (λ (k : Caller (pre ++ post) j). inl (record { who = k.who; among = middle_other k.who pre t post k.among; is = k.is }))
      (λ (none : tx_of j.call ≡ None). inr none)
      h

  sourced_more : (q : Point) → Sourced c.journals (pre ++ post) q → Sourced c.journals (pre ++ t ∷ post) q
  sourced_more q h = ⊎_elim
      (λ (k : Maker (pre ++ post) q). inl (record { who = k.who; among = middle_other k.who pre t post k.among; made = k.made }))
      (λ (k : IsAtHorizons c.journals q). inr k)
      h

  drawer_more : (name : EngineName) (n : ℕ) → Drawer name (pre ++ post) n → Drawer name (pre ++ t ∷ post) n
  drawer_more name n h = record { who = h.who; among = middle_other h.who pre t post h.among; drew = h.drew }

  -- no entry is of the new label yet
  no_entry : (j : Entry) → Called (pre ++ post) j → is_by l j ≡ false
  no_entry j h = ⊎_elim
      (λ (k : Caller (pre ++ post) j). ap (is_tx l) k.is ∙ each_in (λ (u : Trace). same_label l u.facts.label ≡ false) (pre ++ post) k.who apart k.among)
      (λ (none : tx_of j.call ≡ None). ap (is_tx l) none)
      h

  no_entries : (name : EngineName) → entries_by l (c.journals name) ≡ []
  no_entries name = filter_none (is_by l) (c.journals name) (each_weaker (Called (pre ++ post)) (λ (j : Entry). is_by l j ≡ false) no_entry (c.journals name) (held.callers name))

  new_held : IsHeld c t
  new_held = record { entries = no_entries; pair = tt; within = record { mem = tt; store = tt; drew_mem = tt; drew_store = tt } }

  drew_nothing : (name : EngineName) (n : ℕ) → Drew name t n → ⊥
  drew_nothing Mem n e = clash e
    where
      clash : None ≡ Some n → ⊥
      clash e = cc
  drew_nothing Store n e = clash e
    where
      clash : None ≡ Some n → ⊥
      clash e = cc

  pub held_begins : Held first points c (pre ++ t ∷ post)
  held_begins = record {
    common = held.common;
    points_are = held.points_are;
    each = each_middle (IsHeld c) pre t post held.each new_held;
    callers = λ name. each_weaker (Called (pre ++ post)) (Called (pre ++ t ∷ post)) called_more (c.journals name) (held.callers name);
    unowned = held.unowned;
    makers = each_weaker (Sourced c.journals (pre ++ post)) (Sourced c.journals (pre ++ t ∷ post)) sourced_more points held.makers;
    among = each_middle (λ (u : Trace). Each (λ (q : Point). In q points) u.facts.made) pre t post held.among tt;
    once = alone_more Made pre t post (λ q i. i) held.once;
    unlike = λ name. alone_more (Drew name) pre t post (drew_nothing name) (held.unlike name);
    drawn = λ name n low le. drawer_more name n (held.drawn name n low le);
  }
