-- Calls of no transaction and selections of nobody: what was linked stays linked.
use Rattle.std.specs.Prelude.{List, ◌∷◌, ◌++◌, Some, None, true, false, ◌≡◌, ◌⊎◌}
use Rattle.std.proofs.Common.{sym, ap, subst, ◌∙◌, inl, inr, ⊎_elim}
use Rattle.std.proofs.lemmas.Bool.{false≢true}
use Rattle.std.proofs.lemmas.List.{append-nil}
use Rattle.std.proofs.lemmas.List.Elements.{filter-append}
use Rattle.sk_model.specs.declared.engine.EngineName.{EngineName}
use Rattle.sk_model.specs.declared.engine.EngineName.TheVariants.{Mem, Store}
use Rattle.sk_model.specs.declared.point.Point.{Point}
use Rattle.sk_model.specs.declared.call.Entry.{Entry}
use Rattle.sk_model.specs.Legal.{after_entries, Legal, Allowed}
use Rattle.sk_model.specs.Talks.{tx_of, is_tx, is_by, entries_by}
use Rattle.sk_model.proofs.Lists.{Each, each_append, each_weaker}
use Rattle.sk_model.proofs.Numbered.{filter_none}
use Rattle.sk_weave.specs.Points.{Staircase}
use Rattle.sk_linked.specs.Reads.{first_table}
use Rattle.sk_linked.specs.Traces.{Transaction, Traces, run_of, In, Belongs, CommitOf, Known, IsAtHorizons, MakerOf, PointsMade, Linked}
use Rattle.sk_linked.proofs.Members.{in_front}
use Rattle.sk_linked.proofs.Grounds.{legal_append, allowed_append}
use Rattle.sk_linked.proofs.Growing.{at_more, pair_more}

module _ (h : Traces) (es : EngineName → List Entry) (more : List Point) where
  abbrev pub noted : Traces
  noted = record h { points = h.points ++ more; journals = λ s. h.journals s ++ es s }

  pub record Notes : Type 0 where
    pub legal : (s : EngineName) → Legal (after_entries (first_table (run_of h) s) (h.journals s)) (es s)
    pub allowed : (s : EngineName) → Allowed (after_entries (first_table (run_of h) s) (h.journals s)) (es s)
    pub none : (s : EngineName) → Each (λ (j : Entry). tx_of j.call ≡ None) (es s)
    pub stairs : Staircase (h.first ∷ (h.points ++ more))
    pub selections : Each (λ (q : Point). q.commit ≡ false) more
    pub cuts : Each (IsAtHorizons h.journals) more

  stays : Notes → (x : Transaction) → Belongs h x → Belongs noted x
  stays g x k = record {
    entries = λ s. filter-append (is_by x.label) (h.journals s) (es s) ∙ ap (λ ys. entries_by x.label (h.journals s) ++ ys) (filter_none (is_by x.label) (es s) (each_weaker (λ (j : Entry). tx_of j.call ≡ None) (λ (j : Entry). is_by x.label j ≡ false) (λ j e. ap (is_tx x.label) e) (es s) (g.none s)))
        ∙ append-nil (entries_by x.label (h.journals s)) ∙ k.entries s;
    own = k.own;
    again = k.again;
    pair = pair_more (h.first ∷ h.points) more x.snapshots.mem x.snapshots.store k.pair;
    past = k.past;
    drew = k.drew;
    silent = k.silent;
    opened = k.opened;
    alone = k.alone;
    crossed = λ a b c e q. at_more a b h.points more (k.crossed a b c e q);
    paired = each_append (λ (q : Point). q.commit ≡ true → x.drew.mem ≡ Some q.a → x.drew.store ≡ Some q.b) h.points more k.paired
        (each_weaker (λ (q : Point). q.commit ≡ false) (λ (q : Point). q.commit ≡ true → x.drew.mem ≡ Some q.a → x.drew.store ≡ Some q.b) (λ q f c. absurd (false≢true (sym f ∙ c))) more g.selections);
  }

  abbrev Source : Point → Type 0
  Source q = MakerOf h.transactions q ⊎ IsAtHorizons (λ s. h.journals s ++ es s) q

  cut_stays : (q : Point) → IsAtHorizons h.journals q → IsAtHorizons (λ s. h.journals s ++ es s) q
  cut_stays q k = record { selects = k.selects; mem = in_front _ (h.journals Mem) (es Mem) k.mem; store = in_front _ (h.journals Store) (es Store) k.store }

  made_stays : Notes → PointsMade h → PointsMade noted
  made_stays g m = record {
    source = each_append Source h.points more
        (each_weaker (λ (q : Point). MakerOf h.transactions q ⊎ IsAtHorizons h.journals q) Source (λ q s. ⊎_elim (λ (k : MakerOf h.transactions q). inl k) (λ (k : IsAtHorizons h.journals q). inr (cut_stays q k)) s) h.points m.source)
        (each_weaker (IsAtHorizons h.journals) Source (λ q k. inr (cut_stays q k)) more g.cuts);
    among = each_weaker (λ (t : Transaction). Each (λ (q : Point). In q h.points) t.made) (λ (t : Transaction). Each (λ (q : Point). In q (h.points ++ more)) t.made)
        (λ t k. each_weaker (λ (q : Point). In q h.points) (λ (q : Point). In q (h.points ++ more)) (λ q i. in_front q h.points more i) t.made k) h.transactions m.among;
    once = m.once;
  }

  pub linked_notes : Linked h → Notes → Linked noted
  linked_notes l g = record {
    legal = λ s. legal_append (first_table (run_of h) s) (h.journals s) (es s) (l.legal s) (g.legal s);
    allowed = λ s. allowed_append (first_table (run_of h) s) (h.journals s) (es s) (l.allowed s) (g.allowed s);
    stairs = g.stairs;
    distinct = l.distinct;
    unlike = l.unlike;
    known = λ s. each_append (λ (j : Entry). Known h.transactions (tx_of j.call)) (h.journals s) (es s) (l.known s) (each_weaker (λ (j : Entry). tx_of j.call ≡ None) (λ (j : Entry). Known h.transactions (tx_of j.call)) (λ j e. subst (Known h.transactions) (sym e) tt) (es s) (g.none s));
    each = each_weaker (Belongs h) (Belongs noted) (stays g) h.transactions l.each;
    made = made_stays g l.made;
    points = each_append (λ (q : Point). q.commit ≡ true → CommitOf h.transactions q) h.points more l.points (each_weaker (λ (q : Point). q.commit ≡ false) (λ (q : Point). q.commit ≡ true → CommitOf h.transactions q) (λ q f c. absurd (false≢true (sym f ∙ c))) more g.selections);
  }
