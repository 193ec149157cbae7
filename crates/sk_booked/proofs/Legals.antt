-- The journal of an engine that came through passes.
use Rattle.std.specs.Prelude.{ℕ, List, ◌++◌, Bool, map}
use Rattle.std.proofs.Common.{sym, ap, subst, ◌∙◌}
use Rattle.sk_model.specs.declared.call.Entry.{Entry as Called}
use Rattle.sk_model.specs.Engine.{EngineTable}
use Rattle.sk_model.specs.Legal.{after_entries, Legal}
use Rattle.sk_chain.specs.Noting.{noted_stands}
use Rattle.sk_booked.specs.Paths.{items_of}
use Rattle.sk_booked.specs.Engines.{pair_of}
use Rattle.sk_booked.specs.Laws.{NewIsMadeWith, ClosedIsLegal}

pub new_is_made_with : {G : Type 0} (told : Bool) (stands : G → EngineTable → List Called → Type 0) → NewIsMadeWith told stands
new_is_made_with told stands x first st none = record {
  stood = subst (λ (l : List Called). noted_stands stands x (after_entries first l) l) (sym none) st;
  legal = λ t. subst (Legal first) (sym none) tt;
}

pub closed_is_legal : {G : Type 0} (told : Bool) (faults : G → ℕ) (stands : G → EngineTable → List Called → Type 0) → ClosedIsLegal told faults stands
closed_is_legal told faults stands t start value first os st none w = record {
  log = w.log;
  journal_is = w.journal_is ∙ ap (λ (l : List Called). map pair_of l ++ items_of w.log) none;
  each = w.each;
  by_one = w.by_one;
  legal = (w.is_kin.made first (new_is_made_with told stands start first st none)).legal t;
}
