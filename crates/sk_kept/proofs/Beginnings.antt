-- What holds at every moment holds at first.
use Rattle.std.specs.Prelude.{◌≡◌, ℕ, ◌<◌, ◌≤◌, List, [], ◌∷◌, None, map}
use Rattle.std.proofs.Common.{refl, sym, ap, subst, arith}
use Rattle.sk_rows.specs.declared.table.Table.{Table}
use Rattle.sk_model.specs.declared.engine.EngineName.{EngineName}
use Rattle.sk_model.specs.declared.engine.EngineName.TheVariants.{Mem, Store}
use Rattle.sk_model.specs.declared.point.Point.{Point}
use Rattle.sk_model.proofs.Lists.{Each}
use Rattle.sk_linked.specs.Joining.{MayRecords}
use Rattle.sk_linked.specs.State.{counter}
use Rattle.sk_linked.specs.Reads.{number_at}
use Rattle.sk_weave.specs.AheadLaws.{counters_of}
use Rattle.sk_weave.proofs.Aheads.{at_first}
use Rattle.sk_session.specs.Common.{Common}
use Rattle.sk_session.specs.EachTalk.{SessionTalks}
use Rattle.sk_kept.specs.Held.{Called, Held}
use Rattle.sk_kept.specs.Freshness.{Found}
use Rattle.sk_kept.specs.Running.{Member, all_traces, Differ, IsMember}
use Rattle.sk_kept.specs.Sessions.{Player, member_of, IsRun}
use Rattle.sk_kept.specs.Beginnings.{new_player, IsFirst, FirstIsRun}

module _ (catalog : List Table) (first : Point) (c : Common) (h : IsFirst first c) where
  -- nobody has a transaction yet
  no_traces : (numbers : List ℕ) → all_traces (map member_of (map new_player numbers)) ≡ []
  no_traces [] = refl
  no_traces (n ∷ ns) = no_traces ns

  not_yet : (name : EngineName) (n : ℕ) → number_at name first < n → n ≤ counter name c.regs → ⊥
  not_yet name n low le = let e : counter name c.regs ≡ number_at name first = at name in omega arith
    where
      at : (name : EngineName) → counter name c.regs ≡ number_at name first
      at Mem = h.mem
      at Store = h.store

  held : Held first [] c []
  held = record {
    common = h.common;
    points_are = h.points;
    each = tt;
    callers = λ name. subst (Each (Called [])) (sym (h.journals name)) tt;
    unowned = λ name. subst (MayRecords (c.first name)) (sym (h.journals name)) tt;
    makers = tt;
    among = tt;
    once = λ x t u i k a b. absurd i;
    unlike = λ name x t u i k a b. absurd i;
    drawn = λ name n low le. absurd (not_yet name n low le);
  }

  found : Found c [] (counters_of c.regs) []
  found = record {
    glimpse = record { mem = omega arith; store = omega arith; ahead = at_first c.regs h.common.sound; crosses = tt };
    front = [];
    last = None;
    are = refl;
    first = λ e. refl;
    ordered = tt;
    within = tt;
    since = tt;
  }

  member : (n : ℕ) → IsMember c [] (member_of (new_player n))
  member n = record { numbered = tt; seen = counters_of c.regs; found = found; since = tt; may = λ front f e. tt }

  members : (numbers : List ℕ) → Each (IsMember c []) (map member_of (map new_player numbers))
  members [] = tt
  members (n ∷ ns) = (member n, members ns)

  talks : (numbers : List ℕ) → Each (λ (p : Player). SessionTalks catalog p.session p.talks) (map new_player numbers)
  talks [] = tt
  talks (n ∷ ns) = ((tt, tt), talks ns)

  same_numbers : (numbers : List ℕ) → map (λ (m : Member). m.number) (map member_of (map new_player numbers)) ≡ numbers
  same_numbers [] = refl
  same_numbers (n ∷ ns) = ap (λ xs. n ∷ xs) (same_numbers ns)

  pub first_run : (numbers : List ℕ) → Differ numbers → IsRun catalog first [] c (map new_player numbers)
  first_run numbers d = record {
    running = record {
      held = subst (Held first [] c) (sym (no_traces numbers)) held;
      members = subst (λ all. Each (IsMember c all) (map member_of (map new_player numbers))) (sym (no_traces numbers)) (members numbers);
      differ = subst Differ (sym (same_numbers numbers)) d;
    };
    talks = talks numbers;
  }

pub first_is_run : FirstIsRun
first_is_run catalog first c numbers h d = first_run catalog first c h numbers d
