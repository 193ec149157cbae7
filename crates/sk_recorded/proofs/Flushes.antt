-- In linked traces, what flushes wrote is all that was committed up to the last cut.
use Rattle.std.specs.Prelude.{ℕ, List, [], ◌∷◌, ◌++◌, Option, Some, None, Bool, true, false, ◌≡◌, ◌≤◌}
use Rattle.std.proofs.Common.{refl, sym, ap, subst, ◌∙◌, inl, arith}
use Rattle.std.proofs.lemmas.Bool.Decides.{nat_tests}
use Rattle.sk_model.specs.declared.engine.EngineName.{EngineName}
use Rattle.sk_model.specs.declared.engine.EngineName.TheVariants.{Mem, Store}
use Rattle.sk_model.specs.declared.commit.Commit.{Commit}
use Rattle.sk_model.specs.declared.point.Point.{Point}
use Rattle.sk_model.specs.Database.{state}
use Rattle.sk_model.specs.Engine.{keeps}
use Rattle.sk_model.specs.Places.{upto}
use Rattle.sk_model.proofs.Lists.{Each, each_filter}
use Rattle.sk_model.specs.Numbers.{there, within}
use Rattle.sk_model.specs.Stamped.{number_in}
use Rattle.sk_model.proofs.Numbered.{filter_none, each_all}
use Rattle.sk_weave.specs.Points.{Pair}
use Rattle.sk_weave.specs.Woven.{Owned}
use Rattle.sk_weave.specs.Laws.{mem_upto, store_upto}
use Rattle.sk_weave.specs.PrefixLaws.{prefix_at}
use Rattle.sk_linked.specs.Reads.{number_at, order_of}
use Rattle.sk_weave.proofs.Cuts.{points_are_pairs}
use Rattle.sk_weave.proofs.Engines.{by_engines}
use Rattle.sk_linked.specs.Traces.{Traces, run_of, commits_in, In, Linked}
use Rattle.sk_linked.proofs.Members.{each_in}
use Rattle.sk_linked.proofs.Grounds.{is_run, rising}
use Rattle.sk_recorded.specs.Windows.{window, upto_in}
use Rattle.sk_recorded.specs.Entries.{records_entry}
use Rattle.sk_recorded.specs.Flushes.{Flush, AllFlush, last_cut, written, IsStored}
use Rattle.sk_recorded.proofs.Windows.{window_is, windows_meet, windows_begin}
use Rattle.sk_recorded.proofs.Entries.{middle, entry_window}
use Rattle.sk_recorded.proofs.Behind.{OfKind}

-- nothing is past a number and up to it
window_empty : (name : EngineName) (x : ℕ) (cs : List Commit) → window name x x cs ≡ []
window_empty name x cs = window_is name x x cs ∙ filter_none (λ (c : Commit). there (within x x) (number_in name c)) cs (each_all _ (λ (c : Commit). none (number_in name c)) cs)
  where
    none : (o : Option ℕ) → there (within x x) o ≡ false
    none None = refl
    none (Some n) = grind (arith, nat_tests)

module _ (h : Traces) (l : Linked h) where
  abbrev All : Point → List Flush → Type 0
  All low fs = AllFlush (h.first ∷ h.points) h.journals low fs

  goes_on : (name : EngineName) (low : Point) (fs : List Flush) → All low fs → number_at name low ≤ number_at name (last_cut low fs)
  goes_on name low [] k = omega arith
  goes_on name low (f ∷ fs) k =
      let here : number_at name low ≤ number_at name f.cut = k.0.goes_on name in
      let more : number_at name f.cut ≤ number_at name (last_cut f.cut fs) = goes_on name f.cut fs k.1 in
      omega arith

  last_among : (low : Point) (fs : List Flush) → In low (h.first ∷ h.points) → All low fs → In (last_cut low fs) (h.first ∷ h.points)
  last_among low [] i k = i
  last_among low (f ∷ fs) i k = last_among f.cut fs k.0.cut k.1

  written_window : (name : EngineName) (low : Point) (fs : List Flush) → All low fs → written name fs ≡ window name (number_at name low) (number_at name (last_cut low fs)) (commits_in h.catalog name h.transactions)
  written_window name low [] k = sym (window_empty name (number_at name low) (commits_in h.catalog name h.transactions))
  written_window name low (f ∷ fs) k =
      ap (λ cs. cs ++ written name fs)
      (entry_window h l name (number_at name low) (number_at name f.cut) (f.answers name) (middle (records_entry (number_at name low) (number_at name f.cut) (f.answers name)) (h.journals name) (k.0.asked name)) f.points (k.0.enough name))
      ∙ ap (λ cs. window name (number_at name low) (number_at name f.cut) (commits_in h.catalog name h.transactions) ++ cs) (written_window name f.cut fs k.1)
      ∙ windows_meet name (number_at name h.first) (number_at name low) (number_at name f.cut) (number_at name (last_cut f.cut fs)) (commits_in h.catalog name h.transactions) (rising h l name) (k.0.goes_on name) (goes_on name f.cut fs k.1)

  written_upto : (name : EngineName) (fs : List Flush) → All h.first fs → written name fs ≡ upto_in name (number_at name (last_cut h.first fs)) (commits_in h.catalog name h.transactions)
  written_upto name fs k = written_window name h.first fs k ∙ windows_begin name (number_at name h.first) (number_at name (last_cut h.first fs)) (commits_in h.catalog name h.transactions) (rising h l name)

  -- at each point the engines' own lists make the tables of the one list
  pub stored_prefix : (q : Point) → In q (h.first ∷ h.points)
      → state h.rows (mem_upto q.a (commits_in h.catalog Mem h.transactions) ++ store_upto q.b (commits_in h.catalog Store h.transactions)) ≡ state h.rows (prefix_at (order_of (run_of h)) q.a q.b)
  stored_prefix q i =
      let pair : Pair (h.first ∷ h.points) q.a q.b = each_in (λ (q : Point). Pair (h.first ∷ h.points) q.a q.b) (h.first ∷ h.points) q (points_are_pairs (h.first ∷ h.points) l.stairs.1) i in
      sym (by_engines (keeps Store h.catalog) h.rows (h.first ∷ h.points) (commits_in h.catalog Mem h.transactions) (commits_in h.catalog Store h.transactions) q.a q.b (is_run h l).weavable (is_run h l).owned pair).both

  pub written_stored : (fs : List Flush) → All h.first fs → IsStored (run_of h) (last_cut h.first fs) (written Mem fs) (written Store fs)
  written_stored fs k =
      let q : Point = last_cut h.first fs in
      record {
        of_mem = written_upto Mem fs k;
        of_store = written_upto Store fs k;
        tables = ap (λ cs. state h.rows (cs ++ written Store fs)) (written_upto Mem fs k)
            ∙ ap (λ cs. state h.rows (mem_upto q.a (commits_in h.catalog Mem h.transactions) ++ cs)) (written_upto Store fs k)
            ∙ stored_prefix q (last_among h.first fs (inl refl) k);
      }

  abbrev Of : Bool → Commit → Type 0
  Of kind c = OfKind (keeps Store h.catalog) kind c

  -- each engine's commits that were written are of its own tables
  pub written_owned : (fs : List Flush) → All h.first fs → Owned (keeps Store h.catalog) (written Mem fs) (written Store fs)
  written_owned fs k =
      let q : Point = last_cut h.first fs in
      record {
        of_mem = subst (Each (Of false)) (sym (written_upto Mem fs k)) (each_filter (Of false) (Of false) (λ (c : Commit). upto (Some q.a) c.mem) (λ c e o. o) (commits_in h.catalog Mem h.transactions) (is_run h l).owned.of_mem);
        of_store = subst (Each (Of true)) (sym (written_upto Store fs k)) (each_filter (Of true) (Of true) (λ (c : Commit). upto (Some q.b) c.store) (λ c e o. o) (commits_in h.catalog Store h.transactions) (is_run h l).owned.of_store);
      }
