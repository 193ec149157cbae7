-- Flushes stay while the run goes on, and one more goes on from the last cut.
use Rattle.std.specs.Prelude.{◌≡◌, ℕ, List, [], ◌∷◌, ◌++◌}
use Rattle.std.proofs.Common.{refl, ap, ◌∙◌}
use Rattle.std.proofs.lemmas.List.{append_assoc, append-nil}
use Rattle.std.proofs.lemmas.List.Concat.{flat_map-append}
use Rattle.sk_model.specs.declared.engine.EngineName.{EngineName}
use Rattle.sk_model.specs.declared.point.Point.{Point}
use Rattle.sk_model.specs.declared.call.Entry.{Entry}
use Rattle.sk_linked.specs.Reads.{number_at}
use Rattle.sk_linked.proofs.Members.{in_front}
use Rattle.sk_recorded.specs.Joined.{joined}
use Rattle.sk_recorded.specs.Entries.{records_entry, AreEnough}
use Rattle.sk_recorded.specs.Flushes.{Flush, Flushes, AllFlush, last_cut, written, FlushesStay, FlushesGoOn}

enough_stay : (name : EngineName) (points more used : List Point) (from to : ℕ) → AreEnough name points used from to → AreEnough name (points ++ more) used from to
enough_stay name points more used from to k = record {
  early = k.early;
  later = k.later ++ more;
  are = ap (λ ps. ps ++ more) k.are ∙ append_assoc k.early (used ++ k.later) more ∙ ap (λ ps. k.early ++ ps) (append_assoc used k.later more);
  before = k.before;
  reached = k.reached;
  among = k.among;
  far = k.far;
}

pub flushes_stay : FlushesStay
flushes_stay points more old new low [] stays k = tt
flushes_stay points more old new low (f ∷ fs) stays k = (
  record {
    cut = in_front f.cut points more k.0.cut;
    goes_on = k.0.goes_on;
    asked = λ name. stays name (records_entry (number_at name low) (number_at name f.cut) (f.answers name)) (k.0.asked name);
    enough = λ name. enough_stay name points more f.points (number_at name low) (number_at name f.cut) (k.0.enough name);
  },
  flushes_stay points more old new f.cut fs stays k.1,
)

all_more : (points : List Point) (journals : EngineName → List Entry) (low : Point) (fs : List Flush) (f : Flush) → AllFlush points journals low fs → Flushes points journals (last_cut low fs) f → AllFlush points journals low (fs ++ f ∷ [])
all_more points journals low [] f k new = (new, tt)
all_more points journals low (g ∷ fs) f k new = (k.0, all_more points journals g.cut fs f k.1 new)

last_more : (low : Point) (fs : List Flush) (f : Flush) → last_cut low (fs ++ f ∷ []) ≡ f.cut
last_more low [] f = refl
last_more low (g ∷ fs) f = last_more g.cut fs f

pub flushes_go_on : FlushesGoOn
flushes_go_on points journals low fs f k new = record {
  all = all_more points journals low fs f k new;
  cut = last_more low fs f;
  wrote = λ name. flat_map-append (λ (g : Flush). joined name g.points (g.answers name)) fs (f ∷ []) ∙ ap (λ cs. written name fs ++ cs) (append-nil (joined name f.points (f.answers name)));
}
