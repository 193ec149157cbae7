-- States that a run leads to.
use Rattle.std.specs.Prelude.{◌≡◌, ◌<◌, ◌+◌, ◌⊎◌, ℕ, List, [], ◌∷◌, ◌++◌, length, take, slice_index_or, true, false}
use Rattle.std.proofs.Common.{refl, sym, ap, subst, ◌∙◌, ⊎_elim, inl, inr}
use Rattle.std.proofs.lemmas.List.{take_more}
use Rattle.sk_rows.specs.declared.table.Table.{Table}
use Rattle.sk_model.specs.declared.point.Point.{Point}
use Rattle.sk_model.specs.Database.{Tables}
use Rattle.sk_weave.specs.RegistryLaws.{CanStart}
use Rattle.sk_linked.specs.Reads.{AreSorted}
use Rattle.sk_linked.specs.declared.event.Event.{Event}
use Rattle.sk_linked.specs.declared.event.CoreReply.{CoreReply}
use Rattle.sk_linked.specs.declared.event.CoreReply.TheVariants as reply
use Rattle.sk_linked.specs.State.{Core, core_at}
use Rattle.sk_linked.specs.Machine.{Next, step, run}
use Rattle.sk_linked.specs.Lawful.{is_lawful, is_not_now}
use Rattle.sk_linked.specs.Runs.{Start, ran}
use Rattle.sk_core.specs.Reachable.{IsReachable, Holds, IsStep, IsAnswered, replies_to}
use Rattle.sk_core.specs.Reopening.{CanWeave}
use Rattle.sk_linked.proofs.Grounds.{is_run}
use Rattle.sk_linked.proofs.Theorem.{linked, all_one}
use Rattle.sk_linked.proofs.Explained.{explained}
use Rattle.sk_linked.proofs.Sessions.{fresh}
use Rattle.sk_linked.proofs.Acked.{durable}
use Rattle.sk_linked.proofs.Lawfulness.{unlawful}
use Rattle.sk_linked.proofs.Taken.{lawful}

-- a beginning is reached
pub begins : (catalog : List Table) (rows : Tables) (first : Point) (partitions size : ℕ) → CanStart partitions size first → AreSorted rows → IsReachable (core_at catalog rows first partitions size)
begins catalog rows first partitions size can_start sorted = record {
  start = record { catalog = catalog; rows = rows; first = first; partitions = partitions; size = size; can_start = can_start; sorted = sorted };
  events = [];
  is = refl;
}

run_more : (k : Core) (es : List Event) (e : Event) → run k (es ++ e ∷ []) ≡ (step (run k es) e).core
run_more k [] e = refl
run_more k (x ∷ xs) e = run_more (step k x).core xs e

-- and so is what an event makes of a state that is
pub goes_on : (k : Core) (e : Event) → IsReachable k → IsReachable (step k e).core
goes_on k e r = record {
  start = r.start;
  events = r.events ++ e ∷ [];
  is = run_more (core_at r.start.catalog r.start.rows r.start.first r.start.partitions r.start.size) r.events e ∙ ap (λ (j : Core). (step j e).core) r.is;
}

pub can_weave : (k : Core) → IsReachable k → CanWeave k
can_weave k r = subst CanWeave r.is (is_run _ (linked r.start r.events)).weavable

-- the same, of a state that is told by an equation
pub begins_as : (k : Core) (catalog : List Table) (rows : Tables) (first : Point) (partitions size : ℕ) → k ≡ core_at catalog rows first partitions size → CanStart partitions size first → AreSorted rows → IsReachable k
begins_as k catalog rows first partitions size is can_start sorted = subst IsReachable (sym is) (begins catalog rows first partitions size can_start sorted)

pub goes_on_as : (k l : Core) (e : Event) → l ≡ (step k e).core → IsReachable k → IsReachable l
goes_on_as k l e is r = subst IsReachable (sym is) (goes_on k e r)

of_start : (s : Start) (events : List Event) → Holds (ran s events)
of_start s events = record { linked = linked s events; one = all_one s events; explained = explained s events; fresh = fresh s events; durable = durable s events }

pub holds : (k : Core) → IsReachable k → Holds k
holds k r = subst Holds r.is (of_start r.start r.events)

-- ---- what one event is answered

lawfully : (k : Core) (e : Event) → IsReachable k → is_lawful k e ≡ true → is_not_now (step k e).reply ≡ false
lawfully k e r = subst (λ (j : Core). is_lawful j e ≡ true → is_not_now (step j e).reply ≡ false) r.is (lawful r.start r.events e)

pub answered : (k : Core) (e : Event) (l : Core) (r : CoreReply) → IsReachable k → IsStep k e l r → IsAnswered k e l r
answered k e l r reached is = ⊎_elim
    (λ (taken : record { core = l; reply = r } ≡ step k e). record {
      lawful = λ y. ap (λ (n : Next). is_not_now n.reply) taken ∙ lawfully k e reached y;
      unlawful = λ n. (inl (ap (λ (m : Next). m.reply) (taken ∙ unlawful k e n)), ap (λ (m : Next). m.core) (taken ∙ unlawful k e n));
    })
    (λ (wants : (r ≡ reply.NoMemory) × (l ≡ k)). record { lawful = λ y. ap is_not_now wants.0; unlawful = λ n. (inr wants.0, wants.1) })
    is

-- ---- events one after another

pub run_next : (k : Core) (es : List Event) (i : ℕ) (e : Event) (now next : Core) (r : CoreReply) → i < length es → e ≡ slice_index_or es i e → now ≡ run k (take i es) → record { core = next; reply = r } ≡ step now e
    → next ≡ run k (take (i + 1) es)
run_next k es i e now next r within here at is =
    ap (λ (n : Next). n.core) is ∙ ap (λ (j : Core). (step j e).core) at ∙ sym (run_more k (take i es) e) ∙ ap (run k) (ap (λ (x : Event). take i es ++ x ∷ []) here ∙ sym (take_more es i e within))

replies_more : (k : Core) (es : List Event) (e : Event) → replies_to k (es ++ e ∷ []) ≡ replies_to k es ++ (step (run k es) e).reply ∷ []
replies_more k [] e = refl
replies_more k (x ∷ xs) e = ap (λ (rs : List CoreReply). (step k x).reply ∷ rs) (replies_more (step k x).core xs e)

pub replies_next : (k : Core) (es : List Event) (i : ℕ) (e : Event) (now next : Core) (r : CoreReply) (replies : List CoreReply) → i < length es → e ≡ slice_index_or es i e → now ≡ run k (take i es) → record { core = next; reply = r } ≡ step now e
    → replies ≡ replies_to k (take i es) → replies ++ r ∷ [] ≡ replies_to k (take (i + 1) es)
replies_next k es i e now next r replies within here at is so_far =
    ap (λ (rs : List CoreReply). rs ++ r ∷ []) so_far
    ∙ ap (λ (x : CoreReply). replies_to k (take i es) ++ x ∷ []) (ap (λ (n : Next). n.reply) is ∙ ap (λ (j : Core). (step j e).reply) at)
    ∙ sym (replies_more k (take i es) e) ∙ ap (replies_to k) (ap (λ (x : Event). take i es ++ x ∷ []) here ∙ sym (take_more es i e within))
