-- What a flush asks for keeps what holds of all sessions.
use Rattle.std.specs.Prelude.{◌≡◌, ℕ, ◌≤◌, List, [], ◌∷◌, ◌++◌, None, Bool, true, false, cond, map}
use Rattle.std.proofs.Common.{refl, sym, ap, subst, ◌∙◌, inl, inr, ⊎_elim, arith}
use Rattle.std.proofs.lemmas.Bool.{cond_both}
use Rattle.std.proofs.lemmas.List.{append-nil}
use Rattle.std.proofs.lemmas.List.Elements.{filter-append}
use Rattle.sk_rows.specs.declared.table.Table.{Table}
use Rattle.sk_model.specs.declared.label.Label.{Label}
use Rattle.sk_model.specs.declared.engine.EngineName.{EngineName}
use Rattle.sk_model.specs.declared.engine.EngineName.TheVariants.{Mem, Store}
use Rattle.sk_model.specs.declared.point.Point.{Point}
use Rattle.sk_model.specs.declared.call.EngineCall.{EngineCall}
use Rattle.sk_model.specs.declared.call.EngineReply.{EngineReply}
use Rattle.sk_model.specs.declared.call.Entry.{Entry}
use Rattle.sk_model.specs.Engine.{EngineTable}
use Rattle.sk_model.specs.Legal.{after_entries}
use Rattle.sk_model.specs.Talks.{own, call_in, tx_of, is_tx, is_by, entries_by}
use Rattle.sk_model.proofs.Lists.{Each, each_append, each_weaker}
use Rattle.sk_weave.specs.Points.{selection}
use Rattle.sk_weave.specs.Registry.{Regs, after_all, append_steps, makes_cut, after_cut}
use Rattle.sk_weave.specs.AheadLaws.{Counters, counters_of, AreAhead}
use Rattle.sk_linked.specs.Reads.{PairIf}
use Rattle.sk_weave.proofs.Aheads.{ahead_stays}
use Rattle.sk_linked.specs.Traces.{In, IsAtHorizons}
use Rattle.sk_linked.specs.Joining.{MayRecord, MayRecords}
use Rattle.sk_linked.specs.State.{counter}
use Rattle.sk_linked.proofs.Members.{in_front}
use Rattle.sk_linked.proofs.Moving.{cut_moves}
use Rattle.sk_session.specs.Common.{Common, IsCommon}
use Rattle.sk_session.specs.Facts.{Facts}
use Rattle.sk_kept.specs.Held.{Trace, Within, IsHeld, Maker, Called, Sourced, Held}
use Rattle.sk_kept.specs.Freshness.{Glimpse, Found}
use Rattle.sk_kept.specs.Running.{Member, traces_in, all_traces, IsMember}
use Rattle.sk_kept.specs.Sessions.{Player, member_of, IsRun}
use Rattle.sk_kept.specs.Flushing.{AnsweredFlush, Cuts, FlushCallsKeep, CutsKeep}
use Rattle.sk_kept.proofs.Changes.{pair_grows, at_most_more, mem_after_append, store_after_append}
use Rattle.sk_kept.proofs.Journals.{unowned_grows, horizons_stay}
use Rattle.sk_kept.proofs.Steps.{filter_none}
use Rattle.sk_kept.proofs.Running.{may_ask_more}

-- What is common has gained entries of no transaction, and points at horizons that the engines had answered; the counters are the same, and
-- what a session saw of both the points stay ahead of.
record Beside (c d : Common) (more : List Point) : Type 0 where
  common : IsCommon d
  first : d.first ≡ c.first
  noted : EngineName → List Entry
  journals : (name : EngineName) → d.journals name ≡ c.journals name ++ noted name
  nobody : (name : EngineName) → Each (λ (j : Entry). tx_of j.call ≡ None) (noted name)
  may : (name : EngineName) → MayRecords (after_entries (c.first name) (c.journals name)) (noted name)
  points : d.regs.points ≡ c.regs.points ++ more
  cuts : Each (IsAtHorizons c.journals) more
  counters : (name : EngineName) → counter name d.regs ≡ counter name c.regs
  ahead : (seen : Counters) → seen.store ≤ c.regs.store → AreAhead seen c.regs.points → AreAhead seen d.regs.points

-- calls of no transaction are of none
none_by : (l : Label) (js : List Entry) → Each (λ (j : Entry). tx_of j.call ≡ None) js → entries_by l js ≡ []
none_by l js h = filter_none (is_by l) js (each_weaker (λ (j : Entry). tx_of j.call ≡ None) (λ j. is_by l j ≡ false) (λ j e. ap (is_tx l) e) js h)

module _ (c d : Common) (more : List Point) (b : Beside c d more) where
  mem_stays : c.regs.mem ≤ d.regs.mem
  mem_stays = let e : d.regs.mem ≡ c.regs.mem = b.counters Mem in omega arith

  store_stays : c.regs.store ≤ d.regs.store
  store_stays = let e : d.regs.store ≡ c.regs.store = b.counters Store in omega arith

  -- ---- transactions, journals and points

  within_beside : (f : Facts) → Within (counters_of c.regs) f → Within (counters_of d.regs) f
  within_beside f w = record {
    mem = at_most_more f.mem c.regs.mem d.regs.mem mem_stays w.mem;
    store = at_most_more f.store c.regs.store d.regs.store store_stays w.store;
    drew_mem = at_most_more f.drew_mem c.regs.mem d.regs.mem mem_stays w.drew_mem;
    drew_store = at_most_more f.drew_store c.regs.store d.regs.store store_stays w.drew_store;
  }

  is_held_beside : (t : Trace) → IsHeld c t → IsHeld d t
  is_held_beside t h = record {
    entries = λ name. ap (entries_by t.facts.label) (b.journals name) ∙ filter-append (is_by t.facts.label) (c.journals name) (b.noted name)
        ∙ ap (λ js. entries_by t.facts.label (c.journals name) ++ js) (none_by t.facts.label (b.noted name) (b.nobody name))
        ∙ append-nil (entries_by t.facts.label (c.journals name)) ∙ h.entries name;
    pair = subst (λ ps. PairIf ps t.facts.mem t.facts.store) (sym b.points) (pair_grows c.regs.points more t.facts.mem t.facts.store h.pair);
    within = within_beside t.facts h.within;
  }

  at_horizons : (q : Point) → IsAtHorizons c.journals q → IsAtHorizons d.journals q
  at_horizons = horizons_stay c.journals d.journals (λ name j i. subst (In j) (sym (b.journals name)) (in_front j (c.journals name) (b.noted name) i))

  sourced_beside : (ts : List Trace) (q : Point) → Sourced c.journals ts q → Sourced d.journals ts q
  sourced_beside ts q h = ⊎_elim (λ (k : Maker ts q). inl k) (λ (k : IsAtHorizons c.journals q). inr (at_horizons q k)) h

  held_beside : (first : Point) (points : List Point) (ts : List Trace) → Held first points c ts → Held first (points ++ more) d ts
  held_beside first points ts h = record {
    common = b.common;
    points_are = b.points ∙ ap (λ ps. ps ++ more) h.points_are;
    each = each_weaker (IsHeld c) (IsHeld d) is_held_beside ts h.each;
    callers = λ name. subst (Each (Called ts)) (sym (b.journals name))
        (each_append (Called ts) (c.journals name) (b.noted name) (h.callers name) (each_weaker (λ (j : Entry). tx_of j.call ≡ None) (Called ts) (λ j e. inr e) (b.noted name) (b.nobody name)));
    unowned = λ name. unowned_grows c d name (b.noted name) b.first (b.journals name) (h.unowned name) (b.may name);
    makers = each_append (Sourced d.journals ts) points more (each_weaker (Sourced c.journals ts) (Sourced d.journals ts) (sourced_beside ts) points h.makers)
        (each_weaker (IsAtHorizons c.journals) (Sourced d.journals ts) (λ q k. inr (at_horizons q k)) more b.cuts);
    among = each_weaker (λ (t : Trace). Each (λ (q : Point). In q points) t.facts.made) (λ (t : Trace). Each (λ (q : Point). In q (points ++ more)) t.facts.made)
        (λ t k. each_weaker (λ (q : Point). In q points) (λ (q : Point). In q (points ++ more)) (λ q i. in_front q points more i) t.facts.made k) ts h.among;
    once = h.once;
    unlike = h.unlike;
    drawn = λ name n low le. h.drawn name n low (subst (λ k. n ≤ k) (b.counters name) le);
  }

  -- ---- sessions

  glimpse_beside : (all : List Trace) (seen : Counters) → Glimpse c all seen → Glimpse d all seen
  glimpse_beside all seen h =
      let before_mem : seen.mem ≤ c.regs.mem = h.mem in
      let before_store : seen.store ≤ c.regs.store = h.store in
      let mem : c.regs.mem ≤ d.regs.mem = mem_stays in
      let store : c.regs.store ≤ d.regs.store = store_stays in
      record { mem = omega arith; store = omega arith; ahead = b.ahead seen h.store h.ahead; crosses = h.crosses }

  found_beside : (all : List Trace) (seen : Counters) (ts : List Trace) → Found c all seen ts → Found d all seen ts
  found_beside all seen ts h = record {
    glimpse = glimpse_beside all seen h.glimpse;
    front = h.front;
    last = h.last;
    are = h.are;
    first = h.first;
    ordered = h.ordered;
    within = h.within;
    since = h.since;
  }

  member_beside : (all : List Trace) (m : Member) → IsMember c all m → IsMember d all m
  member_beside all m h = record {
    numbered = h.numbered;
    seen = h.seen;
    found = found_beside all h.seen (traces_in m) h.found;
    since = h.since;
    may = λ front f e. may_ask_more c d f m.asked more b.points mem_stays store_stays (h.may front f e);
  }

  run_beside : (catalog : List Table) (first : Point) (points : List Point) (players : List Player) → IsRun catalog first points c players → IsRun catalog first (points ++ more) d players
  run_beside catalog first points players h = record {
    running = record {
      held = held_beside first points (all_traces (map member_of players)) h.running.held;
      members = each_weaker (IsMember c (all_traces (map member_of players))) (IsMember d (all_traces (map member_of players))) (member_beside (all_traces (map member_of players))) (map member_of players) h.running.members;
      differ = h.running.differ;
    };
    talks = h.talks;
  }

-- ---- a call

-- what holds of the entry holds of each entry that it adds to a journal
each_noted : (P : Entry → Type 0) (name engine : EngineName) (asked : EngineCall) (reply : EngineReply) → P (record { call = asked; reply = reply }) → Each P (call_in name (own engine asked reply))
each_noted P Mem Mem asked reply h = (h, tt)
each_noted P Mem Store asked reply h = tt
each_noted P Store Mem asked reply h = tt
each_noted P Store Store asked reply h = (h, tt)

may_noted : (e : EngineName → EngineTable) (name engine : EngineName) (asked : EngineCall) (reply : EngineReply) → MayRecord (e engine) asked → MayRecords (e name) (call_in name (own engine asked reply))
may_noted e Mem Mem asked reply h = (h, tt)
may_noted e Mem Store asked reply h = tt
may_noted e Store Mem asked reply h = tt
may_noted e Store Store asked reply h = (h, tt)

call_beside : (c d : Common) (name : EngineName) (asked : EngineCall) (reply : EngineReply) → AnsweredFlush c name asked reply d → Beside c d []
call_beside c d name asked reply h = record {
  common = h.common;
  first = h.first;
  noted = λ other. call_in other (own name asked reply);
  journals = h.journals;
  nobody = λ other. each_noted (λ (j : Entry). tx_of j.call ≡ None) other name asked reply h.nobody;
  may = λ other. may_noted (λ x. after_entries (c.first x) (c.journals x)) other name asked reply h.may;
  points = ap (λ (r : Regs). r.points) h.regs ∙ sym (append-nil c.regs.points);
  cuts = tt;
  counters = λ other. ap (λ (r : Regs). counter other r) h.regs;
  ahead = λ seen l k. subst (λ (r : Regs). AreAhead seen r.points) (sym h.regs) k;
}

pub flush_calls_keep : FlushCallsKeep
flush_calls_keep catalog first points c d players name asked reply h answered =
    subst (λ ps. IsRun catalog first ps d players) (append-nil points) (run_beside c d [] (call_beside c d name asked reply answered) catalog first points players h)

-- ---- a cut

-- the counters stay
cut_counters : (r : Regs) (x y now : ℕ) (name : EngineName) → counter name (after_cut r x y now) ≡ counter name r
cut_counters r x y now = go (makes_cut r x y now)
  where
    go : (made : Bool) (name : EngineName) → counter name (after_all r (cond made (append_steps r (selection x y)) [])) ≡ counter name r
    go true Mem = mem_after_append r (selection x y)
    go true Store = store_after_append r (selection x y)
    go false Mem = refl
    go false Store = refl

abbrev cut_points : Regs → ℕ → ℕ → List Point
cut_points r x y = cond (makes_cut r x y r.store) (selection x y ∷ []) []

cut_beside : (c d : Common) (x y : ℕ) → Cuts c x y d → Beside c d (cut_points c.regs x y)
cut_beside c d x y h = record {
  common = h.common;
  first = h.first;
  noted = λ name. [];
  journals = λ name. h.journals name ∙ sym (append-nil (c.journals name));
  nobody = λ name. tt;
  may = λ name. tt;
  points = ap (λ (r : Regs). r.points) h.regs ∙ (cut_moves c.regs x y c.regs.store).points;
  cuts = cond_both (makes_cut c.regs x y c.regs.store) (selection x y ∷ []) [] (λ ps. Each (IsAtHorizons c.journals) ps) (λ made. (record { selects = refl; mem = h.mem; store = h.store }, tt)) (λ none. tt);
  counters = λ name. ap (λ (r : Regs). counter name r) h.regs ∙ cut_counters c.regs x y c.regs.store name;
  ahead = λ seen l k. subst (λ (r : Regs). AreAhead seen r.points) (sym h.regs) ((ahead_stays seen c.regs k).cuts x y c.regs.store (λ past. l));
}

pub cuts_keep : CutsKeep
cuts_keep catalog first points c d players x y h cut = (cut_points c.regs x y, run_beside c d (cut_points c.regs x y) (cut_beside c d x y cut) catalog first points players h)
