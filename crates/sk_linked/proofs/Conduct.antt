-- A record with its calls shows all that its session has to say of its transaction.
use Rattle.std.specs.Prelude.{ℕ, Bool, true, false, cond, ◌≡◌, ◌⊎◌, ◌<◌, IfSome, List, [], ◌∷◌, ◌++◌, Option, Some, None}
use Rattle.std.proofs.Common.{refl, sym, ap, subst, ◌∙◌, inl, inr, ⊎_elim}
use Rattle.std.specs.List.{list_any}
use Rattle.std.proofs.lemmas.Bool.{false≢true}
use Rattle.std.proofs.lemmas.List.Concat.{flat_map-append}
use Rattle.sk_rows.specs.declared.table.Table.{Table}
use Rattle.sk_model.specs.declared.label.Label.{Label}
use Rattle.sk_model.specs.declared.engine.EngineName.{EngineName}
use Rattle.sk_model.specs.declared.engine.EngineName.TheVariants.{Mem, Store}
use Rattle.sk_model.specs.declared.point.Point.{Point}
use Rattle.sk_model.specs.declared.record.Record.{Record}
use Rattle.sk_model.specs.declared.record.Said.{Said}
use Rattle.sk_model.specs.declared.call.EngineCall.{EngineCall}
use Rattle.sk_model.specs.declared.call.EngineCall.TheVariants as call
use Rattle.sk_model.specs.declared.call.EngineReply.{EngineReply}
use Rattle.sk_model.specs.declared.call.EngineReply.TheVariants as answer
use Rattle.sk_model.specs.declared.call.Entry.{Entry}
use Rattle.sk_model.specs.Database.{Tables}
use Rattle.sk_model.specs.Records.{is_committed, some_writes}
use Rattle.sk_model.specs.Talks.{OwnCall, Talk, same_engine, calls_in, wrote_by, wrote_in, opened}
use Rattle.sk_model.specs.RecordTalks.{number_or_none, is_check, commit_made, Outdone, Talks}
use Rattle.sk_model.proofs.Lists.{Each, each_append, each_end}
use Rattle.sk_linked.specs.Reads.{snapshot_at, PairIf}
use Rattle.sk_weave.specs.Woven.{At}
use Rattle.sk_linked.specs.Traces.{drawn_at, Transaction, In, IsOwn, open_entry, close_entry, stamp_entry}
use Rattle.sk_linked.specs.Recorded.{HasTalk}
use Rattle.sk_linked.specs.Joining.{Unopened, Opened, in_turn, phase_after, CallsInTurn, CallsFit, Ends, Behaves}
use Rattle.sk_model.specs.Texts.{texts_are_short}
use Rattle.sk_linked.specs.Conduct.{IsBacked, TalksBehave}
use Rattle.sk_linked.proofs.Sharing.{calls_fit_more, drop_in_turn, close_in_turn, close_drop_in_turn, close_stamp_in_turn, close_void_in_turn}
use Rattle.sk_linked.proofs.Speaking.{IsWork, Untouched, Working, RefusedIn, SpokenIn, spoken_in}
use Rattle.sk_linked.proofs.Stating.{spoken_fit}
use Rattle.sk_linked.proofs.Finishing.{drew_in, wrote_is, Finish, Stays, Leaves, Shuts, ShutsAndLeaves, Stamps, Voids}
use Rattle.sk_linked.proofs.Closing.{drew_wrote, undrawn_wrote, behind, calls_are, nothing_behind, finishes, one_stamped, both_checked}

some_is : {x y : ℕ} → Some x ≡ Some y → x ≡ y
some_is e = cc

some_is_none : {x : ℕ} {o : Option ℕ} → o ≡ Some x → o ≡ None → ⊥
some_is_none e f = clash (sym e ∙ f)
  where
    clash : {x : ℕ} → Some x ≡ None → ⊥
    clash g = cc

-- ---- reads and writes

-- they come in their turn in an open engine
work_turn : (tx : Label) (c : EngineCall) (reply : EngineReply) → IsWork tx c → (in_turn Opened c ≡ true) × (phase_after c reply Opened ≡ Opened)
work_turn tx (call.Open l s) reply w = absurd w
work_turn tx (call.Get l t key) reply w = (refl, refl)
work_turn tx (call.Scan l t) reply w = (refl, refl)
work_turn tx (call.Put l t key row) reply w = (refl, refl)
work_turn tx (call.Close l) reply w = absurd w
work_turn tx (call.Stamp l n) reply w = absurd w
work_turn tx (call.Void l n) reply w = absurd w
work_turn tx (call.DropTx l) reply w = absurd w
work_turn tx call.Horizon reply w = absurd w
work_turn tx (call.Records from to) reply w = absurd w
work_turn tx (call.Purge upto) reply w = absurd w

works_in_turn : (tx : Label) (js ks : List Entry) → Each (λ (j : Entry). IsWork tx j.call) js → CallsInTurn Opened ks → CallsInTurn Opened (js ++ ks)
works_in_turn tx [] ks w h = h
works_in_turn tx (j ∷ js) ks w h =
    let one : (in_turn Opened j.call ≡ true) × (phase_after j.call j.reply Opened ≡ Opened) = work_turn tx j.call j.reply w.0 in
    (one.0, subst (λ p. CallsInTurn p (js ++ ks)) (sym one.1) (works_in_turn tx js ks w.1 h))

work_own : (t : Transaction) (e : EngineName) (tx : Label) (c : EngineCall) (reply : EngineReply) → IsWork tx c → IsOwn t e c reply
work_own t e tx (call.Open l s) reply w = absurd w
work_own t e tx (call.Get l n key) reply w = tt
work_own t e tx (call.Scan l n) reply w = tt
work_own t e tx (call.Put l n key row) reply w = tt
work_own t e tx (call.Close l) reply w = absurd w
work_own t e tx (call.Stamp l n) reply w = absurd w
work_own t e tx (call.Void l n) reply w = absurd w
work_own t e tx (call.DropTx l) reply w = absurd w
work_own t e tx call.Horizon reply w = absurd w
work_own t e tx (call.Records from to) reply w = absurd w
work_own t e tx (call.Purge upto) reply w = absurd w

works_own : (t : Transaction) (e : EngineName) (tx : Label) (js : List Entry) → Each (λ (j : Entry). IsWork tx j.call) js → Each (λ (j : Entry). IsOwn t e j.call j.reply) js
works_own t e tx [] w = tt
works_own t e tx (j ∷ js) w = (work_own t e tx j.call j.reply w.0, works_own t e tx js w.1)

-- ---- what comes behind them

finish_in_turn : (tx : Label) (drew : Option ℕ) (b : Bool) (js : List Entry) → Finish tx drew b js → CallsInTurn Opened js
finish_in_turn tx drew b js (Stays d is) = subst (CallsInTurn Opened) (sym is) tt
finish_in_turn tx drew b js (Leaves d is) = subst (CallsInTurn Opened) (sym is) (drop_in_turn tx)
finish_in_turn tx drew b js (Shuts floor past is) = subst (CallsInTurn Opened) (sym is) (close_in_turn tx floor)
finish_in_turn tx drew b js (ShutsAndLeaves floor d is) = subst (CallsInTurn Opened) (sym is) (close_drop_in_turn tx floor)
finish_in_turn tx drew b js (Stamps floor n d past c is) = subst (CallsInTurn Opened) (sym is) (close_stamp_in_turn tx floor n past)
finish_in_turn tx drew b js (Voids floor n d past c is) = subst (CallsInTurn Opened) (sym is) (close_void_in_turn tx floor n past)

module _ (catalog : List Table) (rows : Tables) (name : EngineName) where
  finish_fits : (tx : Label) (drew : Option ℕ) (b : Bool) (js : List Entry) → Finish tx drew b js → CallsFit name catalog rows js
  finish_fits tx drew b js (Stays d is) = subst (CallsFit name catalog rows) (sym is) tt
  finish_fits tx drew b js (Leaves d is) = subst (CallsFit name catalog rows) (sym is) (refl, λ f. tt)
  finish_fits tx drew b js (Shuts floor past is) = subst (CallsFit name catalog rows) (sym is) (refl, λ f. tt)
  finish_fits tx drew b js (ShutsAndLeaves floor d is) = subst (CallsFit name catalog rows) (sym is) (refl, λ f. (refl, λ g. tt))
  finish_fits tx drew b js (Stamps floor n d past c is) = subst (CallsFit name catalog rows) (sym is) (refl, λ f. (refl, λ g. tt))
  finish_fits tx drew b js (Voids floor n d past c is) = subst (CallsFit name catalog rows) (sym is) (refl, λ f. (refl, λ g. tt))

finish_own : (t : Transaction) (e : EngineName) (tx : Label) (js : List Entry) → Finish tx (drawn_at e t.drew) t.committed js → Each (λ (j : Entry). IsOwn t e j.call j.reply) js
finish_own t e tx js (Stays d is) = subst (Each (λ (j : Entry). IsOwn t e j.call j.reply)) (sym is) tt
finish_own t e tx js (Leaves d is) = subst (Each (λ (j : Entry). IsOwn t e j.call j.reply)) (sym is) (tt, tt)
finish_own t e tx js (Shuts floor past is) = subst (Each (λ (j : Entry). IsOwn t e j.call j.reply)) (sym is) (tt, tt)
finish_own t e tx js (ShutsAndLeaves floor d is) = subst (Each (λ (j : Entry). IsOwn t e j.call j.reply)) (sym is) (tt, (tt, tt))
finish_own t e tx js (Stamps floor n d past c is) = subst (Each (λ (j : Entry). IsOwn t e j.call j.reply)) (sym is) (tt, ((d, c), tt))
finish_own t e tx js (Voids floor n d past c is) = subst (Each (λ (j : Entry). IsOwn t e j.call j.reply)) (sym is) (tt, (d, tt))

-- nothing is written behind the statements' calls
finish_quiet : (tx : Label) (drew : Option ℕ) (b : Bool) (js : List Entry) → Finish tx drew b js → wrote_in js ≡ []
finish_quiet tx drew b js (Stays d is) = ap wrote_in is
finish_quiet tx drew b js (Leaves d is) = ap wrote_in is
finish_quiet tx drew b js (Shuts floor past is) = ap wrote_in is
finish_quiet tx drew b js (ShutsAndLeaves floor d is) = ap wrote_in is
finish_quiet tx drew b js (Stamps floor n d past c is) = ap wrote_in is
finish_quiet tx drew b js (Voids floor n d past c is) = ap wrote_in is

-- who drew n closed with a floor before it, and, once committed, stamps it or does no more
record Shut (tx : Label) (n : ℕ) (committed : Bool) (js : List Entry) : Type 0 where
  floor : ℕ
  tail : List Entry
  is : js ≡ close_entry tx floor ∷ tail
  past : floor < n
  stamps : committed ≡ true → (tail ≡ []) ⊎ (tail ≡ stamp_entry tx n ∷ [])

shut : (tx : Label) (drew : Option ℕ) (b : Bool) (js : List Entry) (n : ℕ) → drew ≡ Some n → Finish tx drew b js → Shut tx n b js
shut tx drew b js n d (Stays none is) = absurd (some_is_none d none)
shut tx drew b js n d (Leaves none is) = absurd (some_is_none d none)
shut tx drew b js n d (Shuts floor past is) = record { floor = floor; tail = []; is = is; past = subst (λ o. IfSome o (λ n. floor < n)) d past; stamps = λ c. inl refl }
shut tx drew b js n d (ShutsAndLeaves floor none is) = absurd (some_is_none d none)
shut tx drew b js n d (Stamps floor m s past c is) =
    let same : m ≡ n = some_is (sym s ∙ d) in
    record { floor = floor; tail = stamp_entry tx m ∷ []; is = is; past = subst (λ k. floor < k) same past; stamps = λ c. inr (ap (λ k. stamp_entry tx k ∷ []) same) }
shut tx drew b js n d (Voids floor m s past c is) =
    let same : m ≡ n = some_is (sym s ∙ d) in
    record { floor = floor; tail = record { call = call.Void tx m; reply = answer.Done } ∷ []; is = is; past = subst (λ k. floor < k) same past; stamps = λ k. absurd (false≢true (sym c ∙ k)) }

-- ---- both engines

-- what holds of the calls of each engine holds of all
each_engine : (P : EngineName → Entry → Type 0) (talk : Talk) → ((e : EngineName) → Each (P e) (calls_in e talk)) → Each (λ (c : OwnCall). P c.engine c.entry) talk
each_engine P [] h = tt
each_engine P (c ∷ cs) h = (first c.engine (h c.engine), each_engine P cs (λ e. rest (same_engine e c.engine) e (h e)))
  where
    here : (e : EngineName) → same_engine e e ≡ true
    here Mem = refl
    here Store = refl

    first : (e : EngineName) → Each (P e) (cond (same_engine e e) (c.entry ∷ []) [] ++ calls_in e cs) → P e c.entry
    first Mem k = k.0
    first Store k = k.0

    rest : (b : Bool) (e : EngineName) → Each (P e) (cond b (c.entry ∷ []) [] ++ calls_in e cs) → Each (P e) (calls_in e cs)
    rest true e k = k.1
    rest false e k = k

at_point : (a b : ℕ) (points : List Point) → In (record { a = a; b = b; commit = true }) points → At a b points
at_point a b [] i = absurd i
at_point a b (p ∷ ps) i = ⊎_elim
    (λ (e : record { a = a; b = b; commit = true } ≡ p). inl (ap (λ (q : Point). q.commit) (sym e), ap (λ (q : Point). q.a) (sym e), ap (λ (q : Point). q.b) (sym e)))
    (λ (k : In _ ps). inr (at_point a b ps k))
    i

-- the statements that a record heard are those that it was said
heard_short : (r : Record) (heard : List Said) → (r.said ≡ heard) ⊎ Outdone r heard → Each (λ (s : Said). texts_are_short s.statement ≡ true) r.said → Each (λ (s : Said). texts_are_short s.statement ≡ true) heard
heard_short r heard (inl is) h = subst (Each (λ (s : Said). texts_are_short s.statement ≡ true)) is h
heard_short r heard (inr o) h = subst (Each (λ (s : Said). texts_are_short s.statement ≡ true)) (sym o.heard_is) ((subst (Each (λ (s : Said). texts_are_short s.statement ≡ true)) o.said_is h).0, tt)

module _ (catalog : List Table) (rows : Tables) (points : List Point) (t : Transaction) (r : Record) (same : HasTalk t r) (talks : Talks catalog r t.talk) (backed : IsBacked catalog rows points r) where
  snapshot_is : (e : EngineName) → snapshot_at e t.snapshots ≡ opened e talks.spoken
  snapshot_is Mem = sym same.mem ∙ talks.mem
  snapshot_is Store = sym same.store ∙ talks.store

  drawn_is : (e : EngineName) → drawn_at e t.drew ≡ drew_in e r
  drawn_is Mem = sym same.drew_mem
  drawn_is Store = sym same.drew_store

  -- what comes behind the calls of its statements
  later : EngineName → List Entry
  later e = behind catalog r t.talk talks e

  spoken : (e : EngineName) → SpokenIn r.label e talks.spoken
  spoken e = spoken_in r.label catalog r.kind talks.heard talks.spoken talks.asked e

  calls : (e : EngineName) → calls_in e t.talk ≡ calls_in e talks.spoken ++ later e
  unfolding later
  calls e = calls_are catalog r t.talk talks e

  finishing : (e : EngineName) → Finish r.label (drew_in e r) (is_committed r.ending) (later e)
  unfolding later
  finishing e = finishes catalog r t.talk talks e

  untouched : (e : EngineName) → wrote_in (calls_in e talks.spoken) ≡ [] → opened e talks.spoken ≡ None → later e ≡ []
  unfolding later
  untouched e w o = nothing_behind catalog r t.talk talks e (wrote_is e talks.spoken ∙ ap some_writes w) o

  alone_in : (e : EngineName) → calls_in e talks.spoken ≡ [] → opened e talks.spoken ≡ None → calls_in e t.talk ≡ []
  alone_in e none o = calls e ∙ ap (λ js. js ++ later e) none ∙ untouched e (ap wrote_in none) o

  refused_in : (e : EngineName) (x : RefusedIn r.label (calls_in e talks.spoken) (opened e talks.spoken)) → calls_in e t.talk ≡ record { call = call.Open r.label x.snapshot; reply = answer.Fault x.fault } ∷ []
  refused_in e x = calls e ∙ ap (λ js. js ++ later e) x.is ∙ ap (λ js. record { call = call.Open r.label x.snapshot; reply = answer.Fault x.fault } ∷ js) (untouched e (ap wrote_in x.is) x.none)

  working_in : (e : EngineName) (s : ℕ) (rest : List Entry) → calls_in e talks.spoken ≡ open_entry r.label s ∷ rest → calls_in e t.talk ≡ open_entry r.label s ∷ (rest ++ later e)
  working_in e s rest is = calls e ∙ ap (λ js. js ++ later e) is

  ordered : (e : EngineName) → SpokenIn r.label e talks.spoken → CallsInTurn Unopened (calls_in e t.talk)
  ordered e (inl (Untouched none o)) = subst (CallsInTurn Unopened) (sym (alone_in e none o)) tt
  ordered e (inl (Working s rest is works o)) = subst (CallsInTurn Unopened) (sym (working_in e s rest is)) (refl, works_in_turn r.label rest (later e) works (finish_in_turn r.label (drew_in e r) (is_committed r.ending) (later e) (finishing e)))
  ordered e (inr x) = subst (CallsInTurn Unopened) (sym (refused_in e x)) (refl, tt)

  fitting : (e : EngineName) → CallsFit e catalog rows (calls_in e t.talk)
  fitting e = subst (CallsFit e catalog rows) (sym (calls e)) (calls_fit_more e catalog rows (calls_in e talks.spoken) (later e)
      (spoken_fit catalog rows r.label backed.tables.good backed.opening r.kind talks.heard [] talks.spoken (heard_short r talks.heard talks.said backed.texts) talks.asked e)
      (λ f. finish_fits catalog rows e r.label (drew_in e r) (is_committed r.ending) (later e) (finishing e)))

  own_in : (e : EngineName) → SpokenIn r.label e talks.spoken → Each (λ (j : Entry). IsOwn t e j.call j.reply) (calls_in e t.talk)
  own_in e (inl (Untouched none o)) = subst (Each (λ (j : Entry). IsOwn t e j.call j.reply)) (sym (alone_in e none o)) tt
  own_in e (inl (Working s rest is works o)) = subst (Each (λ (j : Entry). IsOwn t e j.call j.reply)) (sym (working_in e s rest is))
      (λ done. snapshot_is e ∙ o, each_append (λ (j : Entry). IsOwn t e j.call j.reply) rest (later e) (works_own t e r.label rest works) ended)
    where
      ended : Each (λ (j : Entry). IsOwn t e j.call j.reply) (later e)
      ended = finish_own t e r.label (later e) (subst (λ o. Finish r.label o t.committed (later e)) (sym (drawn_is e)) (subst (λ b. Finish r.label (drew_in e r) b (later e)) same.committed (finishing e)))
  own_in e (inr x) = subst (Each (λ (j : Entry). IsOwn t e j.call j.reply)) (sym (refused_in e x)) ((λ done. absurd (false≢true (sym done))), tt)

  opened_in : (e : EngineName) (a : ℕ) → SpokenIn r.label e talks.spoken → snapshot_at e t.snapshots ≡ Some a → In (open_entry t.label a) (calls_in e t.talk)
  opened_in e a (inl (Untouched none o)) s = absurd (some_is_none s (snapshot_is e ∙ o))
  opened_in e a (inl (Working b rest is works o)) s =
      let number : b ≡ a = some_is (sym o ∙ sym (snapshot_is e) ∙ s) in
      subst (In (open_entry t.label a)) (sym (working_in e b rest is)) (inl (ap (λ l. open_entry l a) (sym same.label) ∙ ap (open_entry r.label) (sym number)))
  opened_in e a (inr x) s = absurd (some_is_none s (snapshot_is e ∙ x.none))

  ends : (e : EngineName) (n : ℕ) → drawn_at e t.drew ≡ Some n → Ends t e n
  ends e n d =
      let drew : drew_in e r ≡ Some n = sym (drawn_is e) ∙ d in
      let end : Shut r.label n (is_committed r.ending) (later e) = shut r.label (drew_in e r) (is_committed r.ending) (later e) n drew (finishing e) in
      record {
        before = calls_in e talks.spoken;
        floor = end.floor;
        tail = end.tail;
        is = calls e ∙ ap (λ js. calls_in e talks.spoken ++ js) end.is ∙ ap (λ l. calls_in e talks.spoken ++ close_entry l end.floor ∷ end.tail) same.label;
        past = end.past;
        wrote = sym (wrote_is e talks.spoken) ∙ drew_wrote catalog r t.talk talks e n drew;
        stamps = λ c. subst (λ l. (end.tail ≡ []) ⊎ (end.tail ≡ stamp_entry l n ∷ [])) same.label (end.stamps (same.committed ∙ c));
      }

  silent : (e : EngineName) → t.committed ≡ true → drawn_at e t.drew ≡ None → wrote_in (calls_in e t.talk) ≡ []
  silent e c d =
      let none : wrote_in (calls_in e talks.spoken) ≡ [] = nothing _ (sym (wrote_is e talks.spoken) ∙ undrawn_wrote catalog r t.talk talks e (same.committed ∙ c) (sym (drawn_is e) ∙ d)) in
      ap wrote_in (calls e) ∙ flat_map-append (λ (j : Entry). wrote_by j.call j.reply) (calls_in e talks.spoken) (later e)
      ∙ ap (λ ws. ws ++ wrote_in (later e)) none ∙ finish_quiet r.label (drew_in e r) (is_committed r.ending) (later e) (finishing e)
    where
      nothing : (ws : List _) → some_writes ws ≡ false → ws ≡ []
      nothing [] e = refl
      nothing (w ∷ ws) e = absurd (false≢true (sym e))

  crossed : (a b : ℕ) → t.committed ≡ true → t.drew.mem ≡ Some a → t.drew.store ≡ Some b → At a b points
  crossed a b c m s =
      let checked : list_any is_check talks.taken ≡ true = both_checked catalog r t.talk talks a b (same.committed ∙ c) (same.drew_mem ∙ m) (same.drew_store ∙ s) in
      let point : commit_made talks.numbered talks.taken ≡ record { a = a; b = b; commit = true } ∷ [] =
      ap (λ x. cond x (record { a = number_or_none talks.numbered.mem; b = number_or_none talks.numbered.store; commit = true } ∷ []) []) checked
      ∙ ap (λ o. record { a = number_or_none o; b = number_or_none talks.numbered.store; commit = true } ∷ []) (sym talks.drew_mem ∙ same.drew_mem ∙ m)
      ∙ ap (λ o. record { a = a; b = number_or_none o; commit = true } ∷ []) (sym talks.drew_store ∙ same.drew_store ∙ s) in
      let made : Each (λ (q : Point). In q points) (record { a = a; b = b; commit = true } ∷ []) =
      each_end (λ (q : Point). In q points) talks.selected (record { a = a; b = b; commit = true } ∷ []) (subst (Each (λ (q : Point). In q points)) (talks.made ∙ ap (λ ps. talks.selected ++ ps) point) backed.made) in
      at_point a b points made.0

  behaves : Behaves catalog rows points t
  behaves = record {
    ordered = λ e. ordered e (spoken e);
    fitting = fitting;
    own = each_engine (λ e j. IsOwn t e j.call j.reply) t.talk (λ e. own_in e (spoken e));
    opened = λ e a s. opened_in e a (spoken e) s;
    pair = subst (λ o. PairIf points o t.snapshots.store) same.mem (subst (λ o. PairIf points r.mem o) same.store backed.pair);
    ends = ends;
    silent = silent;
    alone = λ e other n apart c d u. one_stamped catalog r t.talk talks e other n apart (same.committed ∙ c) (sym (drawn_is e) ∙ d) (sym (drawn_is other) ∙ u);
    crossed = crossed;
  }

pub talks_behave : TalksBehave
talks_behave catalog rows points t r same talks backed = behaves catalog rows points t r same talks backed
