-- What a run hands out is of one run of sessions, and of one database.
use Rattle.std.specs.Prelude.{◌≡◌, ℕ, ◌+◌, List, [], ◌∷◌, ◌++◌, map}
use Rattle.std.specs.List.{flat_map}
use Rattle.std.proofs.Common.{refl, sym, ap, subst, ◌∙◌}
use Rattle.std.proofs.lemmas.List.{map-append}
use Rattle.sk_rows.specs.declared.table.Table.{Table}
use Rattle.sk_model.specs.declared.engine.EngineName.{EngineName}
use Rattle.sk_model.specs.declared.commit.Commit.{Commit}
use Rattle.sk_model.specs.declared.point.Point.{Point}
use Rattle.sk_model.specs.declared.record.Record.{Record}
use Rattle.sk_model.specs.declared.record.Said.{Said}
use Rattle.sk_model.specs.declared.call.Entry.{Entry}
use Rattle.sk_model.specs.Engine.{EngineTable}
use Rattle.sk_model.specs.Places.{place}
use Rattle.sk_model.specs.Records.{InTurn, OneDatabase}
use Rattle.sk_model.specs.Spoken.{Outside}
use Rattle.sk_model.specs.Talks.{Talk}
use Rattle.sk_model.proofs.Lists.{Each}
use Rattle.sk_linked.specs.Reads.{Run as CommitRun, order_of}
use Rattle.sk_linked.specs.Joining.{all_transactions}
use Rattle.sk_linked.specs.Causes.{Ring, RegistrySaid, Caused, HasCauses}
use Rattle.sk_linked.specs.Traces.{Traces}
use Rattle.sk_linked.specs.Kept.{Account, Session as Spoken, Play, transaction_in, transactions_in, share_in, records_in, traces_in, IsPlay}
use Rattle.sk_linked.specs.Traces.{run_of}
use Rattle.sk_linked.specs.Headline.{place_of}
use Rattle.sk_linked.proofs.Kept.{sessions_are_one}
use Rattle.sk_mem.specs.declared.engine.MemEngine.{MemEngine}
use Rattle.sk_store.specs.declared.engine.StoreEngine.{StoreEngine}
use Rattle.sk_session.specs.declared.live.At.{At}
use Rattle.sk_session.specs.declared.live.At.TheVariants as at
use Rattle.sk_session.specs.declared.session.Session.{Session as Speaker}
use Rattle.sk_session.specs.EachTalk.{EachTalks, SessionTalks, IsBetween}
use Rattle.sk_session.specs.Moving.{records_at}
use Rattle.sk_session.specs.Starting.{records_now}
use Rattle.sk_session.specs.SoFar.{so_far}
use Rattle.sk_session.specs.Printed.{Prints, said_in, seat_at}
use Rattle.sk_session.specs.Common.{Common}
use Rattle.sk_session.proofs.Recorded.{talks_now}
use Rattle.sk_shared.specs.Shared.{Stands}
use Rattle.sk_shared.specs.Finished.{IsLeft}
use Rattle.sk_shared.specs.declared.finished.Finished.{Finished}
use Rattle.sk_kept.specs.Sessions.{Player}
use Rattle.sk_kept.specs.Ended.{accounts_of, session_of, play_of, AreShort, IsPaused}
use Rattle.sk_kept.proofs.Ended.{paused_is_one}
use Rattle.sk_recorded.specs.Flushes.{Flush}
use Rattle.sk_recorded.specs.Refused.{ring_of}
use Rattle.sk_recorded.proofs.Refused.{refusals_are_said}
use Rattle.sk_ledger.specs.Ledger.{IsLeftBy}
use Rattle.sk_run.specs.Told.{RunLine, IsShort, AreTold, AreSaid, lines_of}
use Rattle.sk_run.specs.State.{RunState}
use Rattle.sk_run.specs.Kept.{Beginning, HasKept, IsKept}
use Rattle.sk_run.specs.Ended.{AreSteps, joined, ShowPrefixes, CutsAreAmong, HasEnded}
use Rattle.sk_run.specs.declared.ended.Ended.{Ended}
use Rattle.sk_run.specs.Numbered.{AreByRecords}
use Rattle.sk_run.proofs.Numbered.{numbered}
use Rattle.sk_run.proofs.Showing.{show_prefixes, cuts_among}
use Rattle.sk_run.proofs.Lines.{lines_short, prints_short, records_short}

-- ---- one session

-- between two lines the records are as they would be handed out
so_far_now : (records : List Record) (there : At) → IsBetween there → so_far records there ≡ records_at records there
so_far_now records at.Outside b = refl
so_far_now records (at.Inside live) b = refl
so_far_now records (at.Stepping live c) b = refl
so_far_now records at.Ended b = refl
so_far_now records (at.Asking live doing) b = absurd b

-- each record has its account
all_kept : (catalog : List Table) (number k : ℕ) (rs : List Record) (ts : List Talk) → EachTalks catalog number k rs ts → rs ≡ map (λ (a : Account). a.kept) (accounts_of rs ts)
all_kept catalog number k [] [] h = refl
all_kept catalog number k [] (t ∷ ts) h = absurd h
all_kept catalog number k (r ∷ rs) [] h = absurd h
all_kept catalog number k (r ∷ rs) (t ∷ ts) h = ap (λ (rest : List Record). r ∷ rest) (all_kept catalog number (k + 1) rs ts h.2)

-- ---- all sessions

are_kept : (catalog : List Table) (ps : List Player) → Each (λ (p : Player). SessionTalks catalog p.session p.talks) ps → Each (λ (p : Player). IsBetween p.session.at) ps
    → joined (map records_now (map (λ (p : Player). p.session) ps)) ≡ flat_map (λ (s : Spoken). map (λ (a : Account). a.kept) s.accounts) (map session_of ps)
are_kept catalog [] t b = refl
are_kept catalog (p ∷ ps) t b =
    ap (λ (rs : List Record). rs ++ joined (map records_now (map (λ (p : Player). p.session) ps)))
    (all_kept catalog p.session.number 1 (records_now p.session) p.talks (talks_now p.session (records_now p.session) refl catalog p.talks t.0 b.0))
    ∙ ap (λ (rs : List Record). map (λ (a : Account). a.kept) (accounts_of (records_now p.session) p.talks) ++ rs) (are_kept catalog ps t.1 b.1)

-- what each was told is what its records say
are_said : (k : ℕ) (lines : List RunLine) (ps : List Player) → Each (λ (p : Player). IsBetween p.session.at) ps → AreTold k lines (map (λ (p : Player). p.session) ps) → AreSaid k lines (map records_now (map (λ (p : Player). p.session) ps))
are_said k lines [] b h = tt
are_said k lines (p ∷ ps) b h = (
  (seat_at p.session.at, subst (λ rs. Prints Outside (lines_of k lines) (said_in rs) (seat_at p.session.at)) (so_far_now p.session.records p.session.at b.0) h.1.prints),
  are_said (k + 1) lines ps b.1 h.2,
)

are_short : (k : ℕ) (lines : List RunLine) (ps : List Player) → Each (λ (l : RunLine). IsShort l.line.0) lines → Each (λ (p : Player). IsBetween p.session.at) ps → AreTold k lines (map (λ (p : Player). p.session) ps)
    → Each (λ (p : Player). Each AreShort (records_now p.session)) ps
are_short k lines [] s b h = tt
are_short k lines (p ∷ ps) s b h = (
  records_short (records_now p.session) (prints_short Outside (lines_of k lines) (said_in (records_now p.session)) (seat_at p.session.at) (lines_short k lines s)
      (subst (λ rs. Prints Outside (lines_of k lines) (said_in rs) (seat_at p.session.at)) (so_far_now p.session.records p.session.at b.0) h.1.prints)),
  are_short (k + 1) lines ps s b.1 h.2,
)

-- the places of the transactions are those of the records
places_in : (run : CommitRun) (js : EngineName → List Entry) (ss : List Spoken) → map (place_of run) (all_transactions (map (share_in js) ss)) ≡ map (λ (r : Record). place (order_of run) r.mem r.store) (flat_map (λ (s : Spoken). map (λ (a : Account). a.kept) s.accounts) ss)
places_in run js [] = refl
places_in run js (s ∷ ss) =
    map-append (place_of run) (transactions_in s) (all_transactions (map (share_in js) ss))
    ∙ ap (λ (xs : List ℕ). xs ++ map (place_of run) (all_transactions (map (share_in js) ss))) (of_one s.accounts)
    ∙ ap (λ (xs : List ℕ). map (λ (r : Record). place (order_of run) r.mem r.store) (map (λ (a : Account). a.kept) s.accounts) ++ xs) (places_in run js ss)
    ∙ sym (map-append (λ (r : Record). place (order_of run) r.mem r.store) (map (λ (a : Account). a.kept) s.accounts) (flat_map (λ (s : Spoken). map (λ (a : Account). a.kept) s.accounts) ss))
  where
    of_one : (accounts : List Account) → map (place_of run) (map transaction_in accounts) ≡ map (λ (r : Record). place (order_of run) r.mem r.store) (map (λ (a : Account). a.kept) accounts)
    of_one [] = refl
    of_one (a ∷ rest) = ap (λ (xs : List ℕ). place (order_of run) a.kept.mem a.kept.store ∷ xs) (of_one rest)

-- what has its cause where the registry said it, and was said, is caused
said_caused : (h : Traces) (ring : Ring) (r : Record) (said : List Said) → Each (λ (s : Said). RegistrySaid h ring r s.reply → Caused h ring r s.reply) said → Each (λ (s : Said). RegistrySaid h ring r s.reply) said → Each (λ (s : Said). Caused h ring r s.reply) said
said_caused h ring r [] f k = tt
said_caused h ring r (s ∷ said) f k = (f.0 k.0, said_caused h ring r said f.1 k.1)

each_caused : (h : Traces) (ring : Ring) (rs : List Record) → Each (HasCauses h ring) rs → Each (λ (r : Record). Each (λ (s : Said). RegistrySaid h ring r s.reply) r.said) rs → Each (λ (r : Record). Each (λ (s : Said). Caused h ring r s.reply) r.said) rs
each_caused h ring [] f k = tt
each_caused h ring (r ∷ rs) f k = (said_caused h ring r r.said f.0 k.0, each_caused h ring rs f.1 k.1)

-- the same points and records were left by the same run
pub same_left : (p : Play) (ms ns : List Entry) (ps qs : List Point) (rs us : List Record) → ps ≡ qs → rs ≡ us → IsLeftBy p ms ns qs us → IsLeftBy p ms ns ps rs
same_left p ms ns ps qs rs us q r l = record { is_play = l.is_play; mem_is = l.mem_is; store_is = l.store_is; points_are = q ∙ l.points_are; records_are = r ∙ l.records_are }

module _ (mem : MemEngine → EngineTable → List Entry → Type 0) (store : StoreEngine → EngineTable → List Entry → Type 0) where
  -- between two lines of all its sessions
  pub paused : (b : Beginning) (lines : List RunLine) (fs : List Flush) (x : RunState) (k : HasKept mem store b lines fs x) → IsPaused x.catalog b.rows b.first k.points k.common k.players
  paused b lines fs x k = record {
    tables = k.tables;
    opening = k.opening.count;
    fit = k.opening.fit;
    sorted = k.opening.ordered;
    begun = k.begun;
    run = k.run;
    between = k.between;
    texts = are_short 1 lines k.players k.short k.between (subst (AreTold 1 lines) k.sessions_are k.told);
  }

  abbrev played : (b : Beginning) (lines : List RunLine) (fs : List Flush) (x : RunState) → HasKept mem store b lines fs x → Play
  played b lines fs x k = play_of x.catalog b.rows b.first k.points k.common k.players

  -- it is what was left, with its records
  left_by : (b : Beginning) (lines : List RunLine) (fs : List Flush) (x : RunState) (k : HasKept mem store b lines fs x) (finished : Finished) (records : List Record) → IsLeft finished k.common → records ≡ joined (map records_now x.sessions)
      → IsLeftBy (played b lines fs x k) finished.mem_journal finished.store_journal finished.points records
  left_by b lines fs x k finished records here are = record {
    is_play = (paused_is_one x.catalog b.rows b.first k.points k.common k.players (paused b lines fs x k)).0;
    mem_is = here.mem_entered;
    store_is = here.store_entered;
    points_are = here.pointed ∙ k.run.running.held.points_are;
    records_are = are ∙ ap (λ (ss : List Speaker). joined (map records_now ss)) k.sessions_are ∙ are_kept x.catalog k.players k.run.talks k.between;
  }

  -- some run of sessions left this
  pub was_left : (x : RunState) (finished : Finished) (records : List Record) → IsKept mem store x → ((c : Common) → Stands mem store x.shared c → IsLeft finished c) → records ≡ joined (map records_now x.sessions)
      → (p : Play) × IsLeftBy p finished.mem_journal finished.store_journal finished.points records
  was_left x finished records (b, lines, fs, k) left are = (played b lines fs x k, left_by b lines fs x k finished records (left k.common k.stood) are)

  -- the list of the run that left this
  abbrev pub IsOrderOf : Finished → List Record → List Commit → Type 0
  IsOrderOf finished records order = (p : Play) → IsLeftBy p finished.mem_journal finished.store_journal finished.points records → order ≡ order_of (run_of (traces_in p))

  -- its list rises
  pub in_turn : (x : RunState) (finished : Finished) (records : List Record) (order : List Commit) → IsKept mem store x → ((c : Common) → Stands mem store x.shared c → IsLeft finished c) → records ≡ joined (map records_now x.sessions)
      → IsOrderOf finished records order → InTurn (λ (c : Commit). c.mem) order × InTurn (λ (c : Commit). c.store) order
  in_turn x finished records order (b, lines, fs, k) left are is_order =
      let one : IsPlay (played b lines fs x k) × OneDatabase x.catalog b.rows (order_of (run_of (traces_in (played b lines fs x k)))) (map (place_of (run_of (traces_in (played b lines fs x k)))) (traces_in (played b lines fs x k)).transactions) (records_in (played b lines fs x k)) =
      paused_is_one x.catalog b.rows b.first k.points k.common k.players (paused b lines fs x k) in
      let is : order_of (run_of (traces_in (played b lines fs x k))) ≡ order = sym (is_order (played b lines fs x k) (left_by b lines fs x k finished records (left k.common k.stood) are)) in
      (subst (InTurn (λ (c : Commit). c.mem)) is one.1.by_mem, subst (InTurn (λ (c : Commit). c.store)) is one.1.by_store)

  -- so its list is that of its sessions, and what it hands out is of one database
  pub ended : (b : Beginning) (lines steps : List RunLine) (fs : List Flush) (x : RunState) (finished : Finished) (y : Ended) (parts : List (List Record)) → AreSteps steps → HasKept mem store b (lines ++ steps) fs x
      → ((c : Common) → Stands mem store x.shared c → IsLeft finished c) → IsOrderOf finished y.records y.order
      → parts ≡ map records_now x.sessions → y.records ≡ joined parts → y.places ≡ map (λ (r : Record). place y.order r.mem r.store) y.records
      → y.mem ≡ finished.mem_journal → y.store ≡ finished.store_journal → y.points ≡ finished.points → HasEnded x.catalog b lines fs y
  ended b lines steps fs x finished y parts are_steps k left is_order parts_are records places mem_is store_is points_are =
      let told : AreTold 1 (lines ++ steps) (map (λ (p : Player). p.session) k.players) = subst (AreTold 1 (lines ++ steps)) k.sessions_are k.told in
      let play : Play = played b (lines ++ steps) fs x k in
      let run : CommitRun = run_of (traces_in play) in
      let one : IsPlay play × OneDatabase x.catalog b.rows (order_of run) (map (place_of run) (traces_in play).transactions) (records_in play) =
      paused_is_one x.catalog b.rows b.first k.points k.common k.players (paused b (lines ++ steps) fs x k) in
      let by : IsLeftBy play finished.mem_journal finished.store_journal finished.points y.records = left_by b (lines ++ steps) fs x k finished y.records (left k.common k.stood) (records ∙ ap joined parts_are) in
      let handed : parts ≡ map records_now (map (λ (p : Player). p.session) k.players) = parts_are ∙ ap (map records_now) k.sessions_are in
      let order : y.order ≡ order_of run = is_order play by in
      let at : map (place_of run) (traces_in play).transactions ≡ y.places =
      places_in run play.journals play.sessions ∙ ap (λ (cs : List Commit). map (λ (r : Record). place cs r.mem r.store) (records_in play)) (sym order) ∙ ap (λ (rs : List Record). map (λ (r : Record). place y.order r.mem r.store) rs) (sym by.records_are) ∙ sym places in
      record {
        play = play;
        is_play = one.0;
        catalog_is = refl;
        rows_are = refl;
        mem_is = mem_is ∙ by.mem_is;
        store_is = store_is ∙ by.store_is;
        points_are = points_are ∙ by.points_are;
        records_are = by.records_are;
        order_is = order;
        one = subst (OneDatabase x.catalog b.rows y.order y.places) (sym by.records_are)
            (subst (λ ps. OneDatabase x.catalog b.rows y.order ps (records_in play)) at
            (subst (λ cs. OneDatabase x.catalog b.rows cs (map (place_of run) (traces_in play).transactions) (records_in play)) (sym order) one.1));
        ring = ring_of k.common.regs;
        caused = subst (Each (λ (r : Record). Each (λ (s : Said). Caused (traces_in play) (ring_of k.common.regs) r s.reply) r.said)) (sym by.records_are)
            (each_caused (traces_in play) (ring_of k.common.regs) (records_in play) ((sessions_are_one play one.0).caused (ring_of k.common.regs))
            (refusals_are_said x.catalog b.rows b.first k.points k.common k.players (paused b (lines ++ steps) fs x k) k.denied));
        numbered = subst (λ cs. AreByRecords cs y.records) (sym order) (subst (AreByRecords (order_of run)) (sym by.records_are) (numbered play one.0));
        steps = steps;
        are_steps = are_steps;
        parts = parts;
        are_parts = records;
        said = subst (AreSaid 1 (lines ++ steps)) (sym handed) (are_said 1 (lines ++ steps) k.players k.between told);
        shows = subst (ShowPrefixes x.catalog b fs) (sym order) (show_prefixes x.catalog b k.points k.common k.players (paused b (lines ++ steps) fs x k) fs k.flushed);
        cuts = subst (CutsAreAmong b fs) (sym (points_are ∙ by.points_are)) (cuts_among b k.points k.common.journals fs k.flushed);
      }
