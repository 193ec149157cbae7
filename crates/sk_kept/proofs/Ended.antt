-- What a run hands out between two lines of all its sessions.
use Rattle.std.specs.Prelude.{◌≡◌, ℕ, ◌+◌, List, [], ◌∷◌, ◌++◌, Bool, true, false, ◌==◌, length, map}
use Rattle.std.proofs.Common.{refl, sym, ap, subst, ◌∙◌}
use Rattle.std.specs.List.{flat_map}
use Rattle.sk_rows.specs.declared.table.Table.{Table}
use Rattle.sk_model.specs.declared.label.Label.{Label}
use Rattle.sk_model.specs.declared.engine.EngineName.{EngineName}
use Rattle.sk_model.specs.declared.point.Point.{Point}
use Rattle.sk_model.specs.declared.record.Record.{Record}
use Rattle.sk_model.specs.declared.call.Entry.{Entry}
use Rattle.sk_model.specs.Database.{Tables}
use Rattle.sk_model.specs.Records.{OneDatabase}
use Rattle.sk_model.specs.Talks.{Talk}
use Rattle.sk_model.proofs.Lists.{Each}
use Rattle.sk_linked.specs.Reads.{order_of}
use Rattle.sk_weave.specs.AheadLaws.{Counters}
use Rattle.sk_linked.specs.Traces.{Transaction, run_of}
use Rattle.sk_linked.specs.Headline.{place_of}
use Rattle.sk_linked.specs.Joining.{Share, Counted, Apart}
use Rattle.sk_linked.specs.Kept.{Account, Session, Play, transaction_in, transactions_in, share_in, shares_in, traces_in, records_in, IsPlay, IsOneRun}
use Rattle.sk_linked.proofs.Kept.{sessions_are_one}
use Rattle.sk_session.specs.declared.live.At.{At}
use Rattle.sk_session.specs.declared.live.At.TheVariants as at
use Rattle.sk_session.specs.declared.session.Session.{Session as Speaker}
use Rattle.sk_session.specs.EachTalk.{EachTalks, SessionTalks, IsBetween}
use Rattle.sk_session.specs.Starting.{records_now}
use Rattle.sk_session.specs.Moving.{records_at}
use Rattle.sk_session.specs.SoFar.{so_far}
use Rattle.sk_session.specs.Facts.{facts_of, facts_in}
use Rattle.sk_session.specs.Common.{Common}
use Rattle.sk_session.proofs.Recorded.{talks_now}
use Rattle.sk_kept.specs.Held.{Trace, Held}
use Rattle.sk_kept.specs.Freshness.{Found}
use Rattle.sk_kept.specs.Playing.{trace_of, traces_of_session, traces_of_play, IsAccounted, Plays}
use Rattle.sk_kept.specs.Running.{Member, traces_of, traces_in as member_traces, all_traces, Differ, IsMember}
use Rattle.sk_kept.specs.Sessions.{Player, member_of, IsRun}
use Rattle.sk_kept.specs.Ended.{accounts_of, session_of, play_of, AreShort, IsPaused, PausedIsOne}
use Rattle.sk_kept.proofs.Plays.{plays_are_played}
use Rattle.sk_kept.proofs.Founds.{found_fresh}

-- ---- one session

-- between two lines the records are as they would be handed out
now_is : (s : Speaker) (there : At) → s.at ≡ there → IsBetween there → facts_in s ≡ map facts_of (records_now s)
now_is s at.Outside e b = ap (λ x. map facts_of (so_far s.records x)) e ∙ ap (λ x. map facts_of (records_at s.records x)) (sym e)
now_is s (at.Inside live) e b = ap (λ x. map facts_of (so_far s.records x)) e ∙ ap (λ x. map facts_of (records_at s.records x)) (sym e)
now_is s (at.Stepping live c) e b = ap (λ x. map facts_of (so_far s.records x)) e ∙ ap (λ x. map facts_of (records_at s.records x)) (sym e)
now_is s at.Ended e b = ap (λ x. map facts_of (so_far s.records x)) e ∙ ap (λ x. map facts_of (records_at s.records x)) (sym e)
now_is s (at.Asking live doing) e b = absurd b

same_traces : (rs : List Record) (ts : List Talk) → traces_of (map facts_of rs) ts ≡ map trace_of (accounts_of rs ts)
same_traces [] ts = refl
same_traces (r ∷ rs) [] = refl
same_traces (r ∷ rs) (t ∷ ts) = ap (λ xs. record { facts = facts_of r; talk = t } ∷ xs) (same_traces rs ts)

counts : (catalog : List Table) (number k : ℕ) (rs : List Record) (ts : List Talk) → EachTalks catalog number k rs ts → Counted number k (map transaction_in (accounts_of rs ts))
counts catalog number k [] [] h = tt
counts catalog number k [] (t ∷ ts) h = absurd h
counts catalog number k (r ∷ rs) [] h = absurd h
counts catalog number k (r ∷ rs) (t ∷ ts) h = (h.0, counts catalog number (k + 1) rs ts h.2)

accounted : (p : Play) (number k : ℕ) (rs : List Record) (ts : List Talk) → EachTalks p.catalog number k rs ts → Each AreShort rs → Each (IsAccounted p) (accounts_of rs ts)
accounted p number k [] [] h s = tt
accounted p number k [] (t ∷ ts) h s = absurd h
accounted p number k (r ∷ rs) [] h s = absurd h
accounted p number k (r ∷ rs) (t ∷ ts) h s = (record { talks = h.1; texts = s.0 }, accounted p number (k + 1) rs ts h.2 s.1)

module _ (catalog : List Table) (rows : Tables) (first : Point) (points : List Point) (c : Common) (players : List Player) (h : IsPaused catalog rows first points c players) where
  abbrev pub p : Play
  p = play_of catalog rows first points c players

  each_talks : (x : Player) → SessionTalks catalog x.session x.talks → IsBetween x.session.at → EachTalks catalog x.session.number 1 (records_now x.session) x.talks
  each_talks x t b = talks_now x.session (records_now x.session) refl catalog x.talks t b

  traces_same : (x : Player) → IsBetween x.session.at → member_traces (member_of x) ≡ traces_of_session (session_of x)
  traces_same x b = ap (λ fs. traces_of fs x.talks) (now_is x.session x.session.at refl b) ∙ same_traces (records_now x.session) x.talks

  all_same : (xs : List Player) → Each (λ (x : Player). IsBetween x.session.at) xs → all_traces (map member_of xs) ≡ flat_map traces_of_session (map session_of xs)
  all_same [] b = refl
  all_same (x ∷ xs) b = ap (λ ts. ts ++ all_traces (map member_of xs)) (traces_same x b.0) ∙ ap (λ ts. traces_of_session (session_of x) ++ ts) (all_same xs b.1)

  labels : (xs : List Player) → Each (λ (x : Player). SessionTalks catalog x.session x.talks) xs → Each (λ (x : Player). IsBetween x.session.at) xs → Each (λ (s : Session). Counted s.number 1 (transactions_in s)) (map session_of xs)
  labels [] t b = tt
  labels (x ∷ xs) t b = (counts catalog x.session.number 1 (records_now x.session) x.talks (each_talks x t.0 b.0), labels xs t.1 b.1)

  accounts : (xs : List Player) → Each (λ (x : Player). SessionTalks catalog x.session x.talks) xs → Each (λ (x : Player). IsBetween x.session.at) xs → Each (λ (x : Player). Each AreShort (records_now x.session)) xs
      → Each (λ (s : Session). Each (IsAccounted p) s.accounts) (map session_of xs)
  accounts [] t b s = tt
  accounts (x ∷ xs) t b s = (accounted p x.session.number 1 (records_now x.session) x.talks (each_talks x t.0 b.0) s.0, accounts xs t.1 b.1 s.1)

  apart_from : (n : ℕ) (xs : List Player) → Each (λ m. (n == m) ≡ false) (map (λ (m : Member). m.number) (map member_of xs)) → Each (λ (r : Share). (n == r.session) ≡ false) (map (share_in c.journals) (map session_of xs))
  apart_from n [] d = tt
  apart_from n (x ∷ xs) d = (d.0, apart_from n xs d.1)

  apart : (xs : List Player) → Differ (map (λ (m : Member). m.number) (map member_of xs)) → Apart (map (share_in c.journals) (map session_of xs))
  apart [] d = tt
  apart (x ∷ xs) d = (apart_from x.session.number xs d.0, apart xs d.1)

  founds : (all : List Trace) (xs : List Player) → Each (λ (x : Player). IsBetween x.session.at) xs → Each (IsMember c all) (map member_of xs) → Each (λ (s : Session). (seen : Counters) × Found c all seen (traces_of_session s)) (map session_of xs)
  founds all [] b m = tt
  founds all (x ∷ xs) b m = ((m.0.seen, subst (Found c all m.0.seen) (traces_same x b.0) m.0.found), founds all xs b.1 m.1)

  -- the transactions by either way
  pub all_is : all_traces (map member_of players) ≡ traces_of_play p
  all_is = all_same players h.between

  pub plays : Plays p c
  plays = record {
    tables = h.tables;
    opening = h.opening;
    fit = h.fit;
    apart = apart players h.run.running.differ;
    labels = labels players h.run.talks h.between;
    accounts = accounts players h.run.talks h.between h.texts;
    first = h.begun;
    journals = λ name. refl;
    held = subst (Held first points c) all_is h.run.running.held;
  }

  pub one_run : IsPlay p × OneDatabase catalog rows (order_of (run_of (traces_in p))) (map (place_of (run_of (traces_in p))) (traces_in p).transactions) (records_in p)
  one_run =
      let play : IsPlay p = plays_are_played p c plays in
      (play, (sessions_are_one p play).one h.sorted (found_fresh p c plays (subst (λ all. Each (λ (s : Session). (seen : Counters) × Found c all seen (traces_of_session s)) (map session_of players)) all_is (founds (all_traces (map member_of players)) players h.between h.run.running.members))))

pub paused_is_one : PausedIsOne
paused_is_one catalog rows first points c players h = one_run catalog rows first points c players h
