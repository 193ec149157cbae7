-- What the records of a run say that the registry refused, it refused in a state of that run.
use Rattle.std.specs.Prelude.{◌≡◌, ℕ, ◌+◌, ◌<◌, ◌≤◌, List, [], ◌∷◌, ◌++◌, length, map}
use Rattle.std.proofs.Common.{refl, sym, ap, subst, ◌∙◌, arith}
use Rattle.std.specs.List.{flat_map}
use Rattle.sk_rows.specs.declared.table.Table.{Table}
use Rattle.sk_model.specs.declared.engine.EngineName.{EngineName}
use Rattle.sk_model.specs.declared.engine.EngineName.TheVariants.{Mem, Store}
use Rattle.sk_model.specs.declared.point.Point.{Point}
use Rattle.sk_model.specs.declared.record.Record.{Record}
use Rattle.sk_model.specs.declared.record.Said.{Said}
use Rattle.sk_model.specs.declared.reply.Reply.{Reply}
use Rattle.sk_model.specs.declared.reply.Reply.TheVariants as reply
use Rattle.sk_model.specs.Database.{Tables}
use Rattle.sk_model.specs.Talks.{Talk}
use Rattle.sk_model.proofs.Lists.{Each, each_append, each_weaker}
use Rattle.sk_weave.specs.Points.{Climbs, Staircase, last_from}
use Rattle.sk_weave.specs.Registry.{Regs, last_of, IsSound, Grows as RegsGrow}
use Rattle.sk_linked.specs.Reads.{number_at}
use Rattle.sk_linked.specs.State.{counter}
use Rattle.sk_linked.specs.Kept.{Account, Session, Play, traces_in, records_in}
use Rattle.sk_linked.specs.Causes.{Ring, Drawer as AnyDrawer, IsStateOf, RegistrySaid}
use Rattle.sk_session.specs.EachTalk.{SessionTalks}
use Rattle.sk_session.specs.Starting.{records_now}
use Rattle.sk_session.specs.Common.{Common}
use Rattle.sk_session.specs.Denied.{Denied, RecordDenied, SessionDenied}
use Rattle.sk_session.proofs.Denying.{records_are_denied}
use Rattle.sk_kept.specs.Held.{Drawer, Held}
use Rattle.sk_kept.specs.Playing.{traces_of_play, Plays}
use Rattle.sk_kept.specs.Sessions.{Player}
use Rattle.sk_kept.specs.Ended.{accounts_of, session_of, play_of, IsPaused}
use Rattle.sk_kept.proofs.Plays.{drawer_of}
use Rattle.sk_kept.proofs.Ended.{plays}
use Rattle.sk_recorded.specs.Growing.{HeardBy}
use Rattle.sk_recorded.specs.Refused.{ring_of, RefusalsAreSaid}

-- ---- the first point of a registry

-- both numbers rise along a staircase
climbs_up : (p : Point) (qs : List Point) → Climbs p qs → (p.a ≤ (last_from p qs).a) × (p.b ≤ (last_from p qs).b)
climbs_up p [] h = (omega arith, omega arith)
climbs_up p (q ∷ qs) h = let up = climbs_up q qs h.1 in (omega (arith, h.0.a_stays, up.0), omega (arith, h.0.b_stays, up.1))

stairs_up : (p : Point) (qs : List Point) → Staircase (p ∷ qs) → (name : EngineName) → number_at name p ≤ number_at name (last_of (p ∷ qs))
stairs_up p qs h Mem = (climbs_up p qs h.1).0
stairs_up p qs h Store = (climbs_up p qs h.1).1

last_drawn : (r : Regs) → IsSound r → (name : EngineName) → number_at name (last_of r.points) ≤ counter name r
last_drawn r s Mem = s.a_drawn
last_drawn r s Store = s.b_drawn

-- a registry whose points begin with this one has drawn its numbers
first_drawn : (r : Regs) (first : Point) (points more : List Point) → IsSound r → first ∷ points ≡ r.points ++ more → (name : EngineName) → number_at name first ≤ counter name r
first_drawn r first points more s is name = go r.points refl
  where
    same_first : (p : Point) (qs : List Point) → first ∷ points ≡ p ∷ qs → first ≡ p
    same_first p qs e = cc

    at_most : (x y z : ℕ) → x ≤ y → y ≤ z → x ≤ z
    at_most x y z a b = omega (arith, a, b)

    go : (ps : List Point) → r.points ≡ ps → number_at name first ≤ counter name r
    go [] e = absurd (let l = s.live in let none : length r.points ≡ 0 = ap length e in omega (arith, l, none))
    go (p ∷ qs) e =
        let same : first ≡ p = same_first p (qs ++ more) (is ∙ ap (λ xs. xs ++ more) e) in
        let up : number_at name p ≤ number_at name (last_of (p ∷ qs)) = stairs_up p qs (subst Staircase e s.stairs) name in
        subst (λ (x : Point). number_at name x ≤ counter name r) (sym same)
        (at_most (number_at name p) (number_at name (last_of (p ∷ qs))) (counter name r) up (subst (λ xs. number_at name (last_of xs) ≤ counter name r) e (last_drawn r s name)))

-- ---- a state that the run came through

later_counter : (was now : Regs) → RegsGrow was now → (name : EngineName) → counter name was ≤ counter name now
later_counter was now g Mem = g.mem
later_counter was now g Store = g.store

module _ (p : Play) (c : Common) (h : Plays p c) where
  state_of : (was : Regs) → IsSound was → RegsGrow was c.regs → IsStateOf (traces_in p) (ring_of c.regs) was
  state_of was sound g = record {
    sound = sound;
    partitions = sym g.partitions;
    size = sym g.size;
    more = g.more;
    points = from_first;
    drawn = λ name n past upto. drawer_of p c h name n (h.held.drawn name n past (at_most n (counter name was) (counter name c.regs) upto (later_counter was c.regs g name)));
    counters = first_drawn was p.first p.points g.more sound from_first;
  }
    where
      at_most : (x y z : ℕ) → x ≤ y → y ≤ z → x ≤ z
      at_most x y z a b = omega (arith, a, b)

      from_first : p.first ∷ p.points ≡ was.points ++ g.more
      from_first = sym h.held.points_are ∙ g.points

  said_by : (r : Record) (said : Reply) → Denied (HeardBy c) r said → RegistrySaid (traces_in p) (ring_of c.regs) r said
  said_by r (reply.CheckFailed q ca cb) d = (d.0.was, state_of d.0.was d.0.sound d.0.grown, d.0.answered.0, d.1, d.2, d.3)
  said_by r (reply.Recycled e) d = (d.was, state_of d.was d.sound d.grown, d.was.store, d.answered.0)
  said_by r (reply.Spent Mem) d = (d.1.was, state_of d.1.was d.1.sound d.1.grown, d.0, d.1.answered.0)
  said_by r (reply.Spent Store) d = (d.1.was, state_of d.1.was d.1.sound d.1.grown, d.0, d.1.answered.0)
  said_by r (reply.Conflict by why) d = tt
  said_by r (reply.Busy by) d = tt
  said_by r (reply.Old engine s n) d = tt
  said_by r (reply.Began label) d = tt
  said_by r (reply.Count n) d = tt
  said_by r (reply.Rows rows) d = tt
  said_by r reply.Committed d = tt
  said_by r reply.RolledBack d = tt
  said_by r (reply.Step s n) d = tt
  said_by r (reply.Refused word) d = tt

  abbrev pub RecordSaid : Record → Type 0
  RecordSaid r = Each (λ (s : Said). RegistrySaid (traces_in p) (ring_of c.regs) r s.reply) r.said

  pub record_said : (r : Record) → RecordDenied (HeardBy c) r → RecordSaid r
  record_said r d = each_weaker (λ (s : Said). Denied (HeardBy c) r s.reply) (λ (s : Said). RegistrySaid (traces_in p) (ring_of c.regs) r s.reply) (λ s k. said_by r s.reply k) r.said d

-- ---- all records

-- what holds of records holds of those of the accounts
each_kept : (P : Record → Type 0) (rs : List Record) (ts : List Talk) → Each P rs → Each P (map (λ (a : Account). a.kept) (accounts_of rs ts))
each_kept P [] ts h = tt
each_kept P (r ∷ rs) [] h = tt
each_kept P (r ∷ rs) (t ∷ ts) h = (h.0, each_kept P rs ts h.1)

module _ (catalog : List Table) (rows : Tables) (first : Point) (points : List Point) (c : Common) (players : List Player) (h : IsPaused catalog rows first points c players) where
  abbrev p : Play
  p = play_of catalog rows first points c players

  of_player : (x : Player) → SessionTalks catalog x.session x.talks → SessionDenied (HeardBy c) x.session → Each (RecordSaid p c (plays catalog rows first points c players h)) (map (λ (a : Account). a.kept) (session_of x).accounts)
  of_player x t d =
      each_kept (RecordSaid p c (plays catalog rows first points c players h)) (records_now x.session) x.talks
      (each_weaker (RecordDenied (HeardBy c)) (RecordSaid p c (plays catalog rows first points c players h)) (record_said p c (plays catalog rows first points c players h)) (records_now x.session) (records_are_denied (HeardBy c) catalog x.session x.talks t d))

  of_players : (xs : List Player) → Each (λ (x : Player). SessionTalks catalog x.session x.talks) xs → Each (λ (x : Player). SessionDenied (HeardBy c) x.session) xs
      → Each (RecordSaid p c (plays catalog rows first points c players h)) (flat_map (λ (s : Session). map (λ (a : Account). a.kept) s.accounts) (map session_of xs))
  of_players [] t d = tt
  of_players (x ∷ xs) t d =
      each_append (RecordSaid p c (plays catalog rows first points c players h)) (map (λ (a : Account). a.kept) (session_of x).accounts) (flat_map (λ (s : Session). map (λ (a : Account). a.kept) s.accounts) (map session_of xs))
      (of_player x t.0 d.0) (of_players xs t.1 d.1)

pub refusals_are_said : RefusalsAreSaid
refusals_are_said catalog rows first points c players h d = of_players catalog rows first points c players h players h.run.talks d
