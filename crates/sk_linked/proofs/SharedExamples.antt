-- A worked run of two sessions, by computation: one meets the other's write in conflict, while the other commits over both
-- engines, and then reads a row, changes it, and commits again. What each of them left is its own, and joined they are linked.
use Rattle.std.specs.Prelude.{◌≡◌, ℕ, zero, suc, List, [], ◌∷◌, Some, None, true, false, pos, take}
use Rattle.std.proofs.Common.{refl, sym, subst, ◌∙◌, inl, inr, ⊎_elim, arith}
use Rattle.std.proofs.lemmas.Bool.{false≢true}
use Rattle.sk_rows.specs.declared.value.Value.{Value}
use Rattle.sk_rows.specs.declared.value.Value.TheVariants as value
use Rattle.sk_rows.specs.declared.value.Sort.TheVariants as sort
use Rattle.sk_rows.specs.declared.table.Column.{Column}
use Rattle.sk_model.specs.declared.label.Label.{Label}
use Rattle.sk_model.specs.declared.engine.EngineName.{EngineName}
use Rattle.sk_model.specs.declared.engine.EngineName.TheVariants.{Mem, Store}
use Rattle.sk_model.specs.declared.record.TxKind.TheVariants as kind
use Rattle.sk_model.specs.declared.reply.Why.TheVariants as why
use Rattle.sk_model.specs.declared.commit.Write.{Write}
use Rattle.sk_model.specs.declared.point.Point.{Point}
use Rattle.sk_model.specs.declared.call.EngineCall.TheVariants as call
use Rattle.sk_model.specs.declared.call.EngineFault.TheVariants as fault
use Rattle.sk_model.specs.declared.call.EngineReply.{EngineReply}
use Rattle.sk_model.specs.declared.call.EngineReply.TheVariants.{Done, Found, Fault}
use Rattle.sk_model.specs.declared.call.Entry.{Entry}
use Rattle.sk_model.specs.Database.{RowOf}
use Rattle.sk_model.specs.Engine.{write_at}
use Rattle.sk_model.specs.Legal.{Legal}
use Rattle.sk_model.specs.Talks.{OwnCall, calls_in, wrote_in, tx_of, entries_by, same_engine}
use Rattle.sk_model.proofs.Lists.{Each}
use Rattle.sk_linked.specs.Reads.{snapshot_at, first_table}
use Rattle.sk_weave.specs.Points.{selection, commit_point}
use Rattle.sk_linked.specs.declared.event.Event.{Event}
use Rattle.sk_linked.specs.declared.event.Event.TheVariants as event
use Rattle.sk_linked.specs.State.{Core, core_at, traces_of}
use Rattle.sk_linked.specs.Machine.{step}
use Rattle.sk_linked.specs.Traces.{drawn_at, Transaction, Traces, run_of, stamp_entry, has_stamped, horizon_entry, IsAtHorizons, PointsMade, In, open_entry, close_entry, DrewUnlike, Whose, Known, Linked}
use Rattle.sk_linked.specs.Joining.{Unopened, CallsInTurn, fits, TablesFit, CallsFit, MayRecords, Share, Ends, Behaves, Own, session_entries, OfOne, Heard, Joined, AllOwn}
use Rattle.sk_linked.proofs.Joining.{linked_of_own}
use Rattle.sk_linked.proofs.Members.{in_append, some_clash, some_same}

abbrev columns : List Column
columns = record { name = 105 ∷ []; sort = sort.Int } ∷ record { name = 118 ∷ []; sort = sort.Int } ∷ []

-- a memory table a and a storage table c
abbrev first : Core
first = core_at (record { name = 97 ∷ []; store = false; columns = columns } ∷ record { name = 99 ∷ []; store = true; columns = columns } ∷ []) ([] ∷ [] ∷ []) (selection 0 0) 2 4

abbrev key : Value
key = value.Int (pos 1)

abbrev row : ℕ → RowOf
row v = key ∷ value.Int (pos v) ∷ []

abbrev put : ℕ → ℕ → Write
put t v = write_at t key (Some (row v))

abbrev one : Label
one = record { session = 1; k = 1 }

abbrev two : Label
two = record { session = 2; k = 1 }

abbrev again : Label
again = record { session = 2; k = 2 }

abbrev after : Core → List Event → Core
after k [] = k
after k (e ∷ es) = after (step k e).core es

-- what the machine makes of these events
abbrev played : Traces
played = traces_of (after first (event.Begin one kind.Mem ∷ event.Begin two kind.Cross ∷ event.Put two (put 0 10) ∷ event.Select two ∷ event.OpenStore two ∷ event.Put two (put 1 20)
    ∷ event.Close two Mem ∷ event.Close two Store ∷ event.Draw two Mem ∷ event.Draw two Store ∷ event.Check two ∷ event.Stamp two Mem ∷ event.Put one (put 0 8) ∷ event.Stamp two Store
    ∷ event.Begin again kind.Mem ∷ event.Read again 0 (Some key) ∷ event.Put again (put 0 11) ∷ event.Close again Mem ∷ event.Draw again Mem ∷ event.Stamp again Mem ∷ event.Cut ∷ []))

abbrev get_entry : Label → ℕ → Entry
get_entry l v = record { call = call.Get l 0 key; reply = Found (Some (row v)) }

abbrev put_entry : Label → ℕ → ℕ → EngineReply → Entry
put_entry l t v reply = record { call = call.Put l t key (Some (row v)); reply = reply }

abbrev drop_entry : Label → Entry
drop_entry l = record { call = call.DropTx l; reply = Done }

abbrev in_engine : EngineName → Entry → OwnCall
in_engine name j = record { engine = name; entry = j }

abbrev refused : EngineReply
refused = Fault (fault.Conflict two (why.Past 1 0))

-- the one that loses
abbrev loser : Transaction
loser = record {
  label = one;
  kind = kind.Mem;
  snapshots = record { mem = Some 0; store = None };
  drew = record { mem = None; store = None };
  committed = false;
  made = [];
  talk = in_engine Mem (open_entry one 0) ∷ in_engine Mem (put_entry one 0 8 refused) ∷ in_engine Mem (drop_entry one) ∷ [];
}

-- the writer over both engines
abbrev writer : Transaction
writer = record {
  label = two;
  kind = kind.Cross;
  snapshots = record { mem = Some 0; store = Some 0 };
  drew = record { mem = Some 1; store = Some 1 };
  committed = true;
  made = commit_point 1 1 ∷ [];
  talk = in_engine Mem (open_entry two 0) ∷ in_engine Mem (put_entry two 0 10 Done) ∷ in_engine Store (open_entry two 0) ∷ in_engine Store (put_entry two 1 20 Done)
      ∷ in_engine Mem (close_entry two 0) ∷ in_engine Store (close_entry two 0) ∷ in_engine Mem (stamp_entry two 1) ∷ in_engine Store (stamp_entry two 1) ∷ [];
}

-- and its next one, which reads what it changes
abbrev changer : Transaction
changer = record {
  label = again;
  kind = kind.Mem;
  snapshots = record { mem = Some 1; store = None };
  drew = record { mem = Some 2; store = None };
  committed = true;
  made = [];
  talk = in_engine Mem (open_entry again 1) ∷ in_engine Mem (get_entry again 10) ∷ in_engine Mem (put_entry again 0 11 Done) ∷ in_engine Mem (close_entry again 1) ∷ in_engine Mem (stamp_entry again 2) ∷ [];
}

abbrev journal : EngineName → List Entry
journal Mem = open_entry one 0 ∷ open_entry two 0 ∷ put_entry two 0 10 Done ∷ close_entry two 0 ∷ stamp_entry two 1 ∷ put_entry one 0 8 refused ∷ drop_entry one
    ∷ open_entry again 1 ∷ get_entry again 10 ∷ put_entry again 0 11 Done ∷ close_entry again 1 ∷ stamp_entry again 2 ∷ horizon_entry 2 ∷ []
journal Store = open_entry two 0 ∷ put_entry two 1 20 Done ∷ close_entry two 0 ∷ stamp_entry two 1 ∷ horizon_entry 1 ∷ []

abbrev traces : Traces
traces = record { catalog = first.catalog; rows = first.rows; first = selection 0 0; points = commit_point 1 1 ∷ selection 2 1 ∷ []; journals = journal; transactions = loser ∷ writer ∷ changer ∷ [] }

-- they are the machine's
its_transactions : played.transactions ≡ traces.transactions
its_transactions = refl

its_points : played.points ≡ traces.points
its_points = refl

its_journals : (name : EngineName) → played.journals name ≡ traces.journals name
its_journals Mem = refl
its_journals Store = refl

abbrev share_one : Share
share_one = record { session = 1; gained = λ name. session_entries 1 (journal name); transactions = loser ∷ [] }

abbrev share_two : Share
share_two = record { session = 2; gained = λ name. session_entries 2 (journal name); transactions = writer ∷ changer ∷ [] }

abbrev shares : List Share
shares = share_one ∷ share_two ∷ []

abbrev Fine : Transaction → Type 0
Fine t = Behaves traces.catalog traces.rows (traces.first ∷ traces.points) t

abbrev OwnOf : Share → Type 0
OwnOf s = Own traces.catalog traces.rows (traces.first ∷ traces.points) s

loser_fine : Fine loser
loser_fine = record {
  ordered = in_turn;
  fitting = fitting;
  own = ((λ r. refl), (tt, (tt, tt)));
  opened = opened;
  pair = tt;
  ends = λ name n e. drew name n e;
  silent = λ name c. absurd (false≢true c);
  alone = λ name other n d c. absurd (false≢true c);
  crossed = λ a b c. absurd (false≢true c);
}
  where
    in_turn : (name : EngineName) → CallsInTurn Unopened (calls_in name loser.talk)
    in_turn Mem = (refl, (refl, (refl, tt)))
    in_turn Store = tt

    fitting : (name : EngineName) → CallsFit name traces.catalog traces.rows (calls_in name loser.talk)
    fitting Mem = (refl, λ f. (refl, λ f. (refl, λ f. tt)))
    fitting Store = tt

    opened : (name : EngineName) (a : ℕ) → snapshot_at name loser.snapshots ≡ Some a → In (open_entry one a) (calls_in name loser.talk)
    opened Mem a e = subst (λ n. In (open_entry one n) (calls_in Mem loser.talk)) (some_same e) (inl refl)
    opened Store a e = some_clash (sym e)

    drew : {A : Type 0} (name : EngineName) (n : ℕ) → drawn_at name loser.drew ≡ Some n → A
    drew Mem n e = some_clash (sym e)
    drew Store n e = some_clash (sym e)

writer_fine : Fine writer
writer_fine = record {
  ordered = in_turn;
  fitting = fitting;
  own = ((λ r. refl), (tt, ((λ r. refl), (tt, (tt, (tt, ((refl, refl), ((refl, refl), tt))))))));
  opened = opened;
  pair = inl (refl, refl);
  ends = ends;
  silent = λ name c e. drew name e;
  alone = λ name other n d c e f. drew other f;
  crossed = λ a b c e f. inr (inl (refl, some_same e, some_same f));
}
  where
    in_turn : (name : EngineName) → CallsInTurn Unopened (calls_in name writer.talk)
    in_turn Mem = (refl, (refl, (refl, (refl, tt))))
    in_turn Store = (refl, (refl, (refl, (refl, tt))))

    fitting : (name : EngineName) → CallsFit name traces.catalog traces.rows (calls_in name writer.talk)
    fitting Mem = (refl, λ f. (refl, λ f. (refl, λ f. (refl, λ f. tt))))
    fitting Store = (refl, λ f. (refl, λ f. (refl, λ f. (refl, λ f. tt))))

    opened : (name : EngineName) (a : ℕ) → snapshot_at name writer.snapshots ≡ Some a → In (open_entry two a) (calls_in name writer.talk)
    opened Mem a e = subst (λ n. In (open_entry two n) (calls_in Mem writer.talk)) (some_same e) (inl refl)
    opened Store a e = subst (λ n. In (open_entry two n) (calls_in Store writer.talk)) (some_same e) (inl refl)

    ends : (name : EngineName) (n : ℕ) → drawn_at name writer.drew ≡ Some n → Ends writer name n
    ends Mem n e = subst (Ends writer Mem) (some_same e) (record { before = open_entry two 0 ∷ put_entry two 0 10 Done ∷ []; floor = 0; tail = stamp_entry two 1 ∷ []; is = refl; past = omega arith; wrote = refl; stamps = λ c. inr refl })
    ends Store n e = subst (Ends writer Store) (some_same e) (record { before = open_entry two 0 ∷ put_entry two 1 20 Done ∷ []; floor = 0; tail = stamp_entry two 1 ∷ []; is = refl; past = omega arith; wrote = refl; stamps = λ c. inr refl })

    drew : {A : Type 0} (name : EngineName) → drawn_at name writer.drew ≡ None → A
    drew Mem e = some_clash e
    drew Store e = some_clash e

changer_fine : Fine changer
changer_fine = record {
  ordered = in_turn;
  fitting = fitting;
  own = ((λ r. refl), (tt, (tt, (tt, ((refl, refl), tt)))));
  opened = opened;
  pair = tt;
  ends = ends;
  silent = silent;
  alone = alone;
  crossed = λ a b c e f. some_clash (sym f);
}
  where
    in_turn : (name : EngineName) → CallsInTurn Unopened (calls_in name changer.talk)
    in_turn Mem = (refl, (refl, (refl, (refl, (refl, tt)))))
    in_turn Store = tt

    fitting : (name : EngineName) → CallsFit name traces.catalog traces.rows (calls_in name changer.talk)
    fitting Mem = (refl, λ f. (refl, λ f. (refl, λ f. (refl, λ f. (refl, λ f. tt)))))
    fitting Store = tt

    opened : (name : EngineName) (a : ℕ) → snapshot_at name changer.snapshots ≡ Some a → In (open_entry again a) (calls_in name changer.talk)
    opened Mem a e = subst (λ n. In (open_entry again n) (calls_in Mem changer.talk)) (some_same e) (inl refl)
    opened Store a e = some_clash (sym e)

    ends : (name : EngineName) (n : ℕ) → drawn_at name changer.drew ≡ Some n → Ends changer name n
    ends Mem n e = subst (Ends changer Mem) (some_same e) (record { before = open_entry again 1 ∷ get_entry again 10 ∷ put_entry again 0 11 Done ∷ []; floor = 1; tail = stamp_entry again 2 ∷ []; is = refl; past = omega arith; wrote = refl; stamps = λ c. inr refl })
    ends Store n e = some_clash (sym e)

    silent : (name : EngineName) → true ≡ true → drawn_at name changer.drew ≡ None → wrote_in (calls_in name changer.talk) ≡ []
    silent Mem c e = some_clash e
    silent Store c e = refl

    alone : (name other : EngineName) (n : ℕ) → same_engine name other ≡ false → true ≡ true → drawn_at name changer.drew ≡ Some n → drawn_at other changer.drew ≡ None → has_stamped name changer ≡ true
    alone Mem other n d c e f = refl
    alone Store other n d c e f = some_clash (sym e)

own_one : OwnOf share_one
own_one = record { labels = (refl, tt); entries = entries; known = known; each = (loser_fine, tt) }
  where
    by : Whose (loser ∷ []) one
    by = record { who = loser; among = inl refl; is = refl }

    entries : (name : EngineName) → Each (λ (t : Transaction). entries_by t.label (share_one.gained name) ≡ calls_in name t.talk) (loser ∷ [])
    entries Mem = (refl, tt)
    entries Store = (refl, tt)

    known : (name : EngineName) → Each (λ (j : Entry). Known (loser ∷ []) (tx_of j.call)) (share_one.gained name)
    known Mem = (by, (by, (by, tt)))
    known Store = tt

own_two : OwnOf share_two
own_two = record { labels = (refl, (refl, tt)); entries = entries; known = known; each = (writer_fine, (changer_fine, tt)) }
  where
    by : Whose (writer ∷ changer ∷ []) two
    by = record { who = writer; among = inl refl; is = refl }

    and : Whose (writer ∷ changer ∷ []) again
    and = record { who = changer; among = inr (inl refl); is = refl }

    entries : (name : EngineName) → Each (λ (t : Transaction). entries_by t.label (share_two.gained name) ≡ calls_in name t.talk) (writer ∷ changer ∷ [])
    entries Mem = (refl, (refl, tt))
    entries Store = (refl, (refl, tt))

    known : (name : EngineName) → Each (λ (j : Entry). Known (writer ∷ changer ∷ []) (tx_of j.call)) (share_two.gained name)
    known Mem = (by, (by, (by, (by, (and, (and, (and, (and, (and, tt)))))))))
    known Store = (by, (by, (by, (by, tt))))

own : AllOwn traces shares
own = (own_one, (own_two, tt))

joined : Joined traces shares
joined = record {
  transactions = refl;
  apart = ((refl, tt), (tt, tt));
  opening = opening;
  legal = legal;
  whose = λ name. (refl, (refl, tt));
  heard = heard;
  unowned = unowned;
  stairs = (
    refl,
    (
      record { moves = omega arith; a_stays = omega arith; b_stays = omega arith; a_rises = λ c. omega arith; b_rises = λ c. omega arith },
      (record { moves = omega arith; a_stays = omega arith; b_stays = omega arith; a_rises = λ c. absurd (false≢true c); b_rises = λ c. absurd (false≢true c) }, tt),
    ),
  );
  made = made;
  commits = ((λ c. record { who = writer; among = inr (inl refl); committed = refl; mem = refl; store = refl }), ((λ c. absurd (false≢true c)), tt));
  unlike = unlike;
}
  where
    opening : TablesFit traces.catalog traces.rows
    opening zero = tt
    opening (suc zero) = tt
    opening (suc (suc t)) = tt

    legal : (name : EngineName) → Legal (first_table (run_of traces) name) (journal name)
    legal Mem = (inr refl, (inr refl, (inr refl, (inr refl, (inr refl, (inr refl, (inr refl, (inr refl, (inr refl, (inr refl, (inr refl, (inr refl, (inr refl, tt)))))))))))))
    legal Store = (inr refl, (inr refl, (inr refl, (inr refl, (inr refl, tt)))))

    at_horizons : IsAtHorizons journal (selection 2 1)
    at_horizons = record { selects = refl; mem = in_append (horizon_entry 2) (take 12 (journal Mem)) (horizon_entry 2 ∷ []) (inl refl); store = in_append (horizon_entry 1) (take 4 (journal Store)) (horizon_entry 1 ∷ []) (inl refl) }

    its_maker : (t : Transaction) → In t traces.transactions → (q : Point) → In q t.made → t ≡ writer
    its_maker t i q k = ⊎_elim
        (λ (e : t ≡ loser). absurd (subst (λ (x : Transaction). In q x.made) e k))
        (λ (m : In t (writer ∷ changer ∷ [])). ⊎_elim (λ (e : t ≡ writer). e) (λ (n : In t (changer ∷ [])). ⊎_elim (λ (e : t ≡ changer). absurd (subst (λ (x : Transaction). In q x.made) e k)) (λ (z : ⊥). absurd z) n) m)
        i

    made : PointsMade traces
    made = record {
      source = (inl (record { who = writer; among = inr (inl refl); made = inl refl }), (inr at_horizons, tt));
      among = (tt, ((inl refl, tt), (tt, tt)));
      once = λ q t u i j a b. its_maker t i q a ∙ sym (its_maker u j q b);
    }

    by_one : OfOne shares one
    by_one = record { who = share_one; among = inl refl; is = refl }

    by_two : (k : ℕ) → OfOne shares (record { session = 2; k = k })
    by_two k = record { who = share_two; among = inr (inl refl); is = refl }

    heard : (name : EngineName) → Each (λ (j : Entry). Heard shares (tx_of j.call)) (journal name)
    heard Mem = (by_one, (by_two 1, (by_two 1, (by_two 1, (by_two 1, (by_one, (by_one, (by_two 2, (by_two 2, (by_two 2, (by_two 2, (by_two 2, (tt, tt)))))))))))))
    heard Store = (by_two 1, (by_two 1, (by_two 1, (by_two 1, (tt, tt)))))

    unowned : (name : EngineName) → MayRecords (first_table (run_of traces) name) (journal name)
    unowned Mem = (tt, (tt, (tt, (tt, (tt, (tt, (tt, (tt, (tt, (tt, (tt, (tt, (tt, tt)))))))))))))
    unowned Store = (tt, (tt, (tt, (tt, (tt, tt)))))

    differ : {A : Type 0} (name : EngineName) (n : ℕ) → drawn_at name writer.drew ≡ Some n → drawn_at name changer.drew ≡ Some n → A
    differ Mem n e f = absurd (unequal (some_same e ∙ sym (some_same f)))
      where
        unequal : ◌≡◌ {A = ℕ} 1 2 → ⊥
        unequal e = omega arith
    differ Store n e f = some_clash (sym f)

    none : {A : Type 0} (name : EngineName) (n : ℕ) → drawn_at name loser.drew ≡ Some n → A
    none Mem n e = some_clash (sym e)
    none Store n e = some_clash (sym e)

    unlike : (name : EngineName) → DrewUnlike name traces.transactions
    unlike name = (((λ n e f. none name n e), ((λ n e f. none name n e), tt)), (((λ n e f. differ name n e f), tt), (tt, tt)))

-- so they are linked
linked : Linked traces
linked = linked_of_own traces shares own joined

-- a put behind the close is not in its turn
late : CallsInTurn Unopened (open_entry one 0 ∷ close_entry one 0 ∷ put_entry one 0 10 Done ∷ []) → ⊥
late h = false≢true h.1.1.0

-- nor is a stamp with a number that is not past the floor
low : CallsInTurn Unopened (open_entry one 3 ∷ close_entry one 3 ∷ stamp_entry one 3 ∷ []) → ⊥
low h = false≢true h.1.1.0

-- nor a second end
twice : CallsInTurn Unopened (open_entry one 0 ∷ drop_entry one ∷ drop_entry one ∷ []) → ⊥
twice h = false≢true h.1.1.0

-- a row of the other engine's table does not fit
elsewhere : fits Mem traces.catalog traces.rows (call.Put one 1 key (Some (row 1))) ≡ false
elsewhere = refl

-- nor may a row without its key be put
unkeyed : fits Mem traces.catalog traces.rows (call.Put one 0 key (Some (value.Int (pos 2) ∷ value.Int (pos 1) ∷ []))) ≡ false
unkeyed = refl

-- a number that another drew is not the transaction's
same_number : DrewUnlike Mem (writer ∷ record changer { drew = record { mem = Some 1; store = None } } ∷ []) → ⊥
same_number u = u.0.0 1 refl refl
