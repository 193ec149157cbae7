-- A worked run of two sessions, by computation: 2.1 begins, 1.1 inserts a row and commits, and 2.1 then meets it in a conflict. What
-- is kept of it is a run of sessions, so it is of one database, and the conflict has its cause.
use Rattle.std.specs.Prelude.{◌≡◌, ℕ, zero, suc, List, [], ◌∷◌, Some, None, false, pos, codes}
use Rattle.std.proofs.Common.{refl, sym, subst, inl, inr, ⊎_elim, arith}
use Rattle.std.specs.List.{AllByRecursion}
use Rattle.std.proofs.lemmas.Bool.{false≢true}
use Rattle.sk_rows.specs.declared.value.Value.{Value}
use Rattle.sk_rows.specs.declared.value.Value.TheVariants as value
use Rattle.sk_rows.specs.declared.value.Sort.TheVariants as sort
use Rattle.sk_rows.specs.declared.statement.Begun.TheVariants as begun
use Rattle.sk_rows.specs.declared.statement.Statement.TheVariants as statement
use Rattle.sk_rows.specs.declared.table.Table.{Table}
use Rattle.sk_rows.specs.Names.{is_keyword, has_name_length, begins_with_digit, are_name_bytes, is_name}
use Rattle.sk_rows.specs.Catalog.{has_bool_key, are_columns, has_table, is_table, IsCatalog}
use Rattle.sk_model.specs.declared.label.Label.{Label}
use Rattle.sk_model.specs.declared.engine.EngineName.{EngineName}
use Rattle.sk_model.specs.declared.engine.EngineName.TheVariants.{Mem, Store}
use Rattle.sk_model.specs.declared.step.StepName.TheVariants.{CloseMem, DrawMem, StampMem}
use Rattle.sk_model.specs.declared.record.Record.{Record}
use Rattle.sk_model.specs.declared.record.Ending.TheVariants as ending
use Rattle.sk_model.specs.declared.record.TxKind.TheVariants as kind
use Rattle.sk_model.specs.declared.reply.Reply.TheVariants as reply
use Rattle.sk_model.specs.declared.reply.Why.TheVariants as why
use Rattle.sk_model.specs.declared.point.Point.{Point}
use Rattle.sk_model.specs.declared.call.EngineCall.TheVariants as call
use Rattle.sk_model.specs.declared.call.EngineFault.TheVariants as fault
use Rattle.sk_model.specs.declared.call.EngineReply.TheVariants.{Done, Found, Number, Fault}
use Rattle.sk_model.specs.declared.call.Entry.{Entry}
use Rattle.sk_model.specs.Database.{RowOf}
use Rattle.sk_model.specs.Legal.{Legal}
use Rattle.sk_model.specs.Replies.{insert_refusal}
use Rattle.sk_model.specs.Talks.{Talk, calls_in, tx_of, entries_by}
use Rattle.sk_model.specs.RecordTalks.{Talks}
use Rattle.sk_weave.specs.Points.{selection}
use Rattle.sk_linked.specs.Reads.{first_table}
use Rattle.sk_linked.specs.Traces.{Transaction, run_of, In, DrewUnlike, Whose, Known}
use Rattle.sk_linked.specs.Joining.{TablesFit, MayRecords}
use Rattle.sk_linked.proofs.Members.{some_clash}
use Rattle.sk_linked.specs.Causes.{Ring, Caused}
use Rattle.sk_linked.specs.Kept.{Account, Play, transaction_in, traces_in, IsPlay, IsOneRun}
use Rattle.sk_linked.proofs.Kept.{sessions_are_one}

-- table 0 is `a` of two numbers, in the memory engine
abbrev catalog : List Table
catalog = record { name = codes "a"; store = false; columns = record { name = codes "id"; sort = sort.Int } ∷ record { name = codes "v"; sort = sort.Int } ∷ [] } ∷ []

abbrev key : Value
key = value.Int (pos 1)

abbrev row : ℕ → RowOf
row v = key ∷ value.Int (pos v) ∷ []

abbrev one : Label
one = record { session = 1; k = 1 }

abbrev two : Label
two = record { session = 2; k = 1 }

abbrev opens : Label → Entry
opens l = record { call = call.Open l 0; reply = Done }

abbrev finds : Label → Entry
finds l = record { call = call.Get l 0 key; reply = Found None }

abbrev puts : Label → ℕ → Entry
puts l v = record { call = call.Put l 0 key (Some (row v)); reply = Done }

abbrev meets : Label → ℕ → Entry
meets l v = record { call = call.Put l 0 key (Some (row v)); reply = Fault (fault.Conflict one (why.Past 1 0)) }

abbrev closes : Label → Entry
closes l = record { call = call.Close l; reply = Number 0 }

abbrev stamps : Label → Entry
stamps l = record { call = call.Stamp l 1; reply = Done }

abbrev drops : Label → Entry
drops l = record { call = call.DropTx l; reply = Done }

abbrev in_mem : List Entry → Talk
in_mem [] = []
in_mem (j ∷ js) = record { engine = Mem; entry = j } ∷ in_mem js

abbrev journal : EngineName → List Entry
journal Mem = opens two ∷ opens one ∷ finds one ∷ puts one 10 ∷ closes one ∷ stamps one ∷ finds two ∷ meets two 8 ∷ drops two ∷ []
journal Store = []

-- `INSERT INTO a VALUES (1, 10)` outside BEGIN
abbrev winner : Record
winner = record {
  label = one;
  kind = kind.Mem;
  mem = Some 0;
  store = None;
  said = record { statement = statement.Insert (codes "a") (row 10); reply = reply.Count 1 } ∷ [];
  ending = ending.Committed;
  drew_mem = Some 1;
  drew_store = None;
  made = [];
}

-- `BEGIN MEMORY`, and `INSERT INTO a VALUES (1, 8)` behind it
abbrev loser : Record
loser = record {
  label = two;
  kind = kind.Mem;
  mem = Some 0;
  store = None;
  said = record { statement = statement.Begin begun.Mem; reply = reply.Began two } ∷ record { statement = statement.Insert (codes "a") (row 8); reply = reply.Conflict one (why.Past 1 0) } ∷ [];
  ending = ending.Conflict;
  drew_mem = None;
  drew_store = None;
  made = [];
}

abbrev winning : Account
winning = record { kept = winner; talk = in_mem (opens one ∷ finds one ∷ puts one 10 ∷ closes one ∷ stamps one ∷ []) }

abbrev losing : Account
losing = record { kept = loser; talk = in_mem (opens two ∷ finds two ∷ meets two 8 ∷ drops two ∷ []) }

abbrev played : Play
played = record {
  catalog = catalog;
  rows = [] ∷ [];
  first = selection 0 0;
  points = [];
  journals = journal;
  sessions = record { number = 1; accounts = winning ∷ [] } ∷ record { number = 2; accounts = losing ∷ [] } ∷ [];
}

winner_talks : Talks catalog winner winning.talk
unfolding insert_refusal
winner_talks = record {
  heard = winner.said;
  spoken = in_mem (opens one ∷ finds one ∷ puts one 10 ∷ []);
  taken = CloseMem ∷ DrawMem ∷ StampMem ∷ [];
  rest = [];
  numbered = record { floor_mem = 0; floor_store = 0; mem = Some 1; store = None };
  talk_is = refl;
  said = inl refl;
  asked = (
    in_mem (opens one ∷ finds one ∷ puts one 10 ∷ []),
    [],
    refl,
    inr ((0, record { engine = refl; call = refl }), (record { engine = refl; call = refl }, inr (record { engine = refl; call = refl }, (refl, inl refl)))),
    (λ e. refl),
    refl,
  );
  mem = refl;
  store = refl;
  steps = refl;
  drew_mem = refl;
  drew_store = refl;
  mem_drawn = refl;
  store_drawn = refl;
  past_mem = omega arith;
  past_store = tt;
  selected = [];
  selection = tt;
  made = refl;
  ends = inl refl;
  replies = (tt, tt);
  lost = ((λ e. absurd (false≢true e)), tt);
}

loser_talks : Talks catalog loser losing.talk
unfolding insert_refusal
loser_talks = record {
  heard = loser.said;
  spoken = in_mem (opens two ∷ finds two ∷ meets two 8 ∷ []);
  taken = [];
  rest = [];
  numbered = record { floor_mem = 0; floor_store = 0; mem = None; store = None };
  talk_is = refl;
  said = inl refl;
  asked = (
    in_mem (opens two ∷ []),
    in_mem (finds two ∷ meets two 8 ∷ []),
    refl,
    (refl, refl, inr ((0, record { engine = refl; call = refl }), (refl, inl refl))),
    (λ e. absurd (false≢true e)),
    (
      in_mem (finds two ∷ meets two 8 ∷ []),
      [],
      refl,
      inr (record { engine = refl; call = refl }, inr (record { engine = refl; call = refl }, (refl, (refl, inl refl)))),
      (λ e. refl),
      refl,
    ),
  );
  mem = refl;
  store = refl;
  steps = refl;
  drew_mem = refl;
  drew_store = refl;
  mem_drawn = refl;
  store_drawn = refl;
  past_mem = tt;
  past_store = tt;
  selected = [];
  selection = tt;
  made = refl;
  ends = refl;
  replies = (tt, (tt, tt));
  lost = ((λ e. absurd (false≢true e)), ((λ e. refl), tt));
}

good_catalog : IsCatalog catalog
unfolding is_keyword has_name_length begins_with_digit are_name_bytes is_name has_bool_key are_columns has_table is_table
good_catalog = record { few = omega arith; good = refl; unlike = refl }

is_play : IsPlay played
is_play = record {
  tables = good_catalog;
  opening = refl;
  fit = fit;
  apart = ((refl, tt), (tt, tt));
  labels = ((refl, tt), ((refl, tt), tt));
  accounts = (
    (record { talks = winner_talks; entries = λ name. of_one name; texts = (refl, tt); pair = tt }, tt),
    ((record { talks = loser_talks; entries = λ name. of_two name; texts = (refl, (refl, tt)); pair = tt }, tt), tt),
  );
  legal = legal;
  known = known;
  unowned = unowned;
  stairs = (refl, tt);
  made = record { source = tt; among = (tt, (tt, tt)); once = λ q t u i j a b. absurd (makes_none t i q a) };
  unlike = unlike;
}
  where
    fit : TablesFit played.catalog played.rows
    fit zero = tt
    fit (suc zero) = tt
    fit (suc (suc t)) = tt

    of_one : (name : EngineName) → entries_by one (journal name) ≡ calls_in name winning.talk
    of_one Mem = refl
    of_one Store = refl

    of_two : (name : EngineName) → entries_by two (journal name) ≡ calls_in name losing.talk
    of_two Mem = refl
    of_two Store = refl

    legal : (name : EngineName) → Legal (first_table (run_of (traces_in played)) name) (journal name)
    legal Mem = (inr refl, (inr refl, (inr refl, (inr refl, (inr refl, (inr refl, (inr refl, (inr refl, (inr refl, tt)))))))))
    legal Store = tt

    by_one : Whose (traces_in played).transactions one
    by_one = record { who = transaction_in winning; among = inl refl; is = refl }

    by_two : Whose (traces_in played).transactions two
    by_two = record { who = transaction_in losing; among = inr (inl refl); is = refl }

    known : (name : EngineName) → AllByRecursion (λ (j : Entry). Known (traces_in played).transactions (tx_of j.call)) (journal name)
    known Mem = (by_two, (by_one, (by_one, (by_one, (by_one, (by_one, (by_two, (by_two, (by_two, tt)))))))))
    known Store = tt

    unowned : (name : EngineName) → MayRecords (first_table (run_of (traces_in played)) name) (journal name)
    unowned Mem = (tt, (tt, (tt, (tt, (tt, (tt, (tt, (tt, (tt, tt)))))))))
    unowned Store = tt

    unlike : (name : EngineName) → DrewUnlike name (traces_in played).transactions
    unlike Mem = (((λ n a b. some_clash (sym b)), tt), (tt, tt))
    unlike Store = (((λ n a b. some_clash (sym b)), tt), (tt, tt))

    makes_none : (t : Transaction) → In t (traces_in played).transactions → (q : Point) → In q t.made → ⊥
    makes_none t i q k = ⊎_elim
        (λ (e : t ≡ transaction_in winning). subst (λ (x : Transaction). In q x.made) e k)
        (λ (m : In t (transaction_in losing ∷ [])). ⊎_elim (λ (e : t ≡ transaction_in losing). subst (λ (x : Transaction). In q x.made) e k) (λ (n : ⊥). absurd n) m)
        i

is_one : IsOneRun played
is_one = sessions_are_one played is_play

-- the conflict has its cause: row 1's newest stamped version is of 1.1 and has the number 1, past the snapshot 0
conflict_caused : (ring : Ring) → Caused (traces_in played) ring loser (reply.Conflict one (why.Past 1 0))
conflict_caused ring = (is_one.caused ring).1.0.1.0 tt
