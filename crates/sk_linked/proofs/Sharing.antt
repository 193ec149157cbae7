-- How what a session says of itself grows: by points of anyone, and by calls of its own.
use Rattle.std.specs.Prelude.{ℕ, List, [], ◌∷◌, ◌++◌, ◌<◌}
use Rattle.std.proofs.Common.{refl}
use Rattle.std.specs.List.{fold}
use Rattle.sk_rows.specs.declared.table.Table.{Table}
use Rattle.sk_model.specs.declared.engine.EngineName.{EngineName}
use Rattle.sk_model.specs.declared.label.Label.{Label}
use Rattle.sk_model.specs.declared.point.Point.{Point}
use Rattle.sk_model.specs.declared.call.EngineCall.TheVariants as call
use Rattle.sk_model.specs.declared.call.EngineReply.TheVariants.{Done}
use Rattle.sk_model.specs.declared.call.Entry.{Entry}
use Rattle.sk_model.specs.Database.{Tables}
use Rattle.sk_model.proofs.Lists.{Each, each_weaker}
use Rattle.std.proofs.lemmas.Bool.{lt-ltb}
use Rattle.sk_linked.specs.Traces.{Transaction, close_entry, stamp_entry}
use Rattle.sk_linked.specs.Joining.{Phase, Opened, phase_after, CallsInTurn, ReplyFits, CallsFit, Behaves, OwnStays}
use Rattle.sk_linked.proofs.Growing.{at_more, pair_more}

-- ---- more points

behaves_more : (catalog : List Table) (rows : Tables) (points more : List Point) (t : Transaction) → Behaves catalog rows points t → Behaves catalog rows (points ++ more) t
behaves_more catalog rows points more t b = record {
  ordered = b.ordered;
  fitting = b.fitting;
  own = b.own;
  opened = b.opened;
  pair = pair_more points more t.snapshots.mem t.snapshots.store b.pair;
  ends = b.ends;
  silent = b.silent;
  alone = b.alone;
  crossed = λ x y c e f. at_more x y points more (b.crossed x y c e f);
}

pub own_stays : OwnStays
own_stays catalog rows points more s o = record {
  labels = o.labels;
  entries = o.entries;
  known = o.known;
  each = each_weaker (Behaves catalog rows points) (Behaves catalog rows (points ++ more)) (behaves_more catalog rows points more) s.transactions o.each;
}

-- ---- more calls

-- how far the transaction is behind these calls
abbrev pub far : Phase → List Entry → Phase
far p js = fold (λ p j. phase_after j.call j.reply p) p js

-- calls that fit behind others that do
pub calls_fit_more : (name : EngineName) (catalog : List Table) (rows : Tables) (xs ys : List Entry) → CallsFit name catalog rows xs
    → (Each (λ (j : Entry). ReplyFits catalog j.call j.reply) xs → CallsFit name catalog rows ys) → CallsFit name catalog rows (xs ++ ys)
calls_fit_more name catalog rows [] ys h k = k tt
calls_fit_more name catalog rows (x ∷ xs) ys h k = (h.0, λ r. calls_fit_more name catalog rows xs ys (h.1 r) (λ q. k (r, q)))

-- ---- what stands behind the statements' calls, where these have the engine open

pub drop_in_turn : (l : Label) → CallsInTurn Opened (record { call = call.DropTx l; reply = Done } ∷ [])
drop_in_turn l = (refl, tt)

pub close_in_turn : (l : Label) (floor : ℕ) → CallsInTurn Opened (close_entry l floor ∷ [])
close_in_turn l floor = (refl, tt)

pub close_drop_in_turn : (l : Label) (floor : ℕ) → CallsInTurn Opened (close_entry l floor ∷ record { call = call.DropTx l; reply = Done } ∷ [])
close_drop_in_turn l floor = (refl, (refl, tt))

pub close_stamp_in_turn : (l : Label) (floor n : ℕ) → floor < n → CallsInTurn Opened (close_entry l floor ∷ stamp_entry l n ∷ [])
close_stamp_in_turn l floor n h = (refl, (lt-ltb floor n h, tt))

pub close_void_in_turn : (l : Label) (floor n : ℕ) → floor < n → CallsInTurn Opened (close_entry l floor ∷ record { call = call.Void l n; reply = Done } ∷ [])
close_void_in_turn l floor n h = (refl, (lt-ltb floor n h, tt))
