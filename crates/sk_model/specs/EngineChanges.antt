-- What each call makes of the table of an engine.
use Rattle.std.specs.Prelude.{ℕ, List, [], ◌∷◌, ◌++◌, Option, Some, None, cond, not, ◌&&◌, map, max}
use Rattle.std.specs.Ordering.{nat_cmp}
use Rattle.std.specs.FinMap.{put}
use Rattle.std.specs.FinMap.Entries.{where_key}
use Rattle.sk_model.specs.declared.label.Label.{Label}
use Rattle.sk_model.specs.declared.commit.Write.{Write}
use Rattle.sk_model.specs.declared.call.EngineCall.{EngineCall}
use Rattle.sk_model.specs.declared.call.EngineCall.TheVariants as call
use Rattle.sk_model.specs.Records.{same_label}
use Rattle.sk_model.specs.Engine.{label_cmp, VersionState, Open, Closed, Stamped, Dropped, Version, Opening, Openings, EngineTable, is_open, is_undecided, is_of, opening_of, snapshot_of, write_at}
use Rattle.sk_model.specs.EngineReplies.{purged_to}

-- each version of the transaction that is open or closed gets a new standing
abbrev pub restood : Label → VersionState → Version → Version
restood tx standing v = cond (same_label tx v.by && is_undecided v.standing) (record v { standing = standing }) v

abbrev pub restand : Label → VersionState → List Version → List Version
restand tx standing vs = map (restood tx standing) vs

-- the transaction's own version of the row is replaced, or a new one stands behind the others
abbrev pub put_version : Label → ℕ → Write → List Version → List Version
put_version tx s w [] = record { by = tx; snapshot = s; write = w; standing = Open } ∷ []
put_version tx s w (v ∷ vs) =
    cond (is_of w.table w.key v && (same_label tx v.by && is_open v.standing)) (record v { write = w } ∷ vs) (v ∷ put_version tx s w vs)

abbrev pub without_opening : Label → Openings → Openings
without_opening tx os = where_key label_cmp (λ l. not (same_label tx l)) os

abbrev pub closed_at : ℕ → Opening → Opening
closed_at floor o = record o { floor = Some floor }

-- the openings after a close
abbrev pub closed_in : Label → ℕ → Option Opening → Openings → Openings
closed_in tx floor None os = os
closed_in tx floor (Some o) os = put label_cmp tx (closed_at floor o) os

abbrev pub opening_at : ℕ → Opening
opening_at s = record { snapshot = s; floor = None }

-- the table after a call that was not refused
abbrev pub change : EngineTable → EngineCall → EngineTable
change e (call.Open tx s) = record e { openings = put label_cmp tx (opening_at s) e.openings; greatest = max e.greatest s }
change e (call.Get tx t key) = e
change e (call.Scan tx t) = e
change e (call.Put tx t key row) = record e { versions = put_version tx (snapshot_of e tx) (write_at t key row) e.versions }
change e (call.Close tx) = record e { versions = restand tx (Closed e.greatest) e.versions; openings = closed_in tx e.greatest (opening_of e tx) e.openings }
change e (call.Stamp tx n) = record e {
  versions = restand tx (Stamped n) e.versions;
  openings = without_opening tx e.openings;
  stamped = put nat_cmp n tx e.stamped;
}
change e (call.Void tx n) = record e {
  versions = restand tx Dropped e.versions;
  openings = without_opening tx e.openings;
  voided = e.voided ++ n ∷ [];
}
change e (call.DropTx tx) = record e { versions = restand tx Dropped e.versions; openings = without_opening tx e.openings }
change e call.Horizon = e
change e (call.Records from to) = e
change e (call.Purge upto) = record e { purged = purged_to e upto }
