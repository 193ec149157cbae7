-- Journals that grow: records that are asked for where they may be, and horizons that were answered.
use Rattle.std.specs.Prelude.{◌≡◌, List, [], ◌∷◌, ◌++◌, Some, None}
use Rattle.std.proofs.Common.{sym, ap, subst}
use Rattle.sk_model.specs.declared.label.Label.{Label}
use Rattle.sk_model.specs.declared.engine.EngineName.{EngineName}
use Rattle.sk_model.specs.declared.engine.EngineName.TheVariants.{Mem, Store}
use Rattle.sk_model.specs.declared.point.Point.{Point}
use Rattle.sk_model.specs.declared.call.EngineCall.{EngineCall}
use Rattle.sk_model.specs.declared.call.EngineCall.TheVariants as call
use Rattle.sk_model.specs.declared.call.Entry.{Entry}
use Rattle.sk_model.specs.Engine.{EngineTable}
use Rattle.sk_model.specs.Legal.{step, after_entries}
use Rattle.sk_model.specs.Talks.{tx_of}
use Rattle.sk_model.proofs.Lists.{Each}
use Rattle.sk_linked.specs.Traces.{In, horizon_entry, IsAtHorizons}
use Rattle.sk_linked.specs.Joining.{MayRecord, MayRecords}
use Rattle.sk_session.specs.Common.{Common}

-- a transaction asks for no records
may_record : (e : EngineTable) (c : EngineCall) (l : Label) → tx_of c ≡ Some l → MayRecord e c
may_record e (call.Open tx s) l h = tt
may_record e (call.Get tx t key) l h = tt
may_record e (call.Scan tx t) l h = tt
may_record e (call.Put tx t key row) l h = tt
may_record e (call.Close tx) l h = tt
may_record e (call.Stamp tx n) l h = tt
may_record e (call.Void tx n) l h = tt
may_record e (call.DropTx tx) l h = tt
may_record e call.Horizon l h = tt
may_record e (call.Records from to) l h = absurd (clash h)
  where
    clash : None ≡ Some l → ⊥
    clash h = cc
may_record e (call.Purge upto) l h = tt

pub own_may_record : (e : EngineTable) (l : Label) (js : List Entry) → Each (λ (j : Entry). tx_of j.call ≡ Some l) js → MayRecords e js
own_may_record e l [] h = tt
own_may_record e l (j ∷ js) h = (may_record e j.call l h.0, own_may_record (step e j) l js h.1)

may_append : (e : EngineTable) (js ks : List Entry) → MayRecords e js → MayRecords (after_entries e js) ks → MayRecords e (js ++ ks)
may_append e [] ks h k = k
may_append e (j ∷ js) ks h k = (h.0, may_append (step e j) js ks h.1 k)

-- records were asked for where they may be, and so they were behind that
pub unowned_grows : (c d : Common) (name : EngineName) (more : List Entry) → d.first ≡ c.first → d.journals name ≡ c.journals name ++ more
    → MayRecords (c.first name) (c.journals name) → MayRecords (after_entries (c.first name) (c.journals name)) more → MayRecords (d.first name) (d.journals name)
unowned_grows c d name more first grown h k =
    subst (λ e. MayRecords e (d.journals name)) (sym (ap (λ f. f name) first))
    (subst (MayRecords (c.first name)) (sym grown) (may_append (c.first name) (c.journals name) more h k))

-- horizons that were answered stay so, where no entry is lost
pub horizons_stay : (old new : EngineName → List Entry) → ((name : EngineName) (j : Entry) → In j (old name) → In j (new name)) → (q : Point) → IsAtHorizons old q → IsAtHorizons new q
horizons_stay old new more q h = record { selects = h.selects; mem = more Mem (horizon_entry q.a) h.mem; store = more Store (horizon_entry q.b) h.store }
