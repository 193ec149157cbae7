-- The laws of an engine's journal.
use Rattle.std.specs.Prelude.{List, [], nat_le, length, ◌<◌}
use Rattle.std.proofs.Common.{refl, sym, ap, ◌∙◌}
use Rattle.std.specs.List.{filter}
use Rattle.sk_model.specs.declared.commit.Commit.{Commit}
use Rattle.sk_model.specs.Database.{row_of, state}
use Rattle.sk_model.specs.Numbers.{there}
use Rattle.sk_model.specs.Engine.{EngineTable, engine_at, snapshot_of}
use Rattle.sk_model.specs.Legal.{after_entries}
use Rattle.sk_model.specs.Calls.{last_row}
use Rattle.sk_model.specs.Stamped.{number_in, writes_of}
use Rattle.sk_model.specs.EngineLaws.{VersionsRise, ReadsSnapshot, OwnWrites}
use Rattle.sk_model.proofs.Order.{good_entries, good_start}
use Rattle.sk_model.specs.EngineInvariant.{Good}
use Rattle.sk_model.proofs.Numbered.{row_rises}
use Rattle.sk_model.proofs.Reading.{engine_read, own_versions, view_row, length_state, upto_inside}
use Rattle.sk_model.proofs.Own.{own_is_puts}

pub rise : VersionsRise
rise name catalog rows start js t key legal =
    let good : Good (after_entries (engine_at name catalog rows start) js) = good_entries (engine_at name catalog rows start) js legal (good_start name catalog rows start) in
    row_rises (after_entries (engine_at name catalog rows start) js).greatest t key (after_entries (engine_at name catalog rows start) js).versions good.ordered good.timed

pub reads : ReadsSnapshot
reads name catalog rows start js later cs tx t key r legal legal2 m found small c =
    let e : EngineTable = after_entries (engine_at name catalog rows start) js in
    let upto : List Commit = filter (λ c. there (λ m. nat_le m (snapshot_of e tx)) (number_in name c)) cs in
    let small2 : t < length (state rows upto) = rw (length_state rows upto) small in
    engine_read (number_in name) name catalog rows start start js later cs tx t key r legal legal2 m found c small
    ∙ ap (λ xs. last_row t key (row_of (state rows xs) t key) (writes_of (own_versions tx t key e.versions))) (sym (upto_inside (number_in name) start (snapshot_of e tx) cs c.rises))
    ∙ sym (view_row (state rows upto) tx t key e.versions small2)

pub own : OwnWrites
own name catalog rows start js tx legal allowed none =
    own_is_puts tx (engine_at name catalog rows start) js [] (good_start name catalog rows start) legal allowed none (λ t key x. refl)
