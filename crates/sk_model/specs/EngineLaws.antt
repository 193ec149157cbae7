-- What holds of each engine's journal.
use Rattle.std.specs.Prelude.{◌≡◌, ℕ, ◌<◌, List, [], ◌∷◌, ◌++◌, Option, Some, ◌↔◌, true, false, ◌&&◌, length, map, nat_le}
use Rattle.std.specs.List.{filter, AllByRecursion}
use Rattle.sk_rows.specs.declared.value.Value.{Value}
use Rattle.sk_rows.specs.declared.table.Table.{Table}
use Rattle.sk_rows.specs.Values.{Fits}
use Rattle.sk_model.specs.declared.label.Label.{Label}
use Rattle.sk_model.specs.declared.engine.EngineName.{EngineName}
use Rattle.sk_model.specs.declared.commit.Commit.{Commit}
use Rattle.sk_model.specs.declared.call.Entry.{Entry}
use Rattle.sk_model.specs.declared.call.EngineCall.TheVariants as call
use Rattle.sk_model.specs.declared.call.EngineReply.TheVariants.{Done, Found}
use Rattle.sk_model.specs.Database.{RowOf, Tables, row_of, state, after_writes}
use Rattle.sk_model.specs.Names.{columns_at}
use Rattle.sk_model.specs.Replies.{key_of}
use Rattle.sk_model.specs.Numbers.{there, Rises}
use Rattle.sk_model.specs.Engine.{Stamped, EngineTable, engine_at, Version, is_of, is_stamped, opening_of, snapshot_of}
use Rattle.sk_model.specs.EngineReplies.{commit_of, got}
use Rattle.sk_model.specs.EngineConditions.{may, has_row, is_standing}
use Rattle.sk_model.specs.Legal.{step, after_entries, IsReply, Legal, Allowed}
use Rattle.sk_model.specs.Calls.{own_writes_of, ends, puts_of, OwnIs}
use Rattle.sk_model.specs.Stamped.{number_in, v_number, CommitsOf}

-- a legal journal with one more right reply is legal
abbrev pub JournalGrows : Type 0
JournalGrows = (e : EngineTable) (js : List Entry) (j : Entry) → Legal e js → IsReply (after_entries e js) j.call j.reply → Legal e (js ++ j ∷ [])

-- a row may be put exactly where it fits its table and begins with its key
abbrev pub RowsFit : Type 0
RowsFit = (e : EngineTable) (t : ℕ) (key : Value) (row : RowOf) → (has_row e t key (Some row) ≡ true) ↔ (Fits row (columns_at e.catalog t) × (key ≡ key_of row))

-- the stamped versions of a row stand in the order of their numbers
abbrev pub VersionsRise : Type 0
VersionsRise = (name : EngineName) (catalog : List Table) (rows : Tables) (start : ℕ) (js : List Entry) (t : ℕ) (key : Value) →
    let e : EngineTable = engine_at name catalog rows start in
    Legal e js → Rises v_number 0 (filter (λ v. is_of t key v && is_stamped v.standing) (after_entries e js).versions)

-- a read that was answered found the row of the opening rows after the engine's commits up to the reader's snapshot, whenever they are stamped, and after the reader's own writes
abbrev pub ReadsSnapshot : Type 0
ReadsSnapshot = (name : EngineName) (catalog : List Table) (rows : Tables) (start : ℕ) (js later : List Entry) (cs : List Commit) (tx : Label) (t : ℕ) (key : Value) (r : Option RowOf) →
    let e : EngineTable = after_entries (engine_at name catalog rows start) js in
    Legal (engine_at name catalog rows start) js → Legal e later
    → is_standing (opening_of e tx) ≡ true → got e tx t key ≡ Found r → t < length rows
    → CommitsOf (number_in name) start (after_entries e later).versions cs
    → r ≡ row_of (after_writes (state rows (filter (λ c. there (λ m. nat_le m (snapshot_of e tx)) (number_in name c)) cs)) (own_writes_of tx e.versions)) t key

-- as long as a transaction is not closed, its own versions show what its writes in the journal show
abbrev pub OwnWrites : Type 0
OwnWrites = (name : EngineName) (catalog : List Table) (rows : Tables) (start : ℕ) (js : List Entry) (tx : Label) →
    let e : EngineTable = engine_at name catalog rows start in
    Legal e js → Allowed e js → AllByRecursion (λ (j : Entry). ends tx j.call ≡ false) js → OwnIs tx (after_entries e js) (puts_of tx js)

-- what was stamped is what the engine committed, in the order of the numbers
abbrev pub StampedAreCommits : Type 0
StampedAreCommits = (name : EngineName) (catalog : List Table) (rows : Tables) (start : ℕ) (js : List Entry) →
    let e : EngineTable = after_entries (engine_at name catalog rows start) js in
    CommitsOf (number_in name) start e.versions (map (commit_of e) e.stamped)

-- what a stamp stamps was written at the snapshot of its transaction, which is before the number, whatever comes later
abbrev pub StampedAtSnapshot : Type 0
StampedAtSnapshot = (name : EngineName) (catalog : List Table) (rows : Tables) (start : ℕ) (js later : List Entry) (tx : Label) (n : ℕ) →
    let e : EngineTable = after_entries (engine_at name catalog rows start) js in
    let stamped : EngineTable = after_entries (step e (record { call = call.Stamp tx n; reply = Done })) later in
    may e (call.Stamp tx n) ≡ true → (snapshot_of e tx < n) × AllByRecursion (λ (v : Version). v.standing ≡ Stamped n → v.snapshot ≡ snapshot_of e tx) stamped.versions
