-- Each log holds writes to its own engine's tables alone.
use Rattle.std.proofs.Common.{◌≡◌, Bool, true, false, List, length, ◌+◌, Option, Some, None, Ok, refl, subst}
use Rattle.sk_rows.specs.declared.table.Table.{Table}
use Rattle.sk_model.specs.declared.commit.Write.{Write}
use Rattle.sk_model.specs.declared.engine.EngineName.TheVariants.{Store}
use Rattle.sk_model.specs.Engine.{is_kept, keeps}
use Rattle.sk_codec.specs.Reading.{Rest, bit_at}
use Rattle.sk_codec.specs.Records.{content_at, is_of, same_engine, table_at, write_at}
use Rattle.sk_codec.proofs.Parts.{bind_ok, ok_is}
use Rattle.sk_log.specs.Calls.{anchor_file, image_file, store_file}
use Rattle.sk_log.specs.Images.{base_at}
use Rattle.sk_log.specs.Stores.{Opening, begun, entry_at, logs, open_from, opened}
use Rattle.sk_log.proofs.Turns.{lies}
use Rattle.sk_recover.specs.Owning.{HoldOwn, LogsHoldTheirOwn}
use Rattle.sk_recover.proofs.LogsRead.{CommitsHave, table_is, turns_have}

-- the write is to a table of this log's engine
abbrev IsOwn : List Table → Bool → Write → Type 0
IsOwn tables store w = keeps Store tables w.table ≡ store

same_is : (a b : Bool) → same_engine a b ≡ true → a ≡ b
same_is true true e = refl
same_is true false e = absurd cc
same_is false true e = absurd cc
same_is false false e = refl

kept_by : (store : Bool) (t : Option Table) → is_of store t ≡ true → is_kept Store t ≡ store
kept_by store None e = absurd cc
kept_by store (Some t) e = same_is t.store store e

write_owned : (tables : List Table) (store : Bool) (rest : Rest) (x : Write × Rest) → write_at tables store rest ≡ Ok x → IsOwn tables store x.0
unfolding write_at
write_owned tables store rest x e =
    let t = bind_ok (table_at tables store rest) _ _ e in
    let b = bind_ok (bit_at t.0.1) _ _ t.2 in
    let c = bind_ok (content_at t.0.0.1 b.0.0 b.0.1) _ _ b.2 in
    subst (λ (y : Write × Rest). IsOwn tables store y.0) (ok_is _ _ c.2) (kept_by store _ (table_is tables store rest t.0 t.1).of)

-- what was read of both logs, over the tables of the image
pub logs_hold_their_own : LogsHoldTheirOwn
unfolding open_from
logs_hold_their_own image o opens =
    let root = bind_ok (entry_at (image 0) opens.at) _ _ opens.opens in
    let base = bind_ok (base_at (image_file root.0.set) (image (image_file root.0.set)) root.0.size) _ _ root.2 in
    let last = bind_ok (logs image (begun root.0 base.0)) _ _ base.2 in
    let one = image (store_file root.0.set) in
    let two = image (anchor_file root.0.set) in
    let first : CommitsHave IsOwn (begun root.0 base.0) = record { mem = tt; store = tt } in
    let have = turns_have IsOwn write_owned (length two + 1) one two (begun root.0 base.0) last.0 last.1 first in
    let same : last.0.catalog ≡ base.0.catalog = (lies (length two + 1) one two (begun root.0 base.0) last.0 last.1).catalog in
    let own = subst (λ (tables : List Table). HoldOwn tables last.0.mem last.0.store) same (record { of_mem = have.mem; of_store = have.store }) in
    subst (λ (p : Opening). HoldOwn p.base.catalog p.mem p.store) (ok_is (opened base.0 last.0) o last.2) own
