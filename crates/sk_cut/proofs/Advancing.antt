-- The bytes that are written are those of the batch.
use Rattle.std.proofs.Common.{◌≡◌, ℕ, List, sym, subst}
use Rattle.sk_device.specs.Disk.{Disk, Steps}
use Rattle.sk_model.specs.declared.point.Point.{Point}
use Rattle.sk_log.specs.declared.ends.Ends.{Ends}
use Rattle.sk_cut.specs.declared.pipeline.Batch.{Batch}
use Rattle.sk_cut.specs.Batches.{as_cut, stored_text, body_text, HasRoom}
use Rattle.sk_codec.proofs.Parts.{IsBytes}
use Rattle.sk_log.specs.Growth.{Follows}
use Rattle.sk_log.proofs.Written.{group_follows}
use Rattle.sk_cut.specs.Flush.{AllFollow, IsLawful, IsFlushed, IsWritten, AtMostGrows, HasGrown}

module _ {D : Type 0} (disk : Disk D) (ends : Ends) (b : Batch) (store body : List ℕ) (is_store : store ≡ stored_text b) (is_body : body ≡ body_text ends b) where
  pub law_of : (cut : Point) (old : D) → HasRoom ends (stored_text b) (body_text ends b) → IsBytes (stored_text b) → IsBytes (body_text ends b) → IsLawful disk old cut b
      → AllFollow disk old (as_cut cut) ends store body (as_cut b.cut) b.mem b.store
  law_of cut old room stored bodied law = λ image now o stands.
      let follows = group_follows o.base.catalog (as_cut cut) ends b.cut b.mem b.store (record { group = law image now o stands; store_fits = room.stored; body_fits = room.anchored; store_bytes = stored; text_bytes = bodied }) in
      subst (λ (x : List ℕ). Follows o.base.catalog (as_cut cut) ends x body (as_cut b.cut) b.mem b.store) (sym is_store)
      (subst (λ (y : List ℕ). Follows o.base.catalog (as_cut cut) ends (stored_text b) y (as_cut b.cut) b.mem b.store) (sym is_body) follows)

  pub steps_of : (old new : D) → Steps disk (IsFlushed store body (as_cut b.cut) b.mem b.store) old new → Steps disk (AtMostGrows ends b) old new
  steps_of old new steps =
      subst (λ (x : List ℕ). Steps disk (IsFlushed x (body_text ends b) (as_cut b.cut) b.mem b.store) old new) is_store
      (subst (λ (y : List ℕ). Steps disk (IsFlushed store y (as_cut b.cut) b.mem b.store) old new) is_body steps)

  pub written_of : (old new : D) → IsWritten disk store body (as_cut b.cut) b.mem b.store old new → HasGrown disk ends b old new
  written_of old new written =
      subst (λ (x : List ℕ). IsWritten disk x (body_text ends b) (as_cut b.cut) b.mem b.store old new) is_store
      (subst (λ (y : List ℕ). IsWritten disk store y (as_cut b.cut) b.mem b.store old new) is_body written)
