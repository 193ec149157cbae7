-- What a store opens as goes on, and what it opens over stays.
use Rattle.std.proofs.Common.{◌≡◌, List, [], ◌++◌, refl, sym, ap, subst, ◌∙◌, ⊎_elim, append_assoc}
use Rattle.std.proofs.lemmas.List.{append-nil}
use Rattle.sk_device.specs.Disk.{Image, Disk, Steps}
use Rattle.sk_device.proofs.Moments.{steps_then, steps_weaker, steps_none}
use Rattle.sk_rows.specs.declared.table.Table.{Table}
use Rattle.sk_model.specs.declared.point.Point.{Point}
use Rattle.sk_model.specs.declared.commit.Commit.{Commit}
use Rattle.sk_log.specs.declared.ends.Ends.{Ends}
use Rattle.sk_log.specs.Images.{Base}
use Rattle.sk_log.specs.Stores.{Opening}
use Rattle.sk_log.specs.Growth.{OpensAs}
use Rattle.sk_log.specs.Lawful.{IsGroup}
use Rattle.sk_log.proofs.Openings.{opens_once}
use Rattle.sk_cut.specs.declared.pipeline.Batch.{Batch}
use Rattle.sk_cut.specs.Batches.{as_cut}
use Rattle.sk_cut.specs.Flush.{AtMostGrows, IsLawful, grown_by}
use Rattle.sk_durable.specs.Growing.{AllOver, GoesFrom, GrowsSame, OnlyGrows}

itself : (o : Opening) → GoesFrom o o
itself o = record { base = refl; more_mem = []; more_store = []; mem = sym (append-nil o.mem); store = sym (append-nil o.store) }

pub grows_same : GrowsSame
grows_same image o stands = (o, stands, itself o)

further : (o p q : Opening) → GoesFrom o p → GoesFrom p q → GoesFrom o q
further o p q one two = record {
  base = two.base ∙ one.base;
  more_mem = one.more_mem ++ two.more_mem;
  more_store = one.more_store ++ two.more_store;
  mem = two.mem ∙ ap (λ (l : List Commit). l ++ two.more_mem) one.mem ∙ append_assoc o.mem one.more_mem two.more_mem;
  store = two.store ∙ ap (λ (l : List Commit). l ++ two.more_store) one.store ∙ append_assoc o.store one.more_store two.more_store;
}

grows_twice : (was between image : Image) → OnlyGrows was between → OnlyGrows between image → OnlyGrows was image
grows_twice was between image one two o stands =
    let p = one o stands in
    let q = two p.0 p.1 in
    (q.0, q.1, further o p.0 q.0 p.2 q.2)

-- with the batch's group or without it, it grows
at_most : (ends : Ends) (b : Batch) (was image : Image) → AtMostGrows ends b was image → OnlyGrows was image
at_most ends b was image grows o stands = ⊎_elim
    (λ (same : OpensAs image o). (o, same, itself o))
    (λ (more : OpensAs image (grown_by ends b o)). (grown_by ends b o, more, record { base = refl; more_mem = b.mem; more_store = b.store; mem = refl; store = refl }))
    (grows o stands)

module _ {D : Type 0} (disk : Disk D) where
  pub grows_on : (a b c : D) → Steps disk OnlyGrows a b → Steps disk OnlyGrows b c → Steps disk OnlyGrows a c
  grows_on a b c one two = steps_then disk OnlyGrows OnlyGrows OnlyGrows a b c one two (λ was image left grows. grows) (λ was between image left now first second. grows_twice was between image first second)

  -- no call
  pub grows_none : (device : D) → Steps disk OnlyGrows device device
  grows_none device = steps_none disk OnlyGrows device grows_same

  -- a flush of the pipeline
  pub grows_by : (ends : Ends) (b : Batch) (old new : D) → Steps disk (AtMostGrows ends b) old new → Steps disk OnlyGrows old new
  grows_by ends b old new steps = steps_weaker disk (AtMostGrows ends b) OnlyGrows old new steps (λ was image left grows. at_most ends b was image grows)

  -- what it opens over stays
  pub over_after : (catalog : List Table) (old new : D) → Steps disk OnlyGrows old new → AllOver disk catalog old → AllOver disk catalog new
  over_after catalog old new steps over = λ image left.
      let from = steps.now image left in
      let was = over from.0 from.1 in
      let p = from.2 was.opening was.stands in
      record { opening = p.0; stands = p.1; is_catalog = ap (λ (b : Base). b.catalog) p.2.base ∙ was.is_catalog }

  -- a group over its catalog is one behind what each image holds
  pub law_of : (catalog : List Table) (device : D) (cut : Point) (b : Batch) → AllOver disk catalog device → IsGroup catalog (as_cut cut) b.cut b.mem b.store → IsLawful disk device cut b
  law_of catalog device cut b over group = λ image left o stands.
      let one = over image left in
      let is : catalog ≡ o.base.catalog = sym one.is_catalog ∙ ap (λ (p : Opening). p.base.catalog) (opens_once image one.opening o one.stands stands) in
      subst (λ (c : List Table). IsGroup c (as_cut cut) b.cut b.mem b.store) is group
