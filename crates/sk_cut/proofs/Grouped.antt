-- What was tested part by part is a group.
use Rattle.std.proofs.Common.{ℕ, ◌<◌, ◌^◌, Bool, true, false, List, [], ◌∷◌, Option, Some, None, length, slice_get}
use Rattle.std.specs.List.{AllByRecursion}
use Rattle.std.proofs.lemmas.List.Elements.{All-from_recursion}
use Rattle.sk_rows.specs.declared.value.Value.{Value}
use Rattle.sk_rows.specs.declared.table.Column.{Column}
use Rattle.sk_rows.specs.declared.table.Table.{Table}
use Rattle.sk_model.specs.declared.commit.Write.{Write}
use Rattle.sk_model.specs.declared.commit.Commit.{Commit}
use Rattle.sk_model.specs.declared.point.Point.{Point}
use Rattle.sk_codec.specs.Records.{columns_of}
use Rattle.sk_codec.specs.Spelling.{IsContent, IsShortContent, IsShortWrite, IsWrite, own_of, number_or_0}
use Rattle.sk_log.specs.Lawful.{AreRecords, IsGroup}
use Rattle.sk_log.specs.Spelled.{IsSpellable}
use Rattle.sk_cut.specs.declared.pipeline.Batch.{Batch}
use Rattle.sk_cut.specs.Batches.{CanBeCounted, CanBeSpelled, as_cut}
use Rattle.sk_cut.specs.Tested.{AreTested, IsTested}

short_content : (columns : List Column) (key : Value) (row : Option (List Value)) → IsContent columns key row → IsShortContent key row
short_content columns key None h = h.2
short_content columns key (Some row) h = h.1.short

short_writes : (tables : List Table) (store : Bool) (ws : List Write) → AllByRecursion (IsWrite tables store) ws → AllByRecursion IsShortWrite ws
short_writes tables store [] h = tt
short_writes tables store (w ∷ ws) h = (short_content (columns_of (slice_get tables w.table)) w.key w.row h.0.content, short_writes tables store ws h.1)

spellable : (tables : List Table) (store : Bool) (upto above : ℕ) (cs : List Commit) → AreTested tables store upto above cs → AllByRecursion IsSpellable cs
spellable tables store upto above [] h = tt
spellable tables store upto above (c ∷ cs) h = (All-from_recursion IsShortWrite c.writes (short_writes tables store c.writes h.0.writes), spellable tables store upto (number_or_0 (own_of store c)) cs h.1)

records_of : (tables : List Table) (store : Bool) (upto above : ℕ) (cs : List Commit) → AreTested tables store upto above cs → AreRecords tables store upto above cs
records_of tables store upto above [] h = tt
records_of tables store upto above (c ∷ cs) h = (λ _. h.0, records_of tables store upto (number_or_0 (own_of store c)) cs h.1)

all_tested : (tables : List Table) (store : Bool) (upto above : ℕ) (cs : List Commit) → AreRecords tables store upto above cs → AllByRecursion (λ c. length c.writes < 2 ^ 32) cs → AreTested tables store upto above cs
all_tested tables store upto above [] h n = tt
all_tested tables store upto above (c ∷ cs) h n = (h.0 n.0, all_tested tables store upto (number_or_0 (own_of store c)) cs h.1 n.1)

pub group_of : (catalog : List Table) (cut : Point) (b : Batch) → IsTested catalog cut b → IsGroup catalog (as_cut cut) b.cut b.mem b.store
group_of catalog cut b t = record {
  a = t.climbs.a;
  b = t.climbs.b;
  rises = t.climbs.rises;
  are_mem = records_of catalog false b.cut.a cut.a b.mem t.mem;
  are_store = records_of catalog true b.cut.b cut.b b.store t.store;
  pairs = t.pairs;
}

pub spelled_of : (catalog : List Table) (cut : Point) (b : Batch) → IsTested catalog cut b → CanBeSpelled b
spelled_of catalog cut b t = record {
  mem = All-from_recursion IsSpellable b.mem (spellable catalog false b.cut.a cut.a b.mem t.mem);
  store = All-from_recursion IsSpellable b.store (spellable catalog true b.cut.b cut.b b.store t.store);
}

pub tested_group : (catalog : List Table) (cut : Point) (b : Batch) → IsGroup catalog (as_cut cut) b.cut b.mem b.store → CanBeCounted b → IsTested catalog cut b
tested_group catalog cut b g n = record {
  climbs = record { a = g.a; b = g.b; rises = g.rises };
  mem = all_tested catalog false b.cut.a cut.a b.mem g.are_mem n.mem;
  store = all_tested catalog true b.cut.b cut.b b.store g.are_store n.store;
  pairs = g.pairs;
}
