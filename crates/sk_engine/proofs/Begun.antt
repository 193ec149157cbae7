-- A new engine stands for the table with its opening rows and no versions.
use Rattle.std.specs.Prelude.{◌≡◌, ℕ, List, [], Option, Some, None, cond, T, length, map, IfSome}
use Rattle.std.proofs.Common.{refl, sym, ap, subst, arith}
use Rattle.std.specs.Option.{option_map}
use Rattle.sk_model.specs.declared.reply.Why.TheVariants.{Past}
use Rattle.std.specs.FinMap.{is_sorted}
use Rattle.std.proofs.lemmas.Bool.{le-ltb, le-leb}
use Rattle.sk_rows.specs.declared.table.Table.{Table}
use Rattle.sk_rows.specs.Values.{value_cmp}
use Rattle.sk_model.specs.declared.engine.EngineName.{EngineName}
use Rattle.sk_model.specs.Database.{RowOf, Tables, row_of, table_of}
use Rattle.sk_model.specs.Engine.{engine_at}
use Rattle.sk_model.specs.EngineReplies.{last_in}
use Rattle.sk_model.proofs.Order.{good_start}
use Rattle.sk_model.proofs.Listed.{listed_start}
use Rattle.sk_engine.specs.declared.book.Book.{Book}
use Rattle.sk_chain.specs.Writing.{is_by}
use Rattle.sk_engine.specs.Rows.{Chains, row_in}
use Rattle.sk_engine.specs.Stands.{Stands, RowIs, held_in, state_by, begun}
use Rattle.sk_engine.specs.Counts.{Counts, used}
use Rattle.sk_engine.specs.Engines.{StandsBy, HasRoom}

begun_row : (start : ℕ) (r : Option RowOf) → RowIs start r [] (begun start r)
begun_row start None = record { decided = []; undecided = None; kept = []; all = refl; are_stamped = tt; is_pending = tt; chain_is = refl; reads = λ s l. refl; last = λ s l. refl }
begun_row start (Some row) = record {
  decided = [];
  undecided = None;
  kept = (begun start (Some row)).settled;
  all = refl;
  are_stamped = tt;
  is_pending = tt;
  chain_is = refl;
  reads = λ s l. sym (ap (λ b. row_in (last_in None (cond b ((begun start (Some row)).settled) []))) (le-leb start s l));
  last = λ s l. sym (ap (λ b. cond b (Some (record { by = record { session = 0; k = 0 }; why = Past start s })) None) (le-ltb s start l));
}

no_top : (start : ℕ) (r : Option RowOf) → (begun start r).top ≡ None
no_top start None = refl
no_top start (Some row) = refl

pub stands_begun : (name : EngineName) (shown : List Table → Chains → Type 0) (b : Book) (tables : List Table) (rows : Tables) (start : ℕ)
    → b.openings.entries ≡ [] → b.greatest ≡ start → b.purged ≡ start → b.horizon ≡ start → b.numbers.items ≡ [] → HasRoom b
    → length rows ≡ length tables → ((t : ℕ) → T (is_sorted value_cmp (table_of rows t))) → shown tables (λ t key. begun start (row_of rows t key))
    → StandsBy name shown b (engine_at name tables rows start)
stands_begun name shown b tables rows start os g p h ns room len sorted shows = record {
  sound = record { named = refl; count = len; sorted = sorted; ordered = tt; good = good_start name tables rows start; listed = listed_start name tables rows start; fit = tt };
  chains = λ t key. begun start (row_of rows t key);
  shows = shows;
  stands = subst (λ x. Stands x b.purged (held_in b.openings.entries) (λ t key. begun start (row_of rows t key)) (engine_at name tables rows start)) (sym g)
      (subst (λ x. Stands start x (held_in b.openings.entries) (λ t key. begun start (row_of rows t key)) (engine_at name tables rows start)) (sym p)
      (subst (λ es. Stands start start (held_in es) (λ t key. begun start (row_of rows t key)) (engine_at name tables rows start)) (sym os) (record {
        greatest = refl;
        purged = refl;
        openings = λ tx. refl;
        in_time = λ tx. tt;
        floors = λ tx. tt;
        rows = λ t key. begun_row start (row_of rows t key);
        wrote = λ tx t key. ap (is_by tx) (sym (no_top start (row_of rows t key)));
        tops = λ t key. subst (λ o. IfSome o (λ v. option_map (λ k. state_by k.floor) (held_in [] v.by) ≡ Some v.state)) (sym (no_top start (row_of rows t key))) tt;
      })));
  counts = subst (λ x. Counts x b.purged (map used b.numbers.items) (engine_at name tables rows start)) (sym h)
      (subst (λ x. Counts start x (map used b.numbers.items) (engine_at name tables rows start)) (sym p)
      (subst (λ xs. Counts start start (map used xs) (engine_at name tables rows start)) (sym ns) (record { low = omega arith; rising = tt; stamped = refl; is_used = λ n l. refl; horizon = refl; wrote = tt })));
  room = room;
}
