-- A run of sessions that have had no transaction, over what begins with some rows.
use Rattle.std.specs.Prelude.{◌≡◌, ℕ, zero, suc, ◌+◌, ◌<◌, List, [], ◌∷◌, map, length, false, ◌==◌}
use Rattle.std.specs.List.{range_with_len}
use Rattle.std.proofs.Common.{refl, sym, ap, subst, ◌∙◌, arith}
use Rattle.std.proofs.lemmas.Bool.{ne_eqb}
use Rattle.std.proofs.lemmas.List.FromFn.{length-map-range_with_len}
use Rattle.sk_rows.specs.declared.table.Table.{Table}
use Rattle.sk_rows.specs.Catalog.{IsCatalog}
use Rattle.sk_model.specs.declared.engine.EngineName.{EngineName}
use Rattle.sk_model.specs.declared.engine.EngineName.TheVariants.{Mem, Store}
use Rattle.sk_model.specs.declared.point.Point.{Point}
use Rattle.sk_model.specs.declared.call.Entry.{Entry}
use Rattle.sk_model.specs.Database.{Tables}
use Rattle.sk_model.specs.Engine.{EngineTable, engine_at}
use Rattle.sk_model.proofs.Lists.{Each}
use Rattle.sk_linked.specs.Reads.{number_at}
use Rattle.sk_mem.specs.declared.engine.MemEngine.{MemEngine}
use Rattle.sk_store.specs.declared.engine.StoreEngine.{StoreEngine}
use Rattle.sk_store.specs.Loading.{AreOpeningRows}
use Rattle.sk_session.specs.declared.session.Session.{Session}
use Rattle.sk_session.specs.EachTalk.{IsBetween}
use Rattle.sk_session.specs.Starting.{fresh}
use Rattle.sk_session.specs.Common.{Common}
use Rattle.sk_session.specs.Denied.{SessionDenied}
use Rattle.sk_session.proofs.Printing.{new_printed}
use Rattle.sk_shared.specs.Shared.{Stands, first_common}
use Rattle.sk_kept.specs.Running.{Differ}
use Rattle.sk_kept.specs.Sessions.{Player}
use Rattle.sk_kept.specs.Beginnings.{new_player}
use Rattle.sk_kept.proofs.Beginnings.{first_is_run}
use Rattle.sk_recorded.specs.Growing.{HeardBy}
use Rattle.sk_run.specs.Told.{AreTold}
use Rattle.sk_run.specs.Kept.{HasKept}
use Rattle.sk_run.specs.State.{RunState}
use Rattle.sk_run.specs.Over.{HaveSome}

less_differ : (m k n : ℕ) → m < k → Each (λ i. (m == i) ≡ false) (range_with_len k n)
less_differ m k zero h = tt
less_differ m k (suc n) h = (ne_eqb m k (λ e. omega (arith, h, e)), less_differ m (k + 1) n (omega (arith, h)))

numbers_differ : (k n : ℕ) → Differ (range_with_len k n)
numbers_differ k zero = tt
numbers_differ k (suc n) = (less_differ k (k + 1) n (omega arith), numbers_differ (k + 1) n)

players_are : (k n : ℕ) → map fresh (range_with_len k n) ≡ map (λ (p : Player). p.session) (map new_player (range_with_len k n))
players_are k zero = refl
players_are k (suc n) = ap (λ (ss : List Session). fresh k ∷ ss) (players_are (k + 1) n)

all_between : (k n : ℕ) → Each (λ (p : Player). IsBetween p.session.at) (map new_player (range_with_len k n))
all_between k zero = tt
all_between k (suc n) = (tt, all_between (k + 1) n)

-- nothing was refused yet
none_denied : (c : Common) (k n : ℕ) → Each (λ (p : Player). SessionDenied (HeardBy c) p.session) (map new_player (range_with_len k n))
none_denied c k zero = tt
none_denied c k (suc n) = (record { records = tt; live = tt }, none_denied c (k + 1) n)

-- no transaction is over yet
all_fresh : (k n : ℕ) → HaveSome (map fresh (range_with_len k n))
all_fresh k zero = tt
all_fresh k (suc n) = (([], refl), all_fresh (k + 1) n)

all_told : (k n : ℕ) → AreTold k [] (map fresh (range_with_len k n))
all_told k zero = tt
all_told k (suc n) = (refl, new_printed (fresh k) k refl, all_told (k + 1) n)

-- what an engine begins with
begins_at : (catalog : List Table) (rows : Tables) (partitions size : ℕ) (start : Point) (name : EngineName) → (first_common catalog rows partitions size start).first name ≡ engine_at name catalog rows (number_at name start)
begins_at catalog rows partitions size start Mem = refl
begins_at catalog rows partitions size start Store = refl

module _ (mem : MemEngine → EngineTable → List Entry → Type 0) (store : StoreEngine → EngineTable → List Entry → Type 0) where
  pub kept_first : (rows : Tables) (partitions size n : ℕ) (start : Point) (x : RunState) → n < 65536 → IsCatalog x.catalog → AreOpeningRows x.catalog rows → Stands mem store x.shared (first_common x.catalog rows partitions size start) → x.sessions ≡ map fresh (range_with_len 1 n) → HasKept mem store (record { rows = rows; first = start }) [] [] x
  kept_first rows partitions size n start x few tables opening stood sessions = record {
    tables = tables;
    opening = opening;
    few = subst (λ m. m < 65536) (sym (ap length sessions ∙ length-map-range_with_len fresh 1 n)) few;
    common = first_common x.catalog rows partitions size start;
    stood = stood;
    begun = begins_at x.catalog rows partitions size start;
    points = [];
    players = map new_player (range_with_len 1 n);
    sessions_are = sessions ∙ players_are 1 n;
    run = first_is_run x.catalog start (first_common x.catalog rows partitions size start) (range_with_len 1 n) (record { common = stood.common; journals = λ name. refl; points = refl; mem = refl; store = refl }) (numbers_differ 1 n);
    between = all_between 1 n;
    denied = none_denied (first_common x.catalog rows partitions size start) 1 n;
    over = subst HaveSome (sym sessions) (all_fresh 1 n);
    told = subst (AreTold 1 []) (sym sessions) (all_told 1 n);
    short = tt;
    flushed = tt;
  }
