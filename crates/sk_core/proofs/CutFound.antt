-- The cut of the two horizons that the engines answered.
use Rattle.std.specs.Prelude.{◌≡◌, ℕ}
use Rattle.sk_model.specs.declared.engine.EngineName.TheVariants.{Mem, Store}
use Rattle.sk_model.specs.declared.call.EngineCall.TheVariants as call
use Rattle.sk_model.specs.EngineReplies.{horizon_of}
use Rattle.sk_linked.specs.State.{Core, table_of}
use Rattle.sk_linked.specs.Machine.{called, cut_at, cut_next}

pub cut_is : (k s : Core) (x y : ℕ) → s ≡ called (called k Mem call.Horizon) Store call.Horizon → x ≡ horizon_of (table_of k Mem) → y ≡ horizon_of (table_of k Store) → cut_at s x y ≡ cut_next k
cut_is k s x y is a b = λ i. cut_at (is i) (a i) (b i)
