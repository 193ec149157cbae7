-- The order of values is total, and ties only equal values.
use Rattle.std.proofs.Common.{◌≡◌, Bool, true, false, refl, ap}
use Rattle.std.specs.Ordering.{bool_cmp, ordering_reverse}
use Rattle.std.specs.Cmp.{IsTotalOrder, int_cmp_total}
use Rattle.std.specs.Cmp.Lexicographic.{nat_list_cmp_total}
use Rattle.std.specs.FinMap.{IsAntisymmetric, int_cmp-IsAntisymmetric, nat_cmp-IsAntisymmetric, slice_cmp-IsAntisymmetric}
use Rattle.std.specs.declared.cmp.Ordering.TheVariants.{Less, Equal}
use Rattle.sk_rows.specs.declared.value.Value.{Value}
use Rattle.sk_rows.specs.declared.value.Value.TheVariants.{Int, Text, Bool as Truth}
use Rattle.sk_rows.specs.Values.{value_cmp}

bool_antisymm : (a b : Bool) → bool_cmp a b ≡ ordering_reverse (bool_cmp b a)
bool_antisymm false false = refl
bool_antisymm false true = refl
bool_antisymm true false = refl
bool_antisymm true true = refl

bool_trans : (a b c : Bool) → bool_cmp a b ≡ Less → bool_cmp b c ≡ Less → bool_cmp a c ≡ Less
bool_trans false false c e f = f
bool_trans false true false e f = absurd cc
bool_trans false true true e f = refl
bool_trans true false c e f = absurd cc
bool_trans true true c e f = f

bool_same : (a b : Bool) → bool_cmp a b ≡ Equal → a ≡ b
bool_same false false e = refl
bool_same false true e = absurd cc
bool_same true false e = absurd cc
bool_same true true e = refl

antisymm : (x y : Value) → value_cmp x y ≡ ordering_reverse (value_cmp y x)
antisymm (Int a) (Int b) = int_cmp_total.antisymm a b
antisymm (Int a) (Text b) = refl
antisymm (Int a) (Truth b) = refl
antisymm (Text a) (Int b) = refl
antisymm (Text a) (Text b) = nat_list_cmp_total.antisymm a b
antisymm (Text a) (Truth b) = refl
antisymm (Truth a) (Int b) = refl
antisymm (Truth a) (Text b) = refl
antisymm (Truth a) (Truth b) = bool_antisymm a b

trans : (x y z : Value) → value_cmp x y ≡ Less → value_cmp y z ≡ Less → value_cmp x z ≡ Less
trans (Int a) (Int b) (Int c) e f = int_cmp_total.trans a b c e f
trans (Int a) (Int b) (Text c) e f = refl
trans (Int a) (Int b) (Truth c) e f = refl
trans (Int a) (Text b) (Int c) e f = absurd cc
trans (Int a) (Text b) (Text c) e f = refl
trans (Int a) (Text b) (Truth c) e f = refl
trans (Int a) (Truth b) (Int c) e f = absurd cc
trans (Int a) (Truth b) (Text c) e f = refl
trans (Int a) (Truth b) (Truth c) e f = refl
trans (Text a) (Int b) z e f = absurd cc
trans (Text a) (Text b) (Int c) e f = absurd cc
trans (Text a) (Text b) (Text c) e f = nat_list_cmp_total.trans a b c e f
trans (Text a) (Text b) (Truth c) e f = refl
trans (Text a) (Truth b) (Int c) e f = absurd cc
trans (Text a) (Truth b) (Text c) e f = absurd cc
trans (Text a) (Truth b) (Truth c) e f = refl
trans (Truth a) (Int b) z e f = absurd cc
trans (Truth a) (Text b) z e f = absurd cc
trans (Truth a) (Truth b) (Int c) e f = absurd cc
trans (Truth a) (Truth b) (Text c) e f = absurd cc
trans (Truth a) (Truth b) (Truth c) e f = bool_trans a b c e f

-- values that tie are one
pub value_cmp-IsAntisymmetric : IsAntisymmetric value_cmp
value_cmp-IsAntisymmetric (Int a) (Int b) e = ap Int (int_cmp-IsAntisymmetric a b e)
value_cmp-IsAntisymmetric (Int a) (Text b) e = absurd cc
value_cmp-IsAntisymmetric (Int a) (Truth b) e = absurd cc
value_cmp-IsAntisymmetric (Text a) (Int b) e = absurd cc
value_cmp-IsAntisymmetric (Text a) (Text b) e = ap Text (slice_cmp-IsAntisymmetric nat_cmp-IsAntisymmetric a b e)
value_cmp-IsAntisymmetric (Text a) (Truth b) e = absurd cc
value_cmp-IsAntisymmetric (Truth a) (Int b) e = absurd cc
value_cmp-IsAntisymmetric (Truth a) (Text b) e = absurd cc
value_cmp-IsAntisymmetric (Truth a) (Truth b) e = ap Truth (bool_same a b e)

-- the order of values is total
pub value_cmp_total : IsTotalOrder value_cmp
value_cmp_total = record {
  antisymm = antisymm;
  trans = trans;
  congr = λ x y z e. ap (λ v. value_cmp v z) (value_cmp-IsAntisymmetric x y e);
}

pub ruleset value_laws = (value_cmp_total, value_cmp-IsAntisymmetric)
