-- The library's decimal digits of a number are those of the definition: both append the last digit to the digits of a tenth.
use Rattle.std.proofs.Common.{◌≡◌, refl, ℕ, ◌<◌, arith}
use Rattle.std.proofs.lemmas.Fmt.{AppendsLastDigit, decimal_from_appends, length-decimal-le}
use native.Mathlib.Nat.{mod-eq_of_lt}
use borrow.Author.Tests.{lt-ltb, le-ltb}
use Rattle.std.specs.Fmt as std
use Rattle.rules.specs.Printed.{digits, decimal}

appends : AppendsLastDigit digits
unfolding digits
appends = record {
  one = λ n x h. rw (lt-ltb x 10 h, mod-eq_of_lt h) refl;
  more = λ n x h. rw (le-ltb x 10 h) refl;
}

pub decimal-same : (x : ℕ) → x < 4294967296 → decimal x ≡ std.decimal x
decimal-same x h = decimal_from_appends digits appends 10 x (omega arith) (length-decimal-le 10 x (omega arith) (omega arith) (omega arith))
