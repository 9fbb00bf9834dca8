-- What is left of the table by a verdict.
use Rattle.std.specs.Prelude.{ℕ, ◌≤◌, ◌≡◌, List}
use Rattle.std.proofs.Math.Option.{Option, some}
use Rattle.rules.specs.Refusals.{Fault}
use Rattle.names.specs.Ends.{Shortened}

-- what a verdict leaves of the table: where rows 1 to 8 refuse, the table itself
pub record LeftBy (verdict : Option Fault) (sheet before after : List ℕ) : Type 0 where
  pub short : Shortened sheet before after
  pub untouched : (f : Fault) → verdict ≡ some f → f.number ≤ 8 → after ≡ before
