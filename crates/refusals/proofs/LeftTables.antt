-- Where rows 1 to 8 refuse the table is not changed, and row 9 is told as row 9.
use Prim.Native.Nat.{ℕ}
use native.Mathlib.Omega.{arith}
use mathlib.Core.Path.{◌≡◌, refl, sym, ◌∙◌}
use mathlib.Core.List.{List}
use mathlib.Core.Option.{Option}
use Rattle.rules.specs.Refusals.{Fault}
use Rattle.names.specs.Ends.{Kept}
use Rattle.names.proofs.ShortTables.{shortened-itself}
use Rattle.refusals.specs.Turned.{endless_by}
use Rattle.refusals.specs.Left.{LeftBy}
use Rattle.refusals.proofs.ChainWalk.{endless-number}

pub left-itself : (verdict : Option Fault) (sheet table : List ℕ) → LeftBy verdict sheet table table
left-itself verdict sheet table = record { short = shortened-itself sheet table; untouched = λ f e h. refl }

pub left-by-row-9 : (sheet before after : List ℕ) (verdict : Option Fault) → verdict ≡ endless_by before sheet → Kept sheet before after → LeftBy verdict sheet before after
unfolding endless_by
left-by-row-9 sheet before after verdict v kept =
    record { short = kept.short; untouched = λ f e h. absurd (omega (arith, h, endless-number _ _ _ f (sym v ∙ e))) }
