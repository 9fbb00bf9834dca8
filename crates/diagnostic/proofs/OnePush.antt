-- A violation that is stored and counted is pushed.
use Rattle.std.proofs.Common.{◌≡◌, ℕ, List}
use Rattle.rules.specs.declared.answer.Counts.{Counts}
use Rattle.rules.specs.declared.violation.Violation.{Violation}
use Rattle.diagnostic.specs.Push.{stored, counted, push_one}

-- a violation that is written and counted is pushed
pub pushed-one :
    (v : Violation) (counts r : Counts) (l l₁ : List ℕ) → l₁ ≡ stored v counts.total l → r ≡ counted v.severity counts →
    ◌≡◌ {A = List ℕ × Counts} (l₁, r) (push_one v (l, counts))
unfolding push_one
pushed-one v counts r l l₁ e f = λ i. (e i, f i)
