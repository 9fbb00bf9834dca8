-- The records passed so far are of the run.
use Rattle.std.proofs.Common.{◌≡◌, ℕ, Bool}
use Rattle.bodies.proofs.RunEnds.{Passed}
use Rattle.bodies.proofs.runs.run_end.Given as goal

abbrev pub invariant-loop-i : goal.invariant-loop-i
invariant-loop-i g l =
    (p : ℕ → Bool) → ((kind : ℕ) (r : Bool) → goal.F-post g l.is_in kind r → r ≡ p kind) →
    Passed (λ t. p t.kind) l.records.context.sheet.now l.records.range.start l.records.range.end l.i
