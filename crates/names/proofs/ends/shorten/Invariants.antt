-- The table leads to the same ends as at first, and the type reached has the end that the first one has.
use Rattle.std.proofs.Common.{◌≡◌}
use Rattle.names.specs.View.{context_by}
use Rattle.names.specs.SameEnds.{Lasting}
use Rattle.names.specs.Ends.{EndsAt, Kept, beside_targets}
use Rattle.names.proofs.ends.shorten.Given as goal

abbrev pub invariant-loop : goal.invariant-loop
invariant-loop l =
    (Lasting (context_by l.fn.table l.sheet) → EndsAt l.fn.table l.sheet l.fn.t l.fn.end → Kept l.sheet l.fn.table l.table × EndsAt l.table l.sheet l.at l.fn.end)
    × (beside_targets l.table ≡ beside_targets l.fn.table)
