-- What is to find from `i` on is what was to find at first, and the table leads to the ends that it led to.
use Rattle.std.proofs.Common.{◌≡◌}
use Rattle.rules.specs.Refusals.{endless_chain}
use Rattle.names.specs.View.{view_of, context_by}
use Rattle.refusals.specs.Turned.{endless_by}
use Rattle.names.specs.Ends.{Kept}
use Rattle.refusals.proofs.chain.endless.Given as goal

abbrev pub invariant-loop-i : goal.invariant-loop-i
invariant-loop-i l =
    Kept l.sheet l.fn.table l.table × (endless_chain (context_by l.fn.table l.sheet) l.i (view_of l.sheet l.i l.n) ≡ endless_by l.fn.table l.sheet)
