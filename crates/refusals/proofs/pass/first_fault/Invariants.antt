-- What is to find among the records from `i` on, from the state reached, is what was to find among all of them from the start.
use Rattle.std.proofs.Common.{◌≡◌, ◌-◌, ◌≤◌, drop}
use Rattle.rules.specs.Record.{records}
use Rattle.rules.specs.Grammar as Grammar
use Rattle.grammar.specs.States.{state_of}
use Rattle.refusals.specs.Pass.{is_second, first_fault_by, Ended}
use Rattle.refusals.proofs.pass.first_fault.Given as goal

abbrev pub invariant-loop-i : goal.invariant-loop-i
invariant-loop-i l =
    (l.i ≤ l.n)
    × (first_fault_by (is_second l.table) (state_of l.state l.due) l.i (drop l.i (records l.sheet l.names)) ≡ first_fault_by (is_second l.table) Grammar.start 0 (records l.sheet l.names))
    × Ended l.sheet l.end l.i

abbrev pub decreases-loop-i : goal.decreases-loop-i
decreases-loop-i l = l.n - l.i
