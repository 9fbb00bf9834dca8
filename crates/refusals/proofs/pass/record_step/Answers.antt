-- Rows 3 to 5 come first, and then the step.
use Rattle.refusals.proofs.Passes.{grammar_then}
use Rattle.refusals.proofs.pass.record_step.Goals as goal

pub returns : goal.returns
returns c = rw c.record-bytes.ensures at (grammar_then _ _ _ _ c.own_fault.result c.own_fault.ensures _ _ c.in_ok-own_fault.was c.grammar_step.ensures)
