-- `program::files::read_full`: the buffer keeps its length, and each turn leaves less of it to fill.
use Rattle.std.proofs.Common.{length, ◌-◌, ◌≡◌, ◌≤◌}
use Rattle.program.proofs.files.read_full.Given as goal

abbrev pub invariant-loop-done : goal.invariant-loop-done
invariant-loop-done g l = (length l.buf ≡ length l.initial.buf) × (l.done ≤ length l.initial.buf)

abbrev pub decreases-loop-done : goal.decreases-loop-done
decreases-loop-done g l = length l.initial.buf - l.done
