-- `recorded::buffer::fill`: the places passed have their marks.
use Rattle.std.proofs.Common.{◌≡◌, length, take}
use Rattle.recorded.specs.Buffer.{marks}
use Rattle.recorded.proofs.buffer.fill.Given as goal

abbrev pub invariant-loop-i : goal.invariant-loop-i
invariant-loop-i l = (length l.list ≡ length l.initial.list) × (take l.i l.list ≡ marks l.i)
