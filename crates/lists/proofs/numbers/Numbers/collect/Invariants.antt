-- The tombstones from record `i` on are kept.
use Rattle.lists.specs.Kept.{sheet_of, start_of, end_of}
use Rattle.lists.proofs.Collecting.{Collected}
use Rattle.lists.proofs.numbers.Numbers.collect.Given as goal

abbrev pub invariant-loop-i : goal.invariant-loop-i
invariant-loop-i l =
    Collected (sheet_of l.list) (start_of l.list) (end_of l.list) l.list.tombstone l.self.ordinals l.self.marks l.self.len l.i
