-- The records before `i` are read, and the chains have them.
use Rattle.std.proofs.Common.{◌≡◌}
use Rattle.names.specs.Buckets.{Chained}
use Rattle.names.specs.Notes.{Read}
use Rattle.names.proofs.parts.read_records.Given as goal

abbrev pub invariant-loop-i : goal.invariant-loop-i
invariant-loop-i l =
    (l.spelling.names ≡ l.names) × Chained l.sheet l.names l.chains.heads l.chains.links l.i × Read l.sheet l.names l.table l.i l.i
