-- What is noted is spread to the records before `i`.
use Rattle.names.specs.Notes.{Spread}
use Rattle.names.proofs.parts.spread_notes.Given as goal

abbrev pub invariant-loop-i : goal.invariant-loop-i
invariant-loop-i l = Spread l.sheet l.names l.table l.i
