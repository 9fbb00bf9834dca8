-- The run goes on behind the fours.
use Rattle.std.proofs.Common.{nat_eq, arith, rules}
use Rattle.rules.specs.Kind
use Rattle.bodies.proofs.RunEnds.{run_on}
use Rattle.bodies.proofs.runs.optionals_end.Goals as goal

pub returns : goal.returns
returns c =
    run_on _ _ _ _ _ _ (omega arith) c.optional_fours.ensures.0 c.optional_fours.ensures.1
    (rw (c.from-others.ensures.within (omega arith), c.from-others.ensures.context) at (c.run_end.ensures.run (λ kind. nat_eq kind Kind.Optional) (λ kind r h. search rules)))
