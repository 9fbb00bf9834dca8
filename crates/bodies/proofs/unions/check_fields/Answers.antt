-- The fields end where the parts of the variant do.
use Rattle.std.proofs.Common.{not}
use Rattle.rules.specs.Words.{within}
use Rattle.rules.specs.Kind
use Rattle.bodies.specs.Runs.{EndsAt}
use Rattle.bodies.proofs.unions.check_fields.Goals as goal

pub returns : goal.returns
unfolding EndsAt
returns c =
    let run = c.run_end-end.ensures.run (λ kind. not (within Kind.Variant Kind.Tombstone kind)) (λ kind r h. h) in
    rw (← run.0.0) (rw (c.part.ensures.within (run.2 c.args.rest.ordered) run.1, c.part.ensures.context) at c.check_message_body.ensures)
