-- The arguments are those of the limit.
use Rattle.names.specs.Known.{records_in}
use Rattle.types.proofs.EachRecord.{leaves_end}
use Rattle.annotations.proofs.Limits.{limit-found}
use Rattle.annotations.proofs.limit.check_limit_value.Goals as goal

pub returns : goal.returns
returns c =
    limit-found _ _ _ _ _ _ (records_in c.args.context c.args.ty) _ _ c.arguments-arguments.ensures (leaves_end _ _ _ _ _ _ _ c.loop-j.invariant c.loop-j-test.false)
