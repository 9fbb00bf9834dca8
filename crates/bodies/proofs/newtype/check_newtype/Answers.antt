-- Without a record there is nothing to find, and the first record's name decides.
use Rattle.std.proofs.Common.{sym, ◌∙◌}
use Rattle.bodies.proofs.Newtypes.{newtype_none, newtype_added}
use Rattle.bodies.proofs.newtype.check_newtype.Goals as goal

pub returns-in_default : goal.returns-in_default
returns-in_default c = newtype_none _ _ c.args.body.range _ (sym c.first.ensures ∙ c.in_default.is)

pub returns : goal.returns
returns c =
    newtype_added _ _ c.args.body.range _ _ _ _ _ _ _ (sym c.first.ensures ∙ c.in-Some.is) c.kind-named.ensures c.is_declared_as.ensures
    c.is_declared_as-2.ensures c.tell_if.ensures c.tell_if-2.ensures
