-- Nothing is found without a `zigzag`, and else the first `zigzag` is told if there is a `varint`.
use Rattle.std.proofs.Common.{arith}
use Rattle.names.specs.View.{view_at}
use Rattle.annotations.proofs.FirstWith.{combined-alone, combined-found}
use Rattle.annotations.proofs.combined.check_combined.Goals as goal

pub returns-in_default : goal.returns-in_default
returns-in_default c = combined-alone _ _ _ _ _ (c.first_with.ensures (omega arith) (omega arith)) _ c.in_default.is

pub returns : goal.returns
unfolding view_at
returns c =
    combined-found _ _ _ _ _ (c.first_with.ensures (omega arith) (omega arith)) _ _ _ _ _ c.in-Some.is (c.first_with-2.ensures (omega arith) (omega arith)) c.is_some-varint.ensures c.tell_if.ensures
