-- The test of the first record is the definition's.
use Rattle.std.proofs.Common.{rules}
use Rattle.names.specs.View.{view_at}
use Rattle.types.proofs.Views.{first_says}
use Rattle.types.proofs.valid.is_primitive.Goals as goal

pub returns : goal.returns
unfolding view_at
returns g c = λ p h. first_says _ c.args.ty _ c.is_some_and.result (search rules)
