-- The test of the first record behind the optionals is the definition's.
use Rattle.std.proofs.Common.{rules}
use Rattle.names.specs.View.{view_at}
use Rattle.types.proofs.Views.{first_says}
use Rattle.types.proofs.optional.is_collection_type.Goals as goal

pub returns : goal.returns
unfolding view_at
returns c = rw (← c.behind_optionals-bare.ensures) (first_says _ c.behind_optionals-bare.result _ c.is_some_and.result (search rules))
