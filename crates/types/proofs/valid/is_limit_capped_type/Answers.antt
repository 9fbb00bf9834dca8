-- The test of the first record is the definition's.
use Rattle.std.proofs.Common.{rules}
use Rattle.rules.specs.Kind
use Rattle.rules.specs.Record.{is}
use Rattle.names.specs.View.{view_at}
use Rattle.types.proofs.Views.{first_says}
use Rattle.types.proofs.valid.is_limit_capped_type.Goals as goal

pub returns : goal.returns
unfolding view_at
returns c = rw (c.is_limit_valid_type.ensures, first_says c.args.sheet.now c.args.ty (is Kind.FixedArray) c.is_some_and-fixed.result (search rules))
