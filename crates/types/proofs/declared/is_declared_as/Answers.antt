-- The sub of the declaration, if there is one, decides.
use Rattle.std.proofs.Common.{rules}
use Rattle.names.specs.Known.{numbers_of}
use Rattle.types.proofs.Declarations.{declared_says}
use Rattle.types.proofs.declared.is_declared_as.Goals as goal

pub returns : goal.returns
returns c = declared_says (numbers_of c.args.context) c.args.context.sheet.now c.args.i c.args.sub c.is_some_and.result (search rules)
