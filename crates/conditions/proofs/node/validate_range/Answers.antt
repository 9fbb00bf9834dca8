-- `validate_range` adds what is found at the operands, and then what rule 29 finds.
use Rattle.std.proofs.Common.{rules}
use Rattle.diagnostic.proofs.Added.{adds_then}
use Rattle.names.specs.View.{view_at}
use Rattle.conditions.specs.Parts.{range_violations}
use Rattle.conditions.proofs.node.validate_range.Goals as goal

pub returns : goal.returns
unfolding range_violations view_at
returns c = search (rules, adds_then)
