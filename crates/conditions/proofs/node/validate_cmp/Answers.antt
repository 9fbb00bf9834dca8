-- `validate_cmp` adds what is found at the operands, and then what rule 28 finds.
use Rattle.std.proofs.Common.{rules}
use Rattle.diagnostic.proofs.Added.{adds_then}
use Rattle.conditions.specs.Parts.{comparison_violations}
use Rattle.conditions.proofs.node.validate_cmp.Goals as goal

pub returns : goal.returns
unfolding comparison_violations
returns c = search (rules, adds_then)
