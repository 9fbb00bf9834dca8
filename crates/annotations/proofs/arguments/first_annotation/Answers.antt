-- Each record before the one that was found was asked.
use Rattle.std.proofs.Common.{rules}
use Rattle.std.proofs.lemmas.Iterator.{first_from_Range}
use Rattle.annotations.proofs.arguments.first_annotation.Goals as goal

pub returns : goal.returns
returns c = first_from_Range _ _ _ _ _ _ c.find.ensures.ran (λ x q h. search rules) (λ x q h. search rules)
