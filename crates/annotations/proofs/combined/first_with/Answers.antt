-- Each record before the one that was found was asked.
use Rattle.std.proofs.Common.{rules}
use Rattle.std.proofs.lemmas.Iterator.{first_from_Range}
use Rattle.annotations.proofs.FirstWith.{first-is}
use Rattle.annotations.proofs.combined.first_with.Goals as goal

pub returns : goal.returns
returns c = λ low high.
    first-is _ _ _ _ low high _ _
    (first_from_Range _ _ _ _ _ _ c.find.ensures.ran (λ x q h. search rules) (λ x q h. search rules))
