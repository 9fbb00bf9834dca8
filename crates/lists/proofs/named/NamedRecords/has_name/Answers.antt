-- Each record of the range was asked.
use Rattle.std.proofs.Common.{rules}
use Rattle.lists.specs.Named.{names_at}
use Rattle.lists.proofs.Asked.{any_from_range}
use Rattle.lists.proofs.Slots.{all-asked}
use Rattle.lists.proofs.named.NamedRecords.has_name.Goals as goal

pub returns : goal.returns
unfolding names_at
returns c = all-asked _ _ _ _ _ _ (any_from_range _ _ _ _ _ c.any.ensures.ran (λ x q h. search rules) (λ x q h. search rules))
