-- Either test tells of each annotation whether its name is met.
use Rattle.std.proofs.Common.{rules, of_calls}
use Rattle.lists.specs.Named.{row_of}
use Rattle.annotations.proofs.duplicates.check_duplicate_annotations.Goals as goal

pub returns-then-saturating_sub-le-FEW : goal.returns-then-saturating_sub-le-FEW
returns-then-saturating_sub-le-FEW c = c.check_met.ensures (λ f. row_of f.0.now) (search rules) (λ f i met g h step. search (rules, of_calls))

pub returns-else-saturating_sub-le-FEW : goal.returns-else-saturating_sub-le-FEW
returns-else-saturating_sub-le-FEW c =
    c.check_met-else-saturating_sub-le-FEW.ensures (λ f. f.0.now) (search rules) (λ f i met g h step. search (rules, of_calls))
