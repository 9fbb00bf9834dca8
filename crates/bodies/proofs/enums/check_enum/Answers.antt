-- The variants, and then the backing.
use Rattle.std.proofs.Common.{rules, of_calls, []}
use Rattle.diagnostic.proofs.Added.{adds_none}
use Rattle.bodies.proofs.Backings.{enum-found}
use Rattle.bodies.proofs.enums.check_enum.Goals as goal

pub returns : goal.returns
returns c =
    enum-found _ _ _ _ _ (c.check_variants.ensures (λ rs. []) (λ f rest old r new g same step. search (rules, of_calls, adds_none))) c.check_backings.ensures
