-- The one entry that is due is the first.
use mathlib.Core.Path.{refl}
use Rattle.grammar.proofs.PartSteps.{begins-dues}
use Rattle.grammar.proofs.due.Due.begin.Goals as goal

pub returns : goal.returns
returns c = begins-dues _ _ refl c.self.invariant.size
