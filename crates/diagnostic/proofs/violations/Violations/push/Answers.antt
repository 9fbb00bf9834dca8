-- The violation is stored as the record that the total numbers, and counted.
use Rattle.std.proofs.Common.{refl}
use Rattle.diagnostic.proofs.OnePush.{pushed-one}
use Rattle.diagnostic.proofs.violations.Violations.push.Goals as goal

pub returns : goal.returns
returns c = record { reference = refl; state = pushed-one _ _ _ _ _ c.store.ensures c.count_one-self.ensures }
