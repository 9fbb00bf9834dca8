-- The eight bytes make the number.
use Rattle.std.proofs.Common.{◌∙◌, refl}
use Rattle.refusals.proofs.RecordBytes.{number_8}
use Rattle.refusals.proofs.bytes.value.Goals as goal

pub returns : goal.returns
returns c = c.from_le_bytes.ensures ∙ number_8 24 c.args.bytes.now _ _ _ _ refl refl refl refl _ _ _ _ refl refl refl refl
