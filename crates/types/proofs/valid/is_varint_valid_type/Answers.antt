-- The subs that pass are the definition's.
use Rattle.std.proofs.Common.{rules, ◌||◌}
use Rattle.rules.specs.Words.{within}
use Rattle.rules.specs.Sub
use Rattle.types.proofs.valid.is_varint_valid_type.Goals as goal

pub returns : goal.returns
returns c = c.is_primitive.ensures (λ sub. within Sub.U16 Sub.U64 sub || within Sub.Fixed32 Sub.Fixed64 sub) (λ sub r h. search rules)
