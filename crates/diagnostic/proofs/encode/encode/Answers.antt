-- The library's bytes of class, offset and length are the definition's.
use Rattle.std.proofs.Common.{arith}
use Rattle.rules.specs.Buffer.{encode}
use Rattle.rules.specs.Words.{bytes}
use Rattle.diagnostic.proofs.encode.encode.Goals as goal

pub returns : goal.returns
unfolding encode bytes
returns c = rw (c.to_le_bytes-class.ensures, c.to_le_bytes-offset.ensures, c.to_le_bytes-len.ensures) (grind arith)
