-- The two kinds are read, and each way out says what they are.
use Rattle.std.proofs.Common.{rules}
use Rattle.bodies.proofs.FieldEnds.{bare-last, bare-next}
use Rattle.bodies.proofs.field.is_bare.Goals as goal

pub returns-then-next-rest : goal.returns-then-next-rest
returns-then-next-rest c = λ h. search (rules, bare-last)

pub returns : goal.returns
returns c = λ h. search (rules, bare-next)
