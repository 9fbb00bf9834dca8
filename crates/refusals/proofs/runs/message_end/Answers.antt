-- Bit names leave the message as it is.
use Rattle.std.proofs.Common.{rules}
use Rattle.refusals.proofs.PlainRuns.{ran_bits}
use Rattle.refusals.proofs.runs.message_end.Goals as goal

pub returns-in-BitNames : goal.returns-in-BitNames
returns-in-BitNames c =
    let end = c.plain_end.ensures in
    ran_bits _ _ _ _ _ _ _ c.records.ensures c.in-BitNames.is end.inside.0 end.inside.1 (λ j a b. let p = end.plain j a b in search rules)
