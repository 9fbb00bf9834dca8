-- Imported names between the items of the context leave it as it is.
use Rattle.std.proofs.Common.{sym, ◌∙◌, rules}
use Rattle.refusals.proofs.PlainRuns.{ran_imports}
use Rattle.refusals.proofs.runs.context_end.Goals as goal

pub returns-in-Between : goal.returns-in-Between
returns-in-Between c =
    let end = c.plain_end.ensures in
    ran_imports _ _ _ _ _ _ _ c.records.ensures (sym c.is_empty.ensures ∙ c.if-is_empty.true) c.in-Between.is end.inside.0 end.inside.1 (λ j a b. let p = end.plain j a b in search rules)
