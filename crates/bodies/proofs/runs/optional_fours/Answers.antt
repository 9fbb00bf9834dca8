-- Each four before the one that is found were asked.
use Rattle.std.proofs.Common.{◌+◌, ◌*◌, rules}
use Rattle.std.proofs.lemmas.Iterator.{first_from_Range}
use Rattle.rules.specs.Kind
use Rattle.rules.specs.Record.{is}
use Rattle.bodies.specs.Runs.{AllIn}
use Rattle.bodies.proofs.RunEnds.{fours_found}
use Rattle.bodies.proofs.runs.optional_fours.Goals as goal

pub returns : goal.returns
returns c =
    let sheet = c.args.records.context.sheet.now in
    let start = c.args.records.range.start in
    rw c.unwrap_or.ensures
    (fours_found (is Kind.Optional) sheet start c.args.records.range.end c.find.result c.args.records.ordered
    (first_from_Range _ _ _ _ (λ k. Unit {0}) (λ k. AllIn (is Kind.Optional) sheet (start + 4 * k) (start + 4 * k + 4)) c.find.ensures.ran (λ k q r. tt)
    (λ k q r. search rules)))
