-- Each record that is passed over is one that the test lets pass.
use Rattle.std.specs.Prelude.{⊤}
use Rattle.std.proofs.Common.{rules, true}
use Rattle.std.proofs.lemmas.Iterator.{first_from_Range, serves_from_Range}
use Rattle.refusals.proofs.PlainRuns.{found_end}
use Rattle.refusals.proofs.runs.plain_end.Goals as goal

pub find-requires-clause-callable : goal.find-requires-clause-callable
find-requires-clause-callable g c = serves_from_Range (λ x q k. search rules) (λ x low high. search rules)

pub returns-clause-plain : goal.returns-clause-plain
returns-clause-plain g c =
    found_end _ _ _ _ _ c.unwrap_or.ensures (first_from_Range _ _ _ _ (λ j. ⊤) (λ j. goal.F-post g c.args.is_plain j true) c.find.ensures.ran (λ x q k. tt) (λ x q k. search rules))
