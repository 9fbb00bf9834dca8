-- A sheet that is accepted has its violations listed, in the list that was lent.
use Rattle.std.proofs.Common.{◌≡◌, arith, ap, ◌∙◌}
use Rattle.std.proofs.Math.Option.{none}
use Rattle.rules.specs.Refusals.{refusal}
use Rattle.diagnostic.specs.Push.{push_found}
use Rattle.validate.proofs.Answers.{accepted_told, accepted_listed}
use Rattle.validate.proofs.whole.check.Goals as goal

pub returns : goal.returns
returns c =
    let told : refusal c.args.sheet.now c.args.names.now ≡ none = grind arith in
    let listed = c.check_declaration.ensures.state ∙ ap (push_found _) c.new-violations.ensures.state in
    let answered = accepted_told _ _ _ _ _ _ told c.accept.ensures.ends listed in
    let left = accepted_listed _ _ _ _ _ _ told c.accept.ensures.ends listed in
    grind arith
