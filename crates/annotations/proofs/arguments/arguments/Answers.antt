-- The arguments stand up to the next annotation.
use Rattle.annotations.proofs.Views.{arguments_to}
use Rattle.annotations.proofs.arguments.arguments.Goals as goal

pub returns : goal.returns
returns c =
    arguments_to c.args.sheet.now c.args.annotation.start c.args.annotation.end _ _ _ _ c.rest-rest.ensures.view c.rest-rest.ensures.end c.unwrap_or.ensures
    c.first_annotation.ensures
