-- A part that is at fault is one of the field's type.
use Rattle.std.proofs.lemmas.Result.{err_from_is_err_and}
use Rattle.grammar.proofs.Bodies.{type_fault}
use Rattle.grammar.proofs.state.State.step.Goals as goal

pub returns-in_err-self : goal.returns-in_err-self
returns-in_err-self c =
    let p = err_from_is_err_and c.from_residual.result c.from_residual.ensures.1 in
    rw (p.1, p.2) (type_fault _ _ _ _ (c.type_goes_on.ensures c.if-type_goes_on.true) _ (rw c.in_err-self.was at c.type_part.ensures))
