-- A part that is at fault is one of the type.
use Rattle.std.proofs.Common.{rules}
use Rattle.std.proofs.lemmas.Result.{err_from_is_err_and}
use Rattle.grammar.proofs.Bodies.{inner_fault}
use Rattle.grammar.proofs.state.State.inner_step.Goals as goal

pub returns-in_err-self : goal.returns-in_err-self
returns-in_err-self c =
    let p = err_from_is_err_and c.from_residual.result c.from_residual.ensures.1 in
    rw (p.1, p.2) (inner_fault c.args.self.now c.args.due.now c.args.kind c.eq.result (search rules) _ c.if-eq-kind.false (rw c.in_err-self.was at c.type_part.ensures))
