-- The last entry says how deep the first part is.
use Rattle.grammar.proofs.PartSteps.{room-none, room-type, room-other}
use Rattle.grammar.proofs.due.Due.room.Goals as goal

pub returns-then-self-eq0 : goal.returns-then-self-eq0
returns-then-self-eq0 c = room-none _ _ _ c.self.view_is c.if-self-eq0.true

pub returns-in-TypeExpr : goal.returns-in-TypeExpr
returns-in-TypeExpr c = room-type _ _ _ c.self.view_is c.if-self-eq0.false c.in-TypeExpr.is

pub returns-in_default : goal.returns-in_default
returns-in_default c = room-other _ _ _ c.self.view_is c.if-self-eq0.false c.in_default.not-TypeExpr
