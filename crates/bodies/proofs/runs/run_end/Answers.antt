-- Each record is asked by its kind.
use Rattle.std.proofs.Common.{◌∙◌, ap}
use Rattle.std.proofs.Math.Bool.{not}
use Rattle.names.specs.View.{view_at}
use Rattle.bodies.proofs.RunEnds.{none_passed, passed-next, passed-end, passed-all}
use Rattle.bodies.proofs.runs.run_end.Goals as goal

pub loop-i-init : goal.loop-i-init
loop-i-init g c = λ p h. none_passed _ _ _ _

pub returns-then-not-is_in-clause-run : goal.returns-then-not-is_in-clause-run
unfolding view_at
returns-then-not-is_in-clause-run g c =
    λ p h. passed-end _ _ _ _ _ (c.loop-i.invariant p h) _ c.loop-i-test.true (h _ _ c.is_in.ensures ∙ ap p c.kind.ensures) (ap not c.if-not-is_in.true)

pub loop-i-preserved : goal.loop-i-preserved
unfolding view_at
loop-i-preserved g c =
    λ p h. passed-next _ _ _ _ _ (c.loop-i.invariant p h) _ c.loop-i-test.true (h _ _ c.is_in.ensures ∙ ap p c.kind.ensures) (ap not c.if-not-is_in.false)

pub returns-clause-run : goal.returns-clause-run
returns-clause-run g c = λ p h. passed-all _ _ _ _ _ (c.loop-i.invariant p h) c.loop-i-test.false
