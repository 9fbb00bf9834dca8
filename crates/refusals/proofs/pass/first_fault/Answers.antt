-- A step takes one record off those that are left, and a run behind it as many as it has.
use Rattle.std.proofs.Common.{◌∙◌, arith}
use Rattle.std.proofs.lemmas.Result.{err_from_is_err_and}
use Rattle.refusals.proofs.Passes.{pass_fault, pass_again, pass_done, pass_early, pass_starts, count_below, count_reached, none_ended, ends_all, told}
use Rattle.refusals.proofs.pass.first_fault.Goals as goal

pub loop-i-init : goal.loop-i-init
loop-i-init c = (omega arith, pass_starts _ _ _ _ _ c.start-state.ensures c.new-due.ensures, none_ended _)

pub returns-in_err-told_at : goal.returns-in_err-told_at
returns-in_err-told_at c =
    let step = told _ _ _ _ c.told_at.ensures c.in_err-told_at.was in
    let p = err_from_is_err_and c.from_residual.result c.from_residual.ensures.1 in
    rw (p.1, p.2, step.1)
    (pass_fault _ _ _ _ _ _ c.loop-i.invariant.1 _ (count_below _ _ _ c.records-n.ensures c.loop-i-test.true) (rw step.0 at c.record_step-step.ensures), tt)

pub loop-i-preserved : goal.loop-i-preserved
loop-i-preserved c =
    let ran = c.run_end-i.ensures in
    let step = told _ _ _ _ c.told_at.ensures c.in_ok-told_at.was in (
      omega (arith, ran.most, c.records-n.ensures),
      ran.same _ ∙ pass_again _ _ _ _ _ _ c.loop-i.invariant.1 _ (count_below _ _ _ c.records-n.ensures c.loop-i-test.true) (rw step at c.record_step-step.ensures),
      ran.ended _ c.newtypes_end-end.ensures,
    )

pub returns-then-may_end : goal.returns-then-may_end
returns-then-may_end c =
    let inv = c.loop-i.invariant in (
      pass_done _ _ _ _ _ _ inv.1 _ (count_reached _ _ _ c.records-n.ensures c.loop-i-test.false) c.may_end.ensures c.if-may_end.true,
      ends_all _ _ _ inv.2 _ c.records-n.ensures inv.0 c.loop-i-test.false,
    )

pub returns : goal.returns
returns c =
    let inv = c.loop-i.invariant in (
      rw c.refused_at.ensures (pass_early _ _ _ _ _ _ inv.1 _ _ (count_reached _ _ _ c.records-n.ensures c.loop-i-test.false) inv.0 c.records-n.ensures c.may_end.ensures
          c.if-may_end.false),
      tt,
    )
