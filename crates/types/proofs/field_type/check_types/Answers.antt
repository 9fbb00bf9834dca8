use Rattle.std.proofs.Common.{sym, ◌∙◌, arith, leb-true}
use Rattle.types.specs.Due.{stack_of}
use Rattle.types.proofs.Left.{leaves_all}
use Rattle.types.proofs.Walk.{types_told, types_end, types_done}
use Rattle.types.proofs.field_type.check_types.Goals as goal

pub loop-i-init : goal.loop-i-init
unfolding stack_of
loop-i-init c = record { few = omega arith; left = leaves_all _ _ }

pub returns-then-is_empty : goal.returns-then-is_empty
returns-then-is_empty c =
    types_end _ _ _ _ _ _ _ _
    (types_told _ _ _ _ _ _ _ _ c.loop-i.invariant.left _ c.loop-i-test.true (sym c.is_passed.ensures ∙ c.if-is_passed.false) (rw c.starting_at-rest.ensures at c.check_due_type.ensures))
    (leb-true _ _ (sym (rw c.starting_at-rest.ensures at c.is_empty.ensures) ∙ c.if-is_empty.true))

pub returns-then-is_empty-2 : goal.returns-then-is_empty-2
returns-then-is_empty-2 c =
    types_done _ _ _ _ _ _ _ _
    (types_told _ _ _ _ _ _ _ _ c.loop-i.invariant.left _ c.loop-i-test.true (sym c.is_passed.ensures ∙ c.if-is_passed.false) (rw c.starting_at-rest.ensures at c.check_due_type.ensures))
    c.after-due.result
    (rw c.kind-kind.ensures at c.after-due.ensures.stack)
    (sym c.is_empty-in-loop-i.ensures ∙ c.if-is_empty-2.true)

pub loop-i-preserved : goal.loop-i-preserved
loop-i-preserved c =
    record {
      few = omega arith;
      left =
          rw (c.after-due.ensures.stack, c.kind-kind.ensures)
          (types_told _ _ _ _ _ _ _ _ c.loop-i.invariant.left _ c.loop-i-test.true (sym c.is_passed.ensures ∙ c.if-is_passed.false) (rw c.starting_at-rest.ensures at c.check_due_type.ensures));
    }
