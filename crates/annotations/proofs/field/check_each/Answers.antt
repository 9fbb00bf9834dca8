-- A record that is no annotation is passed over.
use Rattle.annotations.proofs.Fields.{each-found, each-other, each-end}
use Rattle.annotations.proofs.field.check_each.Goals as goal
use Rattle.annotations.proofs.field.check_each.Goals.{then-is_annotation, else-is_annotation}

pub loop-i-preserved : goal.loop-i-preserved
loop-i-preserved c =
    elim c.if-is_annotation.branch [
      | then-is_annotation w ↦
          rw w.violations-is
          (each-found c.args.context c.args.ty _ _ _ c.loop-i.violations _ _ _ c.loop-i-test.true c.is_annotation.ensures w.if-is_annotation.true c.loop-i.invariant
          (rw w.starting_at.ensures at w.check_annotation.ensures))
      | else-is_annotation w ↦
          rw w.violations-is
          (each-other c.args.context c.args.ty _ _ _ _ _ _ c.loop-i-test.true c.is_annotation.ensures w.if-is_annotation.false c.loop-i.invariant)
    ]

pub returns : goal.returns
returns c = each-end c.args.context c.args.ty _ _ _ _ _ c.loop-i-test.false c.loop-i.invariant
