-- A turn of the loop is rule 22 at record `i`: the test tells of one that is compared, and another is passed over.
use Rattle.std.proofs.Common.{rules, of_calls, arith, ◌∙◌}
use Rattle.diagnostic.proofs.Added.{adds_none}
use Rattle.types.proofs.Left.{leaves_all}
use Rattle.annotations.proofs.Repeats.{duplicates_all, duplicates-turn, duplicates_end, met-repeats, other-repeats}
use Rattle.annotations.proofs.duplicates.check_met.Goals as goal
use Rattle.annotations.proofs.duplicates.check_met.Goals.{then-is_compared, else-is_compared}

pub loop-i-init : goal.loop-i-init
loop-i-init g c = (c.requires, λ rows row tells. (row, rw duplicates_all (leaves_all _ _)))

pub loop-i-preserved : goal.loop-i-preserved
loop-i-preserved g c =
    elim c.if-is_compared.branch [
      | then-is_compared w ↦ (
        rw w.is_met-is (search (rules, of_calls)),
        λ rows row tells.
            let before = c.loop-i.invariant.1 rows row tells in
            let told = tells _ _ _ _ (omega arith) w.is_met-duplicate.ensures in (
              rw w.is_met-is (told.1 ∙ before.0),
              rw w.violations-is
                  (duplicates-turn _ _ _ _ _ c.loop-i.violations _ _ _ _ c.loop-i.auto.i c.loop-i-test.true
                  (met-repeats _ _ _ _ _ _ _ before.0 c.is_compared.ensures w.if-is_compared.true told.0) before.1 w.tell_if.ensures),
            ),
      )
      | else-is_compared w ↦ (
        rw w.is_met-is c.loop-i.invariant.0,
        λ rows row tells.
            let before = c.loop-i.invariant.1 rows row tells in (
              rw w.is_met-is before.0,
              rw w.violations-is
                  (duplicates-turn _ _ _ _ _ c.loop-i.violations c.loop-i.violations _ _ _ c.loop-i.auto.i c.loop-i-test.true
                  (other-repeats _ _ _ _ _ c.is_compared.ensures w.if-is_compared.false) before.1 (adds_none _)),
            ),
      )
    ]

pub returns : goal.returns
returns g c = λ rows row tells. duplicates_end _ _ _ _ _ _ _ _ c.loop-i-test.false (c.loop-i.invariant.1 rows row tells).1
