use Rattle.std.proofs.Common.{rules}
use Rattle.rules.specs.Kind
use Rattle.rules.specs.Record.{is}
use Rattle.names.specs.View.{view_at}
use Rattle.types.proofs.Views.{first_says}
use Rattle.types.proofs.Left.{leaves_all, leaves_rest, leaves_none}
use Rattle.types.proofs.BitNames.{bit-rules, bit-next, bit-over, bit-end}
use Rattle.types.proofs.bits.check_bits.Goals as goal

pub loop-bit-init : goal.loop-bit-init
unfolding view_at
loop-bit-init c =
    let named = first_says c.args.context.sheet.now c.args.rest (is Kind.BitName) c.is_some_and-named.result (search rules) in
    leaves_rest _ _ _ _ _ _ _ (leaves_all _ _) (rw named (bit-rules _ _ _)) c.tell_if.ensures

pub returns-then-kind-ne-BIT_NAME : goal.returns-then-kind-ne-BIT_NAME
returns-then-kind-ne-BIT_NAME c = leaves_none _ _ _ _ c.loop-bit.invariant (bit-over _ _ _ _ _ (search rules) (search rules))

pub loop-bit-preserved : goal.loop-bit-preserved
unfolding view_at
loop-bit-preserved c =
    leaves_rest _ _ _ _ _ _ _ c.loop-bit.invariant (bit-next _ _ _ _ _ (search rules) (search rules))
    (rw c.is_valid_field_name-valid.ensures at c.tell_if-in-loop-bit.ensures)

pub returns : goal.returns
returns c = leaves_none _ _ _ _ c.loop-bit.invariant (bit-end _ _ _ _ _ c.loop-bit-test.false)
