-- `validate_where_operand` adds what the one rule for the operand finds.
use Rattle.std.proofs.Common.{rules}
use Rattle.names.specs.View.{view_at}
use Rattle.names.specs.Known.{context_in}
use Rattle.conditions.specs.Taken.{taken, operand_found}
use Rattle.conditions.proofs.OperandRules.{operand_none, operand_other, operand_told}
use Rattle.conditions.proofs.operand.validate_where_operand.Goals as goal
use Rattle.conditions.proofs.operand.validate_where_operand.Goals.{in-Int, in-Float, in-String, in-Bool, in-ConstRef}

pub returns-then-kind-ne-OPERAND : goal.returns-then-kind-ne-OPERAND
returns-then-kind-ne-OPERAND c = search (rules, operand_none)

pub returns-in_default : goal.returns-in_default
returns-in_default c = operand_other _ _ _ _ _ _ c.kind.ensures c.if-kind-ne-OPERAND.false _ c.sub.ensures _ c.with_sub.ensures c.in_default.is

pub returns : goal.returns
unfolding view_at operand_found
returns c =
    operand_told (context_in c.args.context) (taken c.args.literals) c.args.context.sheet.now c.args.i _ _ c.kind.ensures c.if-kind-ne-OPERAND.false _ c.sub.ensures _ c.with_sub.ensures _ _ c.in-Some.is
    (elim c.match-operand.branch [
      | in-Int w ↦ search rules
      | in-Float w ↦ search rules
      | in-String w ↦ search rules
      | in-Bool w ↦ search rules
      | in-ConstRef w ↦ search rules
    ])
