-- An argument that is no number without a key is passed over; of one that is, the two rules are asked in turn.
use Rattle.std.proofs.Common.{rules}
use Rattle.annotations.proofs.Limits.{limit-passed, limit-judged}
use Rattle.annotations.proofs.limit.check_argument.Goals as goal

pub returns-then-not-is_number : goal.returns-then-not-is_number
returns-then-not-is_number c = limit-passed _ _ _ _ _ _ _ c.is_number.ensures _ c.if-not-is_number.true

pub returns : goal.returns
returns c =
    limit-judged _ _ _ _ _ _ _ c.is_number.ensures _ _ _ _ _ c.if-not-is_number.false c.value-value.ensures (search rules) c.tell_if.ensures c.tell_if-2.ensures
