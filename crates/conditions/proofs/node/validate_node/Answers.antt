-- `validate_node` goes by the record's kind.
use Rattle.std.proofs.Common.{rules, ◌≤◌, arith}
use Rattle.conditions.proofs.NodeKinds.{node_cmp, node_range, node_len, node_other}
use Rattle.conditions.proofs.node.validate_node.Goals as goal

pub returns-in-53 : goal.returns-in-53
returns-in-53 c = search (rules, node_cmp)

pub returns-in-54 : goal.returns-in-54
returns-in-54 c = search (rules, node_range)

pub returns-in-55 : goal.returns-in-55
returns-in-55 c =
    let low : 55 ≤ c.kind.result = omega arith in
    let high : c.kind.result ≤ 56 = omega arith in
    search (rules, node_len)

pub returns-then-this-lt53 : goal.returns-then-this-lt53
returns-then-this-lt53 c = node_other _ _ _ _ _ _ _ _ c.kind.ensures (λ p q. omega arith)

pub returns-else-this-lt57 : goal.returns-else-this-lt57
returns-else-this-lt57 c = node_other _ _ _ _ _ _ _ _ c.kind.ensures (λ p q. omega arith)
