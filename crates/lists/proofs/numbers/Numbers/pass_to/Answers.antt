-- A record that is no item changes nothing, and of another the ordinal is kept.
use Rattle.std.proofs.Common.{arith}
use Rattle.lists.proofs.Passing.{known-other}
use Rattle.lists.proofs.ReadKinds.{kind-is, kind-not, is-numbered}
use Rattle.lists.proofs.numbers.Numbers.pass_to.Goals as goal

pub returns-then-kind_within-item : goal.returns-then-kind_within-item
returns-then-kind_within-item c =
    rw c.if-end-start.true
    (known-other _ _ _ _ _ _ _ _ _ _ c.requires.known (omega arith) (kind-not _ _ _ _ c.kind_within.ensures c.if-kind_within-item.true))

pub loop-i-preserved-then-kind_within-item-2 : goal.loop-i-preserved-then-kind_within-item-2
loop-i-preserved-then-kind_within-item-2 c =
    known-other _ _ _ _ _ _ _ _ _ _ c.loop-i.invariant (omega arith) (kind-not _ _ _ _ c.kind_within-in-loop-i.ensures c.if-kind_within-item-2.true)

pub pass-requires-clause-item : goal.pass-requires-clause-item
pass-requires-clause-item c =
    let read = c.kind_within-in-loop-i.ensures in
    let item = c.if-kind_within-item-2.false in
    (omega arith, kind-is _ _ _ _ read item, is-numbered c.args.list.now.records.context.sheet.now c.loop-i.i _ _ read item c.args.list.now.numbered)
