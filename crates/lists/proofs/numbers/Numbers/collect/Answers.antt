-- Each record, from the last on, is a tombstone that is kept, or changes nothing.
use Rattle.std.proofs.Common.{sym, arith}
use Rattle.lists.proofs.Collecting.{collected-none, collected-other, collected-out, collected-kept, collected-all}
use Rattle.lists.proofs.Passing.{known_start}
use Rattle.lists.proofs.numbers.Numbers.collect.Goals as goal

pub loop-i-init : goal.loop-i-init
loop-i-init c = collected-none _ _ _ _ _ _ (omega arith) (omega arith) c.args.list.now.records.ordered

pub loop-i-preserved-then-kind_within-tombstone : goal.loop-i-preserved-then-kind_within-tombstone
loop-i-preserved-then-kind_within-tombstone c =
    collected-other _ _ _ _ _ _ _ _ _ c.loop-i.invariant c.loop-i-test.true c.kind_within.ensures c.if-kind_within-tombstone.true

pub loop-i-preserved-in_default : goal.loop-i-preserved-in_default
loop-i-preserved-in_default c =
    collected-out _ _ _ _ _ _ _ _ _ c.loop-i.invariant c.loop-i-test.true c.kind_within.ensures _ c.if-kind_within-tombstone.false c.value.ensures (omega arith)

pub loop-i-preserved : goal.loop-i-preserved
loop-i-preserved c =
    collected-kept _ _ _ _ _ _ _ _ _ c.loop-i.invariant c.loop-i-test.true c.kind_within.ensures _ _ _ _ _ c.args.list.now.records.few c.if-kind_within-tombstone.false
    c.value.ensures (omega arith) c.in-Ok.ensures.1 c.keep.ensures.ordinals c.keep.ensures.marks c.keep.ensures.len

pub returns : goal.returns
returns c =
    let all = collected-all _ _ _ _ _ _ _ _ c.loop-i.invariant c.loop-i-test.false in
    known_start _ _ _ _ _ _ _ _ (λ same. c.args.list.now.apart (sym same)) c.args.list.now.records.few all.0 all.1 all.3 all.4
