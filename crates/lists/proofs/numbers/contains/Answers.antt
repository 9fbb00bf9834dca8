-- The library asks a few numbers, and the windows leave no gap in more.
use Rattle.std.proofs.Common.{◌≡◌, ◌+◌, ◌-◌, ◌*◌, length, refl, arith}
use Rattle.lists.proofs.Marks.{few-all, windows-none, windows-next, windows-all}
use Rattle.lists.proofs.numbers.contains.Goals as goal

pub returns-then-count-lt8 : goal.returns-then-count-lt8
returns-then-count-lt8 c = few-all c.args.numbers.now c.args.number _ c.contains.ensures.value

pub loop-i-init : goal.loop-i-init
loop-i-init c = windows-none _ _ _ _

pub loop-i-preserved : goal.loop-i-preserved
loop-i-preserved c =
    let here : 0 + c.loop-i.i ≡ c.loop-i.i = omega arith in
    rw here at (windows-next c.args.numbers.now c.args.number 0 _ c.loop-i.i c.loop-i.found c.loop-i.invariant)

pub returns : goal.returns
returns c =
    let size = length c.args.numbers.now in
    let whole : size - 0 ≡ size = omega arith in
    rw whole at
    (windows-all c.args.numbers.now c.args.number 0 size (c.div_ceil-window.result * 8) _ c.loop-i.i _ (omega arith) c.loop-i.invariant (omega arith) (omega arith) (omega arith)
    (omega arith) refl)
