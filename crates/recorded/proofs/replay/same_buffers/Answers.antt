-- `recorded::replay::same_buffers` meets its contract: a turn counts the buffer of its length, and the last leaves the list as its call leaves it.
use Rattle.std.proofs.Common.{◌≡◌, length, get_or, take, arith}
use Rattle.std.proofs.lemmas.List.{length-take-le}
use Rattle.std.proofs.lemmas.Grind.{common_steps}
use Rattle.recorded.specs.Replay.{is_same, buffer_lengths}
use Rattle.recorded.proofs.Counts.{count_more}
use Rattle.recorded.proofs.Lengths.{length_fits, last_left}
use Rattle.recorded.proofs.replay.same_buffers.Goals as goal

pub loop-len-preserved : goal.loop-len-preserved
loop-len-preserved c =
    let case = c.args.case.now in
    let i = c.loop-len.len-index in
    let len : length (take (get_or (buffer_lengths case.answer.total) i 0) c.loop-len.list) ≡ get_or (buffer_lengths case.answer.total) i 0
    = length-take-le _ _ (omega (arith, length_fits case.answer.total i)) in
    let more = count_more (is_same case.sheet.now case.names.now case.answer case.violations.now) c.buffer_lengths-len-items.result i 0 (omega arith) in
    let last = last_left case.sheet.now case.names.now c.loop-len.list case.answer.total i in
    grind (arith, common_steps)
