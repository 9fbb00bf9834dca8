-- `recorded::replay::same_buffers`: `same` counts the buffers so far, and the last of them is the whole list.
use Rattle.std.proofs.Common.{◌≡◌, ◌≤◌, length, take}
use Rattle.rules.specs.Words.{select}
use Rattle.recorded.specs.Replay.{longest, is_same, buffer_lengths, list_after}
use Rattle.recorded.proofs.replay.same_buffers.Given as goal

abbrev pub invariant-loop-len : goal.invariant-loop-len
invariant-loop-len l =
    (length l.list ≡ longest)
    × (l.len-items ≡ buffer_lengths l.case.answer.total)
    × (l.same ≤ l.len-index)
    × (l.same ≡ length (select (is_same l.case.sheet.now l.case.names.now l.case.answer l.case.violations.now) (take l.len-index l.len-items)))
    × (l.len-index ≡ 5 → l.list ≡ list_after l.case.sheet.now l.case.names.now)
