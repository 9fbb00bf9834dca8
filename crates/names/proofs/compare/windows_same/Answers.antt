-- A window that fails ends within the names.
use Rattle.std.proofs.Common.{arith}
use Rattle.std.proofs.lemmas.Grind.{common_steps}
use Rattle.sheet.proofs.Windows.{window-fails}
use Rattle.names.proofs.compare.windows_same.Goals as goal

pub returns-then-not-window_same-2 : goal.returns-then-not-window_same-2
returns-then-not-window_same-2 c = window-fails _ _ _ _ _ c.window_same-in-loop-k.ensures c.if-not-window_same-2.true (grind (arith, common_steps))
