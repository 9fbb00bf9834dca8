-- `program::text::lines` meets its contract: the list has the bytes that always hold every violation.
use Rattle.std.proofs.Common.{◌≡◌, ◌<◌, ◌≤◌, ℕ, List, length, get_or, arith}
use Rattle.rules.specs.declared.answer.AnswerValues.{AnswerValues}
use Rattle.rules.specs.Buffer.{max_list_size}
use Rattle.rules.specs.Printed.{printed}
use Rattle.validate.specs.Answered.{Answered}
use Rattle.report.specs.Lines.{lines_of}
use Rattle.report.proofs.Printed.{lines-printed}
use Rattle.program.proofs.text.lines.Goals as goal

all-printed :
    (sheet names old list : List ℕ) (values : AnswerValues) → ((i : ℕ) → get_or sheet i 0 < 256) →
    Answered sheet names old values list → max_list_size ≤ length old → lines_of values list ≡ printed sheet names
all-printed sheet names old list values bytes a room = rw (a.0, a.1) (lines-printed sheet names old bytes room)

pub returns : goal.returns
returns c =
    let checked = c.vexil_check-values.ensures in
    rw (all-printed _ _ _ _ _ checked.bytes checked.answered (omega arith)) at c.report.ensures
