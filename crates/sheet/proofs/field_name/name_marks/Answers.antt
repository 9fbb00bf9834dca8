-- `sheet::field_name::name_marks` meets its contract: the constant table passes the test of all its entries, so it has the marks.
use Rattle.sheet.specs.Mark.{name_mark}
use Rattle.sheet.proofs.Below.{passes_below}
use Rattle.sheet.proofs.Marks.{marks_bytes, has-marks}
use Rattle.sheet.proofs.field_name.name_marks.Goals as goal

pub returns : goal.returns
unfolding marks_bytes passes_below name_mark
returns c = has-marks _ tt
