-- The lines that are told of an answer and its list, for every answer and every list.
use Rattle.std.specs.Prelude.{ℕ, ◌+◌, ◌*◌, min, true, false, length, eqb}
use mathlib.Core.List.{List, [], ◌∷◌, ◌++◌, flat_map}
use Rattle.rules.specs.declared.answer.AnswerValues.{AnswerValues}
use Rattle.rules.specs.Answer.{max_total}
use Rattle.rules.specs.Buffer.{decode_list, written_of}
use Rattle.rules.specs.Printed.{decimal, violation_line, counts_line, refusal_line}

-- how many violations are told of so many, in a list of that length: those that are written, and no more than any sheet's list has
abbrev pub told_of : ℕ → ℕ → ℕ
told_of total len = min max_total (written_of total len)

-- the bytes of the longest line
abbrev pub max_line : ℕ
max_line = 35

-- the bytes of the longest text: so many violations and the counts, a line for each
abbrev pub max_text : ℕ
max_text = max_line * (max_total + 1)

-- the lines of the first n violations of a list
unfoldable pub violation_lines : ℕ → List ℕ → List ℕ
violation_lines n list = flat_map violation_line (decode_list n list)

-- a line of two numbers, each behind its text
unfoldable pub pair_line : List ℕ → ℕ → List ℕ → ℕ → List ℕ
pair_line first a second b = first ++ decimal a ++ second ++ decimal b ++ (10 ∷ [])

-- a line for each violation that is told, and the counts; or the refusal
unfoldable pub lines_of : AnswerValues → List ℕ → List ℕ
lines_of values list =
    elim (eqb values.number 0) [
      | true ↦ violation_lines (told_of values.total (length list)) list ++ counts_line values.total values.errors
      | false ↦ refusal_line values.number values.index
    ]
