-- What a call of the entry answers, and the list buffer after it.
use Rattle.std.specs.Prelude.{ℕ, ◌<◌, ◌≡◌, List, length, get_or}
use Rattle.rules.specs.declared.answer.AnswerValues.{AnswerValues}
use Rattle.rules.specs.Answer.{answer}
use Rattle.rules.specs.Buffer.{written_of, buffer_after}

-- a call on a sheet, a names text and a list buffer, the numbers that it answers, and the buffer at its exit
abbrev pub Answered : List ℕ → List ℕ → List ℕ → AnswerValues → List ℕ → Type 0
Answered sheet names old r exit = (r ≡ answer sheet names) × (exit ≡ buffer_after sheet names old)

-- the list is one of bytes, as the contents of every slice of u8 are
abbrev pub IsBytes : List ℕ → Type 0
IsBytes bytes = (i : ℕ) → get_or bytes i 0 < 256

-- how many violations a call writes into a buffer: "The first min(total, whole records of the buffer)"
abbrev pub written_by : AnswerValues → List ℕ → ℕ
written_by r old = written_of r.total (length old)
