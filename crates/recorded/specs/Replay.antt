-- When the check gives a recorded answer and list again.
use Rattle.std.specs.Prelude.{ℕ, ◌+◌, ◌*◌, ◌/◌, min, Bool, ◌&&◌, List, [], ◌∷◌, length, eqb}
use Rattle.rules.specs.declared.answer.AnswerValues.{AnswerValues}
use Rattle.rules.specs.Words.{select, same_bytes}
use Rattle.rules.specs.Kind
use Rattle.rules.specs.Sub
use Rattle.rules.specs.Record.{records, is_of}
use Rattle.rules.specs.Answer.{max_total, answer}
use Rattle.rules.specs.Buffer.{violation_size, max_list_size, buffer_after}
use Rattle.recorded.specs.Answer.{same_values}
use Rattle.recorded.specs.Buffer.{marks, recorded_after}

-- the answer is the recorded one, and so is every byte of a buffer of n bytes
unfoldable pub is_same : List ℕ → List ℕ → AnswerValues → List ℕ → ℕ → Bool
is_same sheet names told violations n =
    same_values told (answer sheet names)
    && same_bytes (recorded_after violations (marks n)) (buffer_after sheet names (marks n))

-- the length of the longest buffer: more than any list has
abbrev pub longest : ℕ
longest = max_list_size + 29

-- the lengths of five buffers for so many violations: none, some whole records too few, the next record cut, just enough, and the longest
unfoldable pub buffer_lengths : ℕ → List ℕ
buffer_lengths total =
    let k : ℕ = min total max_total in
    0 ∷ (violation_size * (k / 2)) ∷ (violation_size * (k / 2) + 7) ∷ (violation_size * k) ∷ longest ∷ []

-- how many of the five are the same
unfoldable pub same_buffers : List ℕ → List ℕ → AnswerValues → List ℕ → ℕ
same_buffers sheet names told violations = length (select (is_same sheet names told violations) (buffer_lengths told.total))

-- the list that the five are parts of, after the calls: all of it was filled for the last call, and is what that call left
unfoldable pub list_after : List ℕ → List ℕ → List ℕ
list_after sheet names = buffer_after sheet names (marks longest)

-- how many records of a sheet are of that kind and sub
unfoldable pub records_of : ℕ → ℕ → List ℕ → ℕ
records_of kind sub sheet = length (select (is_of kind sub) (records sheet []))

-- a message with one field
unfoldable pub is_single_field : List ℕ → Bool
is_single_field sheet = eqb (records_of Kind.Head Sub.MessageHead sheet) 1 && eqb (records_of Kind.Field 0 sheet) 1
