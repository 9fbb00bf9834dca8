-- What the four numbers of an answer can be.
use Rattle.std.specs.Prelude.{ℕ, Bool, true, false, ◌&&◌, ◌||◌, eqb, leb, ltb}
use Rattle.rules.specs.declared.answer.AnswerValues.{AnswerValues}
use Rattle.rules.specs.Refusals.{max_records}
use Rattle.rules.specs.Answer.{max_total}

-- the index of a refusal: 0 by rows 1 and 2, else a record's, or the count of the records for an early end, which is row 6
unfoldable pub is_index : ℕ → ℕ → Bool
is_index number index =
    elim (leb number 2) [
      | true ↦ eqb index 0
      | false ↦ ltb index max_records || (eqb number 6 && eqb index max_records)
    ]

-- number 0 with index 0, a total that a list can have and no more errors, or a refusal from 1 to 9 with an index and neither
unfoldable pub is_answer : ℕ → ℕ → ℕ → ℕ → Bool
is_answer number index total errors =
    elim (eqb number 0) [
      | true ↦ eqb index 0 && leb total max_total && leb errors total
      | false ↦ leb number 9 && is_index number index && eqb total 0 && eqb errors 0
    ]

-- both answers have the same numbers
abbrev pub same_values : AnswerValues → AnswerValues → Bool
same_values a b = eqb a.number b.number && eqb a.index b.index && eqb a.total b.total && eqb a.errors b.errors
