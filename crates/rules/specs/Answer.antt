-- What a call answers: a refusal with its index, or the total and the errors of the full list.
use Rattle.std.specs.Prelude.{ℕ, ◌*◌, Bool, true, false, List, map, length, eqb}
use Rattle.std.proofs.Math.Option.{some, none}
use Rattle.rules.specs.declared.span.Span.{Span}
use Rattle.rules.specs.declared.violation.Violation.{Violation}
use Rattle.std.specs.Prelude.{Result, Ok, Err}
use Rattle.rules.specs.declared.answer.Counts.{Counts}
use Rattle.rules.specs.declared.answer.Refused.{Refused}
use Rattle.rules.specs.declared.answer.Refusal.{Refusal}
use Rattle.rules.specs.declared.answer.Refusal.TheVariants.{SheetLength, NamesLength, Unknown, NameRange, OrdinalRange, OutOfOrder, TooDeep, SecondDeclaration, EndlessChain}
use Rattle.rules.specs.declared.answer.AnswerValues.{AnswerValues}
use Rattle.rules.specs.Words.{select}
use Rattle.rules.specs.Record.{records}
use Rattle.rules.specs.Context.{context_of}
use Rattle.rules.specs.Refusals.{max_records, refusal}
use Rattle.rules.specs.Rule.{Found, violation, error}
use Rattle.rules.specs.Bodies.{violations_of}

-- the full list, as rules and places: "every violation by the rules .., in their order, whatever the buffer"
unfoldable pub found_in : List ℕ → List ℕ → List (Found Span)
found_in sheet names = let rs = records sheet names in violations_of (context_of rs) rs

-- the full list
unfoldable pub full_list : List ℕ → List ℕ → List Violation
full_list sheet names = map violation (found_in sheet names)

-- total and errors: the list's length, and how many of it have severity 0
abbrev pub total_of : List Violation → ℕ
total_of vs = length vs

abbrev pub errors_of : List Violation → ℕ
errors_of vs = length (select (λ v. eqb v.severity error) vs)

-- "at most 3 times the records"
abbrev pub most_per_record : ℕ
most_per_record = 3

-- the greatest total
abbrev pub max_total : ℕ
max_total = most_per_record * max_records

-- the sheet and the names text are accepted
abbrev pub is_accepted : List ℕ → List ℕ → Bool
is_accepted sheet names = elim (refusal sheet names) [ none ↦ true | some f ↦ false ]

-- "number, record index .., total 0, errors 0"; "Accepted: number 0, index 0, total, errors"
unfoldable pub answer : List ℕ → List ℕ → AnswerValues
answer sheet names =
    elim (refusal sheet names) [
      | some f ↦ record { number = f.number; index = f.index; total = 0; errors = 0 }
      | none ↦ let vs : List Violation = full_list sheet names in record { number = 0; index = 0; total = total_of vs; errors = errors_of vs }
    ]

-- the number of each refusal
abbrev pub number_of : Refusal → ℕ
number_of SheetLength = 1
number_of NamesLength = 2
number_of Unknown = 3
number_of NameRange = 4
number_of OrdinalRange = 5
number_of OutOfOrder = 6
number_of TooDeep = 7
number_of SecondDeclaration = 8
number_of EndlessChain = 9

-- the numbers of each answer that code gives: promises say `values_of r ≡ answer sheet names`
abbrev pub values_of : Result Counts Refused → AnswerValues
values_of (Ok counts) = record { number = 0; index = 0; total = counts.total; errors = counts.errors }
values_of (Err refused) = record { number = number_of refused.refusal; index = refused.index; total = 0; errors = 0 }
