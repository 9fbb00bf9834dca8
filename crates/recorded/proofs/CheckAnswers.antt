-- Every answer of a check passes `is_answer`, whatever the sheet and the names text: its list has no more than three violations for each of 1,024 records, and
-- a refusal by rows 3 to 9 is at one of them, or behind the last.
use Prim.Native.Nat.{ℕ, ◌/◌, ◌≤◌, ◌<◌}
use native.Mathlib.Decide.{dec_lt}
use native.Mathlib.Omega.{arith}
use mathlib.Core.Path.{◌≡◌, refl, sym, subst}
use mathlib.Core.Bool.{Bool, true, false, ◌||◌}
use mathlib.Core.List.{List}
use mathlib.Core.Option.{Option, some, none}
use lib.ListN.{length}
use lib.Dec.{eqb, ltb}
use borrow.Author.Tests.{le-leb, lt-leb, lt-ltb, ne_eqb}
use Rattle.rules.specs.declared.violation.Violation.{Violation}
use Rattle.rules.specs.declared.answer.AnswerValues.{AnswerValues}
use Rattle.rules.specs.Record.{record_size}
use Rattle.rules.specs.Refusals.{max_records, Fault, is_wrong_length, refusal}
use Rattle.rules.specs.Refused.{RefusedAt, by_length, at-record, at-end}
use Rattle.rules.specs.Answer.{max_total, is_accepted, full_list, total_of, errors_of, answer}
use Rattle.rules.proofs.AcceptedSheet.{short-sheet}
use Rattle.rules.proofs.Joined.{length-select}
use Rattle.rules.proofs.Bound.{list-fits}
use Rattle.rules.proofs.Faults.{refusal-row, row-positive}
use Rattle.recorded.specs.Answer.{is_index, is_answer}

-- an accepted sheet's numbers pass where its list is not too long
accepted_passes : (total errors : ℕ) → total ≤ max_total → errors ≤ total → is_answer 0 0 total errors ≡ true
unfolding is_answer
accepted_passes total errors p q = rw (is_answer, le-leb total max_total p, le-leb errors total q) refl

-- and a refusal's, on a sheet of not too many records or by rows 1 and 2
refused_passes : {count number index : ℕ} → RefusedAt count number index → (3 ≤ number → count ≤ max_records) → is_answer number index 0 0 ≡ true
unfolding is_answer is_index
refused_passes {number = number} {index = index} row short =
    rw (is_answer, ne_eqb number 0 (λ z. absurd (omega (arith, row-positive row, z))), le-leb number 9 (last row), at row short) refl
  where
    last : {count number index : ℕ} → RefusedAt count number index → number ≤ 9
    last (by_length number p q) = omega arith
    last (at-record number index p q l) = q
    last at-end = omega arith

    at : {count number index : ℕ} → RefusedAt count number index → (3 ≤ number → count ≤ max_records) → is_index number index ≡ true
    at (by_length number p q) short = rw (is_index, le-leb number 2 q) refl
    at (at-record number index p q l) short =
        rw (is_index, lt-leb number 2 p, lt-ltb index max_records (omega (arith, short p))) refl
    at {count = count} at-end short = end (dec_lt count max_records)
      where
        end : Dec (count < max_records) → (ltb count max_records || eqb count max_records) ≡ true
        end (yes l) = rw (lt-ltb count max_records l) refl
        end (no l) = let same : count ≡ max_records = omega (arith, short (omega arith)) in rw same refl

module _ (sheet names : List ℕ) where
  abbrev list : List Violation
  list = full_list sheet names

  -- rows 3 to 9 are told of sheets that row 1 lets through
  short : (f : Fault) → refusal sheet names ≡ some f → 3 ≤ f.number → length sheet / record_size ≤ max_records
  unfolding refusal
  short f e h = go (is_wrong_length sheet) refl
    where
      go : (b : Bool) → is_wrong_length sheet ≡ b → length sheet / record_size ≤ max_records
      go true w = let number : f.number ≡ 1 = cc (rw (w, refusal) at e) in absurd (omega arith)
      go false w = omega (arith, short-sheet sheet w)

  pub answer-passes : let a : AnswerValues = answer sheet names in is_answer a.number a.index a.total a.errors ≡ true
  unfolding answer
  answer-passes = go (refusal sheet names) refl
    where
      passes : AnswerValues → Type 0
      passes a = is_answer a.number a.index a.total a.errors ≡ true

      go : (o : Option Fault) → refusal sheet names ≡ o → passes (answer sheet names)
      go none e =
          let accepted : is_accepted sheet names ≡ true = rw (e, is_accepted) refl in
          let told : answer sheet names ≡ record { number = 0; index = 0; total = total_of list; errors = errors_of list } = rw (e, answer) refl in
          subst passes (sym told) (accepted_passes (total_of list) (errors_of list) (omega (arith, list-fits sheet names accepted)) (length-select _ list))
      go (some f) e =
          let told : answer sheet names ≡ record { number = f.number; index = f.index; total = 0; errors = 0 } = rw (e, answer) refl in
          subst passes (sym told) (refused_passes (refusal-row sheet names e) (short f e))
