-- The lines of the check's own answer and buffer are all that the program prints: the buffer holds the whole list, which is read back, and
-- only a refusal has another number than 0.
use Prim.Native.Nat.{ℕ, ◌*◌, ◌≤◌, ◌<◌}
use mathlib.Core.Path.{◌≡◌, refl, ◌∙◌, ap}
use mathlib.Core.List.{List, ◌++◌, flat_map}
use mathlib.Core.Option.{Option, some, none}
use native.Mathlib.Omega.{arith}
use borrow.Author.Tests.{ne_eqb}
use lib.ListN.{length, get_or, take}
use lib.Seq.{take-length}
use Rattle.rules.specs.declared.violation.Violation.{Violation}
use Rattle.rules.specs.Refusals.{Fault, refusal}
use Rattle.rules.specs.Answer.{answer, is_accepted, full_list, total_of, errors_of}
use Rattle.rules.specs.Buffer.{violation_size, max_list_size, buffer_after, written, decode_list, written_of}
use Rattle.rules.specs.Printed.{printed, violation_line, counts_line}
use Rattle.rules.proofs.Bound.{list-fits}
use Rattle.rules.proofs.Faults.{refusal-row, row-positive}
use Rattle.rules.proofs.Encoding.{full-list-encodable, decode-written, length-written}
use Rattle.report.specs.Lines.{told_of, violation_lines, lines_of}

module _ (sheet names old : List ℕ) (bytes : (i : ℕ) → get_or sheet i 0 < 256) (room : max_list_size ≤ length old) where
  abbrev full : List Violation
  full = full_list sheet names

  -- of an accepted sheet the whole list is told
  all_told : refusal sheet names ≡ none → violation_lines (told_of (total_of full) (length (written full old))) (written full old) ≡ flat_map violation_line full
  unfolding violation_lines
  all_told e =
      let fits : violation_size * length full ≤ max_list_size = list-fits sheet names (rw (e, is_accepted)) in
      let all : written_of (length full) (length old) ≡ length full = omega arith in
      let kept : length (written full old) ≡ length old = length-written full old in
      let told : told_of (length full) (length (written full old)) ≡ written_of (length full) (length old) = omega arith in
      ap
      (flat_map violation_line)
      (ap (λ (n : ℕ). decode_list n (written full old)) told
      ∙ decode-written full old (full-list-encodable sheet names bytes)
      ∙ ap (λ (n : ℕ). take n full) all
      ∙ take-length full)

  -- the lines are what the program prints
  pub lines-printed : lines_of (answer sheet names) (buffer_after sheet names old) ≡ printed sheet names
  unfolding lines_of answer buffer_after printed
  lines-printed = go (refusal sheet names) refl
    where
      go : (o : Option Fault) → refusal sheet names ≡ o → lines_of (answer sheet names) (buffer_after sheet names old) ≡ printed sheet names
      go none e = rw (e, answer, buffer_after, printed) (ap (λ lines. lines ++ counts_line (total_of full) (errors_of full)) (all_told e))
      go (some f) e = rw (e, answer, buffer_after, printed) (rw (ne_eqb f.number 0 (λ z. absurd (omega (arith, row-positive (refusal-row sheet names e), z))), lines_of))
