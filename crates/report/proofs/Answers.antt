-- The lines of an answer are the lines that the answer's number asks for.
use Prim.Native.Nat.{ℕ}
use mathlib.Core.Path.{◌≡◌, refl}
use mathlib.Core.List.{List, [], ◌∷◌, ◌++◌}
use borrow.Author.Tests.{eq-eqb, ne_eqb}
use lib.ListN.{length}
use Rattle.rules.specs.declared.answer.AnswerValues.{AnswerValues}
use Rattle.rules.specs.Printed.{counts_line, refusal_line}
use Rattle.report.specs.Lines.{told_of, violation_lines, pair_line, lines_of}

module _ (values : AnswerValues) (list : List ℕ) where
  -- `refused N at I`
  pub refused-lines :
      (values.number ≡ 0 → ⊥) →
      lines_of values list
      ≡ pair_line (114 ∷ 101 ∷ 102 ∷ 117 ∷ 115 ∷ 101 ∷ 100 ∷ 32 ∷ []) values.number (32 ∷ 97 ∷ 116 ∷ 32 ∷ []) values.index
  unfolding lines_of pair_line refusal_line
  refused-lines n = rw (ne_eqb _ _ n, lines_of) refl

  -- the violations, and `total N errors M`
  pub accepted-lines :
      values.number ≡ 0 →
      lines_of values list
      ≡ violation_lines (told_of values.total (length list)) list
      ++ pair_line
      (116 ∷ 111 ∷ 116 ∷ 97 ∷ 108 ∷ 32 ∷ [])
      values.total
      (32 ∷ 101 ∷ 114 ∷ 114 ∷ 111 ∷ 114 ∷ 115 ∷ 32 ∷ [])
      values.errors
  unfolding lines_of pair_line counts_line
  accepted-lines z = rw (eq-eqb _ _ z, lines_of) refl
