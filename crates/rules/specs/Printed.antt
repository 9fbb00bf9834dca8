-- What the program prints: "a line per violation (class, E or W, offset, length), then total and errors; or `refused N at I`".
use Rattle.std.specs.Prelude.{ℕ, zero, suc, ◌+◌, ◌/◌, ◌%◌, true, false, eqb, ltb}
use mathlib.Core.List.{List, [], ◌∷◌, ◌++◌, flat_map}
use Rattle.std.proofs.Math.Option.{some, none}
use Rattle.rules.specs.declared.violation.Violation.{Violation}
use Rattle.rules.specs.Rule.{error}
use Rattle.rules.specs.Refusals.{refusal}
use Rattle.rules.specs.Answer.{full_list, total_of, errors_of}

abbrev space : List ℕ
space = 32 ∷ []

abbrev newline : List ℕ
newline = 10 ∷ []

-- the decimal digits of a number, at most n of them
unfoldable pub digits : ℕ → ℕ → List ℕ
digits zero x = []
digits (suc n) x = (elim (ltb x 10) [ true ↦ [] | false ↦ digits n (x / 10) ]) ++ ((48 + x % 10) ∷ [])

-- a number below 2^32 in decimal
abbrev pub decimal : ℕ → List ℕ
decimal = digits 10

-- `E` or `W`
abbrev pub severity_letter : ℕ → ℕ
severity_letter severity = elim (eqb severity error) [ true ↦ 69 | false ↦ 87 ]

unfoldable pub violation_line : Violation → List ℕ
violation_line v =
    decimal v.class
    ++ space
    ++ (severity_letter v.severity ∷ [])
    ++ space
    ++ decimal v.span.offset
    ++ space
    ++ decimal v.span.len
    ++ newline

-- `total N errors M`
unfoldable pub counts_line : ℕ → ℕ → List ℕ
counts_line total errors =
    (116 ∷ 111 ∷ 116 ∷ 97 ∷ 108 ∷ 32 ∷ [])
    ++ decimal total
    ++ (32 ∷ 101 ∷ 114 ∷ 114 ∷ 111 ∷ 114 ∷ 115 ∷ 32 ∷ [])
    ++ decimal errors
    ++ newline

-- `refused N at I`
unfoldable pub refusal_line : ℕ → ℕ → List ℕ
refusal_line number index =
    (114 ∷ 101 ∷ 102 ∷ 117 ∷ 115 ∷ 101 ∷ 100 ∷ 32 ∷ [])
    ++ decimal number
    ++ (32 ∷ 97 ∷ 116 ∷ 32 ∷ [])
    ++ decimal index
    ++ newline

-- all that the program prints
unfoldable pub printed : List ℕ → List ℕ → List ℕ
printed sheet names =
    elim (refusal sheet names) [
      | some f ↦ refusal_line f.number f.index
      | none ↦ flat_map violation_line (full_list sheet names)
          ++ counts_line (total_of (full_list sheet names)) (errors_of (full_list sheet names))
    ]
