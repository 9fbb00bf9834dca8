-- What adding a violation does to the list buffer and to the counts so far, and what adding several does.
use Rattle.std.specs.Prelude.{ℕ, ◌+◌, ◌*◌, ◌%◌, ◌^◌, true, false, List, [], ◌∷◌, ◌++◌, map, length, take, drop, ◌==◌, nat_le}
use Rattle.rules.specs.declared.answer.Counts.{Counts}
use Rattle.rules.specs.declared.violation.Violation.{Violation}
use Rattle.rules.specs.declared.span.Span.{Span}
use Rattle.rules.specs.Rule.{Found, violation, error}
use Rattle.rules.specs.Buffer.{encode, violation_size}

-- the bytes of the list buffer, and the counts of the violations so far
abbrev pub State : Type 0
State = List ℕ × Counts

-- the buffer with the violation as record number `index`, if it has room for that record
unfoldable pub stored : Violation → ℕ → List ℕ → List ℕ
stored v index list =
    let at : ℕ = violation_size * index in
    elim (nat_le (at + violation_size) (length list)) [
      | true ↦ take at list ++ encode v ++ drop (at + violation_size) list
      | false ↦ list
    ]

-- the counts with one violation more, of that severity; they wrap at 2^32, which the total of no accepted sheet comes near
unfoldable pub counted : ℕ → Counts → Counts
counted severity counts = record {
  total = (counts.total + 1) % 2 ^ 32;
  errors = elim (severity == error) [ true ↦ (counts.errors + 1) % 2 ^ 32 | false ↦ counts.errors ];
}

-- the violation is written if there is room for it, and counted in any case
unfoldable pub push_one : Violation → State → State
push_one v s = (stored v s.1.total s.0, counted v.severity s.1)

-- the violations are added from left to right
unfoldable pub push_all : List Violation → State → State
push_all [] s = s
push_all (v ∷ vs) s = push_all vs (push_one v s)

-- what the rules found is added, each as it is told
unfoldable pub push_found : List (Found Span) → State → State
push_found fs s = push_all (map violation fs) s
