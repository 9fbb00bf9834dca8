-- The list buffer of a replayed call: what it holds before, and what it must hold after.
use Rattle.std.specs.Prelude.{ℕ, zero, suc, ◌+◌, ◌*◌, ◌/◌, ◌%◌, List, [], ◌∷◌, ◌++◌, length, take, drop}
use Rattle.rules.specs.Buffer.{violation_size, written_of}

-- the byte at a place before the call: never 0, and another one at each of 251 places in a row
abbrev pub mark : ℕ → ℕ
mark i = i % 251 + 1

-- a buffer of n bytes before the call
unfoldable pub marks : ℕ → List ℕ
marks zero = []
marks (suc n) = marks n ++ (mark n ∷ [])

-- the bytes of a violation in the file: those of the list, and four more
abbrev pub recorded_size : ℕ
recorded_size = 16

-- the list's bytes of the first n violations of the file
unfoldable pub list_bytes : ℕ → List ℕ → List ℕ
list_bytes zero violations = []
list_bytes (suc n) violations = take violation_size violations ++ list_bytes n (drop recorded_size violations)

-- a buffer after a call with those violations: as many as whole records fit, and then the bytes that were there
unfoldable pub recorded_after : List ℕ → List ℕ → List ℕ
recorded_after violations old =
    let k : ℕ = written_of (length violations / recorded_size) (length old) in
    list_bytes k violations ++ drop (violation_size * k) old
