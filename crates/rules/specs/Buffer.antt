-- What the list buffer holds after a call.
use Rattle.std.specs.Prelude.{ℕ, zero, suc, ◌*◌, ◌/◌, min, length, get_or, take, drop}
use mathlib.Core.List.{List, [], ◌∷◌, ◌++◌, flat_map}
use Rattle.std.proofs.Math.Option.{some, none}
use Rattle.rules.specs.declared.violation.Violation.{Violation}
use Rattle.rules.specs.Words.{number, bytes}
use Rattle.rules.specs.Record.{span_at}
use Rattle.rules.specs.Refusals.{refusal}
use Rattle.rules.specs.Answer.{max_total, full_list, total_of}

-- the bytes of a written violation
abbrev pub violation_size : ℕ
violation_size = 12

-- the bytes that "always hold it", the list of every accepted sheet: 36,864
abbrev pub max_list_size : ℕ
max_list_size = violation_size * max_total

-- "A violation is 12 bytes: class u16, severity byte (0 error, 1 warning), zero byte, offset u32, length u32"
unfoldable pub encode : Violation → List ℕ
encode v = bytes 2 v.class ++ (v.severity ∷ 0 ∷ []) ++ bytes 4 v.span.offset ++ bytes 4 v.span.len

-- the violation that the first 12 bytes say
unfoldable pub decode_violation : List ℕ → Violation
decode_violation b = record { class = number (take 2 b); severity = get_or b 2 0; span = span_at 4 b }

-- the first n violations of a buffer
unfoldable pub decode_list : ℕ → List ℕ → List Violation
decode_list zero b = []
decode_list (suc n) b = decode_violation b ∷ decode_list n (drop violation_size b)

-- how many violations are written of so many, in a buffer of that length
abbrev pub written_of : ℕ → ℕ → ℕ
written_of total len = min total (len / violation_size)

-- the first violations, as many as whole records fit, and then the bytes that were there
unfoldable pub written : List Violation → List ℕ → List ℕ
written vs old =
    let k : ℕ = written_of (total_of vs) (length old) in
    flat_map encode (take k vs) ++ drop (violation_size * k) old

-- the buffer after a call; a refusal keeps all of it
unfoldable pub buffer_after : List ℕ → List ℕ → List ℕ → List ℕ
buffer_after sheet names old = elim (refusal sheet names) [ some f ↦ old | none ↦ written (full_list sheet names) old ]
