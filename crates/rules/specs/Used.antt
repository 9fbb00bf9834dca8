-- "Bytes that a kind does not use alter no answer": which bytes a kind uses, and when two sheets have the same of them.
use Rattle.std.specs.Prelude.{ℕ, ◌+◌, ◌*◌, ◌/◌, ◌%◌, ◌<◌, ◌≡◌, Bool, true, ◌&&◌, ◌||◌, List, length, get_or, ltb, eqb}
use Rattle.rules.specs.Words.{within}
use Rattle.rules.specs.Kind
use Rattle.rules.specs.Record.{record_size}

-- Byte j of a record of that kind and sub is used: kind, byte 3 and span always, sub, name, ordinal's span and value where the kind has
-- them; of a sub-byte type's value the low byte.
unfoldable pub is_used : ℕ → ℕ → ℕ → Bool
is_used kind sub j =
    eqb j 0
    || eqb j 1 && ltb 0 (Kind.sub_count kind)
    || eqb j 2 && Kind.has_name kind sub
    || eqb j 3
    || within 4 7 j && Kind.has_name kind sub
    || within 8 15 j
    || within 16 23 j && Kind.has_ordinal_span kind
    || within 24 31 j && (Kind.has_ordinal kind || Kind.has_literal kind)
    || eqb j 24 && eqb kind Kind.SubByte

-- byte j of record n
abbrev pub byte_of : List ℕ → ℕ → ℕ → ℕ
byte_of sheet n j = get_or sheet (record_size * n + j) 0

-- The sheets are of the same length, and each record has the same bytes but for those that its kind does not use. Of byte 25 a sub-byte
-- type uses the lowest bit.
pub record SameUsed (sheet sheet' : List ℕ) : Type 0 where
  pub lengths : length sheet ≡ length sheet'
  pub bytes : (n j : ℕ) → n < length sheet / record_size → is_used (byte_of sheet n 0) (byte_of sheet n 1) j ≡ true
      → byte_of sheet n j ≡ byte_of sheet' n j
  pub signs : (n : ℕ) → n < length sheet / record_size → byte_of sheet n 0 ≡ Kind.SubByte → byte_of sheet n 25 % 2 ≡ byte_of sheet' n 25 % 2
