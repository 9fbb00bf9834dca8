-- The sheet: records of 32 bytes, no header, numbers little-endian.
-- Byte 0 kind, 1 sub, 2 name length, 3 zero, 4-7 name offset in the names text, 8-15 span, 16-23 ordinal's span, 24-31 value.
-- Only what a kind uses is read, so the bytes that it does not use alter nothing.
use Rattle.std.specs.Prelude.{ℕ, zero, suc, ◌+◌, ◌-◌, ◌*◌, ◌/◌, ◌%◌, ◌^◌, Bool, true, false, not, ◌&&◌, ◌||◌, List, [], ◌∷◌, map, length, get_or, take, drop, leb, eqb, ltb, ℤ, pos, negsuc, Float}
use Rattle.std.specs.Float.Ieee.{of_bits}
use Rattle.std.specs.Float.{binary64}
use Rattle.rules.specs.declared.span.Span.{Span}
use Rattle.rules.specs.Words.{number_if, only_if, number}
use Rattle.rules.specs.Kind
use Rattle.rules.specs.Sub

-- A record whose name is an N and whose places are P's. Read from bytes, a name is its bytes and a place is a span.
-- `clean`: byte 3 is 0. `fits`: the name part ends within the names text (row 4).
pub record Rec (N P : Type 0) : Type 0 where
  pub kind : ℕ
  pub sub : ℕ
  pub clean : Bool
  pub fits : Bool
  pub name : N
  pub place : P
  pub ordinal_place : P
  pub value : ℕ

-- the bytes of a record
abbrev pub record_size : ℕ
record_size = 32

-- the number in n bytes from a place on
abbrev pub number_at : ℕ → ℕ → List ℕ → ℕ
number_at at n b = number (take n (drop at b))

abbrev pub span_at : ℕ → List ℕ → Span
span_at at b = record { offset = number_at at 4 b; len = number_at (at + 4) 4 b }

abbrev pub span_if : Bool → Span → Span
span_if true s = s
span_if false s = record { offset = 0; len = 0 }

-- the length of a name
abbrev pub name_length : List ℕ → ℕ
name_length b = get_or b 2 0

abbrev pub name_offset : List ℕ → ℕ
name_offset = number_at 4 4

-- the name part ends within the names text
abbrev pub name_fits : List ℕ → List ℕ → Bool
name_fits names b = leb (name_offset b + name_length b) (length names)

-- a name: that part of the names text; nothing where it does not fit
abbrev pub name_part : List ℕ → List ℕ → List ℕ
name_part names b = only_if (name_fits names b) (take (name_length b) (drop (name_offset b) names))

-- the value: an ordinal, a size or a literal whole; of a sub-byte type its bits and its sign, 9 bits; else unused
abbrev pub value_of : ℕ → ℕ → ℕ
value_of k v = number_if (Kind.has_ordinal k || Kind.has_literal k) v + number_if (eqb k Kind.SubByte) (v % 512)

-- what a value says: an operand's Int is in two's complement, its Float by IEEE 754 bits, its Bool false only at 0; of a sub-byte
-- type the low byte is its bits, and bit 8 is set if it is signed
unfoldable pub int_literal : ℕ → ℤ
int_literal v = elim (ltb v (2 ^ 63)) [ true ↦ pos v | false ↦ negsuc (2 ^ 64 - 1 - v) ]

unfoldable pub float_literal : ℕ → Float
float_literal = of_bits binary64

abbrev pub bool_literal : ℕ → Bool
bool_literal v = not (eqb v 0)

abbrev pub sub_byte_bits : ℕ → ℕ
sub_byte_bits v = v % 256

abbrev pub sub_byte_signed : ℕ → Bool
sub_byte_signed v = eqb (v / 256 % 2) 1

-- the fields of 32 bytes
abbrev pub kind_in : List ℕ → ℕ
kind_in b = get_or b 0 0

unfoldable pub sub_in : List ℕ → ℕ
sub_in b = number_if (ltb 0 (Kind.sub_count (kind_in b))) (get_or b 1 0)

abbrev pub clean_in : List ℕ → Bool
clean_in b = eqb (get_or b 3 0) 0

abbrev pub is_named_in : List ℕ → Bool
is_named_in b = Kind.has_name (kind_in b) (sub_in b)

unfoldable pub fits_in : List ℕ → List ℕ → Bool
fits_in names b = not (is_named_in b) || name_fits names b

unfoldable pub name_in : List ℕ → List ℕ → List ℕ
name_in names b = only_if (is_named_in b) (name_part names b)

abbrev pub span_in : List ℕ → Span
span_in b = span_at 8 b

unfoldable pub ordinal_span_in : List ℕ → Span
ordinal_span_in b = span_if (Kind.has_ordinal_span (kind_in b)) (span_at 16 b)

unfoldable pub value_in : List ℕ → ℕ
value_in b = value_of (kind_in b) (number_at 24 8 b)

-- the record that 32 bytes are
unfoldable pub decode : List ℕ → List ℕ → Rec (List ℕ) Span
decode names b =
    record {
      kind = kind_in b;
      sub = sub_in b;
      clean = clean_in b;
      fits = fits_in names b;
      name = name_in names b;
      place = span_in b;
      ordinal_place = ordinal_span_in b;
      value = value_in b;
    }

-- the bytes of record i; past the end of the sheet they are fewer, or none
abbrev pub record_bytes : List ℕ → ℕ → List ℕ
record_bytes sheet i = take record_size (drop (record_size * i) sheet)

-- n pieces of 32 bytes
unfoldable pub pieces : ℕ → List ℕ → List (List ℕ)
pieces zero s = []
pieces (suc n) s = take record_size s ∷ pieces n (drop record_size s)

-- the records of a sheet, each with its name looked up in the names text
unfoldable pub records : List ℕ → List ℕ → List (Rec (List ℕ) Span)
records sheet names = map (decode names) (pieces (length sheet / record_size) sheet)

module _ {N P : Type 0} where
  -- the record is of that kind
  abbrev pub is : ℕ → Rec N P → Bool
  is k r = eqb r.kind k

  -- the record is of that kind and that sub
  abbrev pub is_of : ℕ → ℕ → Rec N P → Bool
  is_of k s r = eqb r.kind k && eqb r.sub s

  -- the record is a known declaration that renames a type
  abbrev pub is_renaming : Rec N P → Bool
  is_renaming r = is Kind.Declaration r && Sub.is_renaming r.sub
