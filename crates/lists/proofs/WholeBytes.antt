-- A byte of a whole record is the sheet's byte at its place.
use Prim.Native.Nat.{ℕ, ◌+◌, ◌*◌, ◌<◌, ◌≤◌}
use mathlib.Core.Path.{◌≡◌, refl, sym, ◌∙◌}
use mathlib.Core.Bool.{true}
use mathlib.Core.List.{List, [], ◌∷◌}
use native.Mathlib.Omega.{arith}
use lib.ListN.{get_or}
use Rattle.std.specs.Int.{from_le_bytes, w64}
use Rattle.rules.specs.Kind
use Rattle.rules.specs.Record.{number_at, record_bytes, kind_in, value_in}
use Rattle.rules.proofs.Records.{byte-of-record}
use Rattle.sheet.proofs.Numbers.{word_read, long-read}
use Rattle.sheet.proofs.Fields.{ordinal-value}

module _ (sheet : List ℕ) (i : ℕ) where
  record-byte : (at place : ℕ) → at < 32 → place ≡ i * 32 + at → get_or (record_bytes sheet i) at 0 ≡ get_or sheet place 0
  record-byte at place h same =
      let order : 32 * i + at ≡ place = omega arith in
      byte-of-record at i sheet 0 h ∙ rw order

  -- four bytes make a word
  pub word_here :
      (at p q r s : ℕ) → at ≤ 28 → p ≡ i * 32 + at → q ≡ p + 1 → r ≡ p + 2 → s ≡ p + 3 →
      get_or sheet p 0 + 256 * (get_or sheet q 0 + 256 * (get_or sheet r 0 + 256 * get_or sheet s 0)) ≡ number_at at 4 (record_bytes sheet i)
  word_here at p q r s h hp hq hr hs =
      word_read at (record_bytes sheet i) (get_or sheet p 0) (get_or sheet q 0) (get_or sheet r 0) (get_or sheet s 0) _
      (sym (record-byte at p (omega arith) hp))
      (sym (record-byte (at + 1) q (omega arith) (omega arith)))
      (sym (record-byte (at + 2) r (omega arith) (omega arith)))
      (sym (record-byte (at + 3) s (omega arith) (omega arith)))
      refl

  -- and two words an ordinal
  pub ordinal_whole :
      (a b : ℕ) → Kind.has_ordinal (kind_in (record_bytes sheet i)) ≡ true → a ≡ number_at 24 4 (record_bytes sheet i) →
      b ≡ number_at 28 4 (record_bytes sheet i) → a + 4294967296 * b ≡ value_in (record_bytes sheet i)
  ordinal_whole a b has ha hb =
      let bytes = record_bytes sheet i in
      ordinal-value bytes (kind_in bytes) refl (Kind.has_ordinal (kind_in bytes)) (a + 4294967296 * b) refl has (long-read 24 bytes a b ha hb)

  -- which are read at once
  pub ordinal_read :
      (n : ℕ) → Kind.has_ordinal (kind_in (record_bytes sheet i)) ≡ true →
      n
      ≡ from_le_bytes w64
      (get_or sheet (i * 32 + 24) 0 ∷ get_or sheet (i * 32 + 24 + 1) 0 ∷ get_or sheet (i * 32 + 24 + 2) 0 ∷ get_or sheet (i * 32 + 24 + 3) 0
      ∷ get_or sheet (i * 32 + 24 + 4) 0 ∷ get_or sheet (i * 32 + 24 + 5) 0 ∷ get_or sheet (i * 32 + 24 + 6) 0 ∷ get_or sheet (i * 32 + 24 + 7) 0 ∷ []) →
      n ≡ value_in (record_bytes sheet i)
  ordinal_read n has read =
      let first : ℕ = i * 32 + 24 in
      let low = word_here 24 first (first + 1) (first + 2) (first + 3) (omega arith) refl refl refl refl in
      let high = word_here 28 (first + 4) (first + 5) (first + 6) (first + 7) (omega arith) (omega arith) (omega arith) (omega arith) (omega arith) in
      omega (arith, read) ∙ ordinal_whole _ _ has low high
