-- A number is the sum of its bytes, so what 12 bytes of a buffer say is the violation that was written there.
use Prim.Native.Nat.{ℕ, zero, suc, ◌+◌, ◌*◌, ◌^◌, ◌/◌, ◌<◌}
use native.Mathlib.Nat.{pow-suc, mod-add-div, div-lt_iff_lt-mul, one-le-pow, min-le_left, min-le_right}
use native.Mathlib.Omega.{arith}
use mathlib.Core.Path.{◌≡◌, refl, ap, ap₂, sym, ◌∙◌}
use mathlib.Core.Bool.{Bool, true, false, ◌&&◌}
use mathlib.Core.List.{List, [], ◌∷◌, ◌++◌, flat_map, append_assoc}
use lib.ListN.{length, get_or, take, drop, length-append, length-drop}
use lib.Seq.{length-take-le, drop_at}
use lib.Dec.{ltb, eqb}
use borrow.Author.Tests.{ltb-true}
use Rattle.std.proofs.lemmas.Bool.{and_parts}
use Rattle.rules.specs.declared.span.Span.{Span}
use Rattle.rules.specs.declared.violation.Violation.{Violation}
use Rattle.rules.specs.Words.{number, bytes}
use Rattle.rules.specs.Kind
use Rattle.rules.specs.Record.{span_at, span_if, ordinal_span_in, decode, pieces, record_size, records}
use Rattle.rules.specs.Context.{context_of}
use Rattle.rules.specs.Rule.{Found, RuleRow, rules, rule_row, violation}
use Rattle.rules.specs.Answer.{found_in, full_list}
use Rattle.rules.specs.Buffer.{encode, decode_violation, decode_list, written_of, written, violation_size}
use Rattle.rules.proofs.Joined.{length-flat_map}
use Rattle.rules.proofs.Every.{Every, every-nil, every-cons, every_take, every_drop, every-get_d, every_map}
use Rattle.rules.proofs.Places.{Placed, At, violation-places}

-- a violation whose numbers fit their bytes
pub record Encodable (v : Violation) : Type 0 where
  pub class : v.class < 65536
  pub severity : v.severity < 256
  pub offset : v.span.offset < 2 ^ 32
  pub len : v.span.len < 2 ^ 32

-- the bytes of a number stand for it
number-bytes : (n x : ℕ) → x < 256 ^ n → number (bytes n x) ≡ x
unfolding bytes number
number-bytes zero x h = omega arith
number-bytes (suc n) x h =
    let h' : x / 256 < 256 ^ n = (div-lt_iff_lt-mul {k = 256} (omega arith)).1 (rw pow-suc at h) in
    rw (number-bytes n (x / 256) h') (mod-add-div x 256)

-- a violation that was written is read back, whatever follows it
decode-encode : (v : Violation) (rest : List ℕ) → Encodable v → decode_violation (encode v ++ rest) ≡ v
unfolding encode decode_violation bytes
decode-encode v rest h =
    λ i. record {
      class = number-bytes 2 v.class h.class i;
      severity = v.severity;
      span = record { offset = number-bytes 4 v.span.offset h.offset i; len = number-bytes 4 v.span.len h.len i };
    }

length-encode : (v : Violation) → length (encode v) ≡ violation_size
unfolding encode bytes
length-encode v = refl

pub length-encoded : (vs : List Violation) → length (flat_map encode vs) ≡ violation_size * length vs
length-encoded = length-flat_map encode violation_size length-encode

-- and so are all of a list
decode-encoded : {vs : List Violation} (rest : List ℕ) → Every Encodable vs → decode_list (length vs) (flat_map encode vs ++ rest) ≡ vs
unfolding flat_map decode_list
decode-encoded rest every-nil = refl
decode-encoded rest (every-cons {x = v} {xs = vs} h hs) =
    rw append_assoc
    (ap₂ ◌∷◌ (decode-encode v (flat_map encode vs ++ rest) h)
    (rw (drop_at (encode v) (flat_map encode vs ++ rest) violation_size (length-encode v)) (decode-encoded rest hs)))

module _ (vs : List Violation) (old : List ℕ) where
  -- how many of the violations the buffer holds
  abbrev written_count : ℕ
  written_count = written_of (length vs) (length old)

  length_taken : length (take written_count vs) ≡ written_count
  length_taken = length-take-le written_count vs (min-le_left (length vs) (length old / violation_size))

  length-prefix : length (flat_map encode (take written_count vs)) ≡ violation_size * written_count
  length-prefix = length-encoded (take written_count vs) ∙ ap (λ (n : ℕ). violation_size * n) length_taken

  -- the first violations are read back
  pub decode-written : Every Encodable vs → decode_list written_count (written vs old) ≡ take written_count vs
  unfolding written
  decode-written h =
      ap (λ (n : ℕ). decode_list n (written vs old)) (sym length_taken)
      ∙ decode-encoded (drop (violation_size * written_count) old) (every_take written_count h)

  -- the buffer keeps its length
  pub length-written : length (written vs old) ≡ length old
  unfolding written
  length-written =
      rw (length-append, length-drop, length-prefix) (omega (arith, min-le_right (length vs) (length old / violation_size)))

  -- and keeps the bytes after them
  pub drop-written : drop (violation_size * written_count) (written vs old) ≡ drop (violation_size * written_count) old
  unfolding written
  drop-written =
      drop_at (flat_map encode (take written_count vs)) (drop (violation_size * written_count) old) (violation_size * written_count) length-prefix

-- a number of n bytes is below 256 ^ n
number-below : (n : ℕ) {bs : List ℕ} → Every (λ b. b < 256) bs → number (take n bs) < 256 ^ n
unfolding number
number-below zero h = omega arith
number-below (suc n) every-nil = one-le-pow (suc n) 256 (omega arith)
number-below (suc n) (every-cons q h) = rw pow-suc (omega (arith, number-below n h))

-- a span whose numbers fit their bytes
record SpanFits (s : Span) : Type 0 where
  offset : s.offset < 2 ^ 32
  len : s.len < 2 ^ 32

span-at : (at : ℕ) {bs : List ℕ} → Every (λ b. b < 256) bs → SpanFits (span_at at bs)
span-at at h = record { offset = number-below 4 (every_drop at h); len = number-below 4 (every_drop (at + 4) h) }

span-if : (b : Bool) (s : Span) → SpanFits s → SpanFits (span_if b s)
span-if true s h = h
span-if false s h = record { offset = omega arith; len = omega arith }

decode-placed : (names b : List ℕ) → Every (λ x. x < 256) b → Placed SpanFits (decode names b)
unfolding decode ordinal_span_in
decode-placed names b h =
    record { place = span-at 8 h; ordinal_place = span-if (Kind.has_ordinal_span (get_or b 0 0)) (span_at 16 b) (span-at 16 h) }

every-piece : (n : ℕ) {s : List ℕ} → Every (λ x. x < 256) s → Every (Every (λ x. x < 256)) (pieces n s)
unfolding pieces
every-piece zero h = every-nil
every-piece (suc n) h = every-cons (every_take record_size h) (every-piece n (every_drop record_size h))

-- a rule whose class and severity fit their bytes
record RowFits (x : RuleRow) : Type 0 where
  class : x.class < 65536
  severity : x.severity < 256

rows_test : List RuleRow → Bool
rows_test [] = true
rows_test (x ∷ xs) = ltb x.class 65536 && ltb x.severity 256 && rows_test xs

rules-pass : rows_test rules ≡ true
unfolding rows_test
rules-pass = refl

row_fits : (xs : List RuleRow) (rule : ℕ) → rows_test xs ≡ true → RowFits (rule_row xs rule)
unfolding rows_test rule_row
row_fits [] rule h = record { class = omega arith; severity = omega arith }
row_fits (x ∷ xs) rule h =
    let all = and_parts (ltb x.class 65536 && ltb x.severity 256) (rows_test xs) h in
    let own = and_parts (ltb x.class 65536) (ltb x.severity 256) all.0 in
    go (eqb x.rule rule) (record { class = ltb-true _ _ own.0; severity = ltb-true _ _ own.1 }) (row_fits xs rule all.1)
  where
    go : (b : Bool) {y z : RuleRow} → RowFits y → RowFits z → RowFits (elim b [ true ↦ y | false ↦ z ])
    go true p q = p
    go false p q = q

violation-encodable : (f : Found Span) → At SpanFits f → Encodable (violation f)
violation-encodable f h =
    let fits = row_fits rules f.rule rules-pass in
    record { class = fits.class; severity = fits.severity; offset = h.place.offset; len = h.place.len }

-- every violation of the full list of a sheet of bytes can be encoded
pub full-list-encodable : (sheet names : List ℕ) → ((i : ℕ) → get_or sheet i 0 < 256) → Every Encodable (full_list sheet names)
unfolding full_list found_in records
full-list-encodable sheet names h =
    let placed = every_map (decode names) (decode-placed names) (every-piece (length sheet / record_size) (every-get_d 0 sheet h)) in
    every_map violation violation-encodable (violation-places SpanFits (context_of (records sheet names)) placed)
