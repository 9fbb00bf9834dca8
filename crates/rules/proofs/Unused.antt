-- A record is decoded from the bytes that its kind uses and no others, and all that is answered is computed from the records.
use Prim.Native.Nat.{ℕ, zero, suc, ◌+◌, ◌*◌, ◌/◌, ◌%◌, ◌<◌}
use native.Mathlib.Decide.{dec_lt}
use native.Mathlib.Omega.{arith}
use mathlib.Core.Path.{◌≡◌, refl, sym, ap, ap₂, ◌∙◌}
use mathlib.Core.Bool.{Bool, true, false, not, ◌&&◌, ◌||◌}
use mathlib.Core.List.{List, [], ◌∷◌, map}
use mathlib.Core.Option.{Option, some, none}
use lib.ListN.{length, get_or, take, drop, length-take, get_or-eq_default}
use lib.Seq.{take-nil, drop-drop, get_or-take, get_or-drop}
use lib.Dec.{leb, ltb, eqb}
use borrow.Author.Tests.{eqb-true}
use Rattle.rules.specs.declared.span.Span.{Span}
use Rattle.rules.specs.Words.{any_of, number_if, only_if, member, look_up, number}
use Rattle.rules.specs.Kind
use Rattle.rules.specs.Sub
use Rattle.rules.specs.Record.{Rec, record_size, number_at, span_at, span_if, name_length, name_offset, name_fits, name_part}
use Rattle.rules.specs.Record.{value_of, sub_in, fits_in, name_in, ordinal_span_in, value_in, decode, pieces, records}
use Rattle.rules.specs.Refusals.{refusal, is_wrong_length, is_long_names}
use Rattle.rules.specs.Answer.{found_in, full_list, answer}
use Rattle.rules.specs.Buffer.{buffer_after}
use Rattle.rules.specs.Printed.{printed}
use Rattle.rules.specs.Used.{is_used, byte_of, SameUsed}

-- what is only looked at where a test passes is the same if it is the same there
pub if-same : {A B : Type 0} (f : Bool → A → B) (b : Bool) (x y : A) → f false x ≡ f false y → (b ≡ true → x ≡ y) → f b x ≡ f b y
if-same f true x y e h = ap (f true) (h refl)
if-same f false x y e h = e

-- the number in the bytes from a place on begins with the byte there
number_step : (i n : ℕ) (b : List ℕ) → number_at i (suc n) b ≡ get_or b i 0 + 256 * number_at (suc i) n b
unfolding number
number_step zero n [] = rw take-nil
number_step zero n (x ∷ b) = refl
number_step (suc i) n [] = rw take-nil
number_step (suc i) n (x ∷ b) = number_step i n b

-- the test passes at n places from i on
all_from : (ℕ → Bool) → ℕ → ℕ → Bool
all_from p i zero = true
all_from p i (suc n) = p i && all_from p (suc i) n

module _ (b b' : List ℕ) (p : ℕ → Bool) (same : (j : ℕ) → p j ≡ true → get_or b j 0 ≡ get_or b' j 0) where
  number_same : (i n : ℕ) → all_from p i n ≡ true → number_at i n b ≡ number_at i n b'
  unfolding all_from
  number_same i zero h = refl
  number_same i (suc n) h = go (p i) refl h (number_same (suc i) n)
    where
      go : (c : Bool) → p i ≡ c → (c && all_from p (suc i) n) ≡ true
          → (all_from p (suc i) n ≡ true → number_at (suc i) n b ≡ number_at (suc i) n b')
          → number_at i (suc n) b ≡ number_at i (suc n) b'
      go true e h' ih = rw (number_step i n b, number_step i n b', same i e, ih h')
      go false e h' ih = cc

-- only an operand's name depends on its sub
name-sub : (k s : ℕ) → Kind.has_name k (number_if (ltb 0 (Kind.sub_count k)) s) ≡ Kind.has_name k s
unfolding look_up
name-sub k s = go (eqb k Kind.Operand) refl
  where
    go : (c : Bool) → eqb k Kind.Operand ≡ c
        → (member k Kind.with_name || c && eqb (number_if (ltb 0 (Kind.sub_count k)) s) Sub.ConstRef)
        ≡ (member k Kind.with_name || c && eqb s Sub.ConstRef)
    go true e = rw (eqb-true k Kind.Operand e)
    go false e = refl

-- the record that bytes are, taken to be of that kind and sub
decoded_as : List ℕ → List ℕ → ℕ → ℕ → Rec (List ℕ) Span
decoded_as names b k s =
    record {
      kind = k;
      sub = s;
      clean = eqb (get_or b 3 0) 0;
      fits = not (Kind.has_name k s) || name_fits names b;
      name = only_if (Kind.has_name k s) (name_part names b);
      place = span_at 8 b;
      ordinal_place = span_if (Kind.has_ordinal_span k) (span_at 16 b);
      value = value_of k (number_at 24 8 b);
    }

module _ (b b' : List ℕ) where
  -- the bytes of one record that its kind uses are the same
  record SameBytes : Type 0 where
    bytes : (j : ℕ) → is_used (get_or b 0 0) (get_or b 1 0) j ≡ true → get_or b j 0 ≡ get_or b' j 0
    sign : get_or b 0 0 ≡ Kind.SubByte → get_or b 25 0 % 2 ≡ get_or b' 25 0 % 2

module _ (names b b' : List ℕ) (same : SameBytes b b') where
  abbrev kind : ℕ
  kind = get_or b 0 0

  -- the sub, as it is decoded
  abbrev sub : ℕ
  sub = number_if (ltb 0 (Kind.sub_count kind)) (get_or b 1 0)

  number-used : (i n : ℕ) → all_from (is_used kind (get_or b 1 0)) i n ≡ true → number_at i n b ≡ number_at i n b'
  number-used = number_same b b' (is_used kind (get_or b 1 0)) same.bytes

  span-used : (i : ℕ) → all_from (is_used kind (get_or b 1 0)) i 4 ≡ true → all_from (is_used kind (get_or b 1 0)) (i + 4) 4 ≡ true
      → span_at i b ≡ span_at i b'
  span-used i h g = λ t. record { offset = number-used i 4 h t; len = number-used (i + 4) 4 g t }

  kind-same : kind ≡ get_or b' 0 0
  unfolding is_used
  kind-same = same.bytes 0 refl

  sub_same : sub ≡ number_if (ltb 0 (Kind.sub_count (get_or b' 0 0))) (get_or b' 1 0)
  unfolding is_used
  sub_same =
      rw (← kind-same)
      (if-same number_if (ltb 0 (Kind.sub_count kind)) (get_or b 1 0) (get_or b' 1 0) refl (λ h. same.bytes 1 (rw h)))

  clean-same : get_or b 3 0 ≡ get_or b' 3 0
  unfolding is_used
  clean-same = same.bytes 3 refl

  length-same : Kind.has_name kind sub ≡ true → name_length b ≡ name_length b'
  unfolding is_used
  length-same h = same.bytes 2 (rw (rw (name-sub kind (get_or b 1 0)) at h))

  offset-same : Kind.has_name kind sub ≡ true → name_offset b ≡ name_offset b'
  unfolding is_used all_from
  offset-same h = number-used 4 4 (rw (rw (name-sub kind (get_or b 1 0)) at h))

  fits-same : Kind.has_name kind sub ≡ true → name_fits names b ≡ name_fits names b'
  fits-same h = ap₂ (λ (l o : ℕ). leb (o + l) (length names)) (length-same h) (offset-same h)

  name-same : Kind.has_name kind sub ≡ true → name_part names b ≡ name_part names b'
  name-same h = ap₂ (λ (l o : ℕ). only_if (leb (o + l) (length names)) (take l (drop o names))) (length-same h) (offset-same h)

  place_same : span_at 8 b ≡ span_at 8 b'
  unfolding is_used all_from
  place_same = span-used 8 refl refl

  ordinal-same : Kind.has_ordinal_span kind ≡ true → span_at 16 b ≡ span_at 16 b'
  unfolding is_used all_from
  ordinal-same h = span-used 16 (rw h) (rw h)

  value_same : (Kind.has_ordinal kind || Kind.has_literal kind) ≡ true → number_at 24 8 b ≡ number_at 24 8 b'
  unfolding is_used all_from
  value_same h = number-used 24 8 (rw h)

  -- the 9 bits of a sub-byte type
  bits-same : eqb kind Kind.SubByte ≡ true → number_at 24 8 b % 512 ≡ number_at 24 8 b' % 512
  unfolding is_used any_of
  bits-same h =
      let e = eqb-true kind Kind.SubByte h in
      let sign = same.sign e in
      rw (number_step 24 7 b, number_step 25 6 b, number_step 24 7 b', number_step 25 6 b', same.bytes 24 (rw e)) (omega arith)

  -- taken to be of the same kind and sub, the bytes are the same record
  decoded-same : decode names b ≡ decoded_as names b' kind sub
  unfolding decode sub_in fits_in name_in ordinal_span_in value_in decoded_as
  decoded-same =
      let named : Bool = Kind.has_name kind sub in
      let has_value : Bool = Kind.has_ordinal kind || Kind.has_literal kind in
      let fits = if-same (λ t x. not t || x) named (name_fits names b) (name_fits names b') refl fits-same in
      let name = if-same only_if named (name_part names b) (name_part names b') refl name-same in
      let ordinal = if-same span_if (Kind.has_ordinal_span kind) (span_at 16 b) (span_at 16 b') refl ordinal-same in
      let whole = if-same number_if has_value (number_at 24 8 b) (number_at 24 8 b') refl value_same in
      let bits = if-same number_if (eqb kind Kind.SubByte) (number_at 24 8 b % 512) (number_at 24 8 b' % 512) refl bits-same in
      λ t. record {
        kind = kind;
        sub = sub;
        clean = eqb (clean-same t) 0;
        fits = fits t;
        name = name t;
        place = place_same t;
        ordinal_place = ordinal t;
        value = whole t + bits t;
      }

  decode-same : decode names b ≡ decode names b'
  unfolding decode sub_in fits_in name_in ordinal_span_in value_in decoded_as
  decode-same = decoded-same ∙ ap₂ (decoded_as names b') kind-same sub_same

-- the bytes of record n
abbrev piece : List ℕ → ℕ → List ℕ
piece l n = take record_size (drop (record_size * n) l)

-- records are the same if each piece is decoded to the same
pieces-same : (names : List ℕ) (c : ℕ) (s s' : List ℕ)
    → ((n : ℕ) → n < c → decode names (piece s n) ≡ decode names (piece s' n))
    → map (decode names) (pieces c s) ≡ map (decode names) (pieces c s')
unfolding pieces
pieces-same names zero s s' h = refl
pieces-same names (suc c) s s' h = ap₂ ◌∷◌ (h 0 (omega arith)) (pieces-same names c (drop record_size s) (drop record_size s') later)
  where
    moved : (n : ℕ) (l : List ℕ) → drop (record_size * n) (drop record_size l) ≡ drop (record_size * suc n) l
    moved n l = let e : record_size + record_size * n ≡ record_size * suc n = omega arith in rw (drop-drop, e)

    later : (n : ℕ) → n < c
        → decode names (piece (drop record_size s) n) ≡ decode names (piece (drop record_size s') n)
    later n hn = rw (moved n s, moved n s') (h (suc n) (omega arith))

-- byte j of piece n is byte j of record n
byte-of : (l : List ℕ) (n j : ℕ) → j < record_size → get_or (piece l n) j 0 ≡ byte_of l n j
byte-of l n j h = rw (get_or-take, get_or-drop)

no_byte : (l : List ℕ) (n j : ℕ) → ¬ (j < record_size) → get_or (piece l n) j 0 ≡ 0
no_byte l n j h = get_or-eq_default (piece l n) 0 (rw length-take (omega arith))

-- a choice is the same if what it turns on and what it turns to are
module _ {A : Type 0} where
  if-alike : {b b' : Bool} (x : A) {y y' : A} → b ≡ b' → y ≡ y'
      → ◌≡◌ {A = A} (elim b [ true ↦ x | false ↦ y ]) (elim b' [ true ↦ x | false ↦ y' ])
  if-alike x p q = λ i. elim (p i) [ true ↦ x | false ↦ q i ]

  some_alike : {B : Type 0} {o o' : Option B} (f : B → A) {y y' : A} → o ≡ o' → y ≡ y'
      → ◌≡◌ {A = A} (elim o [ some x ↦ f x | none ↦ y ]) (elim o' [ some x ↦ f x | none ↦ y' ])
  some_alike f p q = λ i. elim (p i) [ some x ↦ f x | none ↦ q i ]

module _ (sheet sheet' : List ℕ) (same : SameUsed sheet sheet') where
  piece-same : (n : ℕ) → n < length sheet / record_size → SameBytes (piece sheet n) (piece sheet' n)
  piece-same n hn =
      record {
        bytes = λ j h. go j (dec_lt j record_size) (rw (byte-of sheet n 0 (omega arith), byte-of sheet n 1 (omega arith)) at h);
        sign = λ h. byte25 (same.signs n hn (rw (byte-of sheet n 0 (omega arith)) at h));
      }
    where
      go : (j : ℕ) → Dec (j < record_size) → is_used (byte_of sheet n 0) (byte_of sheet n 1) j ≡ true
          → get_or (piece sheet n) j 0 ≡ get_or (piece sheet' n) j 0
      go j (yes lt) h = byte-of sheet n j lt ∙ same.bytes n j hn h ∙ sym (byte-of sheet' n j lt)
      go j (no ge) h = no_byte sheet n j ge ∙ sym (no_byte sheet' n j ge)

      byte25 : byte_of sheet n 25 % 2 ≡ byte_of sheet' n 25 % 2 → get_or (piece sheet n) 25 0 % 2 ≡ get_or (piece sheet' n) 25 0 % 2
      byte25 h = rw (byte-of sheet n 25 (omega arith), byte-of sheet' n 25 (omega arith)) h

  -- the records are the same,
  records-same : (names : List ℕ) → records sheet names ≡ records sheet' names
  unfolding records
  records-same names =
      rw (← same.lengths)
      (pieces-same names (length sheet / record_size) sheet sheet' (λ n hn. decode-same names _ _ (piece-same n hn)))

  refusal-same : (names : List ℕ) → refusal sheet names ≡ refusal sheet' names
  unfolding refusal
  refusal-same names =
      let wrong : is_wrong_length sheet ≡ is_wrong_length sheet' = rw same.lengths in
      if-alike _ wrong (if-alike {b = is_long_names names} _ refl (rw (records-same names)))

  -- so the full list is,
  pub full-list-same : (names : List ℕ) → full_list sheet names ≡ full_list sheet' names
  unfolding full_list found_in
  full-list-same names = rw (records-same names)

  -- the answer,
  pub answer-same : (names : List ℕ) → answer sheet names ≡ answer sheet' names
  unfolding answer
  answer-same names = some_alike _ (refusal-same names) (rw (full-list-same names))

  -- the buffer after the call,
  pub buffer-same : (names old : List ℕ) → buffer_after sheet names old ≡ buffer_after sheet' names old
  unfolding buffer_after
  buffer-same names old = some_alike _ (refusal-same names) (rw (full-list-same names))

  -- and what is printed
  pub printed-same : (names : List ℕ) → printed sheet names ≡ printed sheet' names
  unfolding printed
  printed-same names = some_alike _ (refusal-same names) (rw (full-list-same names))
