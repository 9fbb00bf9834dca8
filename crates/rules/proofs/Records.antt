-- Record i of a sheet. `records` decodes the sheet piece by piece, and i pieces stand before piece i, so it is `record_bytes sheet i`:
-- its place among the records, and each byte of it, are read off the sheet.
use Prim.Native.Nat.{ℕ, zero, suc, ◌+◌, ◌*◌, ◌/◌, ◌≤◌, ◌<◌}
use mathlib.Core.Path.{◌≡◌, refl, ◌∙◌, ap}
use mathlib.Core.List.{List, [], ◌∷◌, map}
use native.Mathlib.Nat.{add-zero}
use native.Mathlib.Numerals.{add-one}
use native.Mathlib.Omega.{arith}
use lib.ListN.{length, get_or, take, drop, length-map, drop_of_length-le}
use lib.Seq.{drop-cons, drop-drop, take-nil, get_or-take, get_or-drop}
use Rattle.rules.specs.declared.span.Span.{Span}
use Rattle.rules.specs.Words.{number}
use Rattle.rules.specs.Record.{Rec, record_size, decode, number_at, pieces, record_bytes, records}

-- a number of no bytes is 0
number-none : (n : ℕ) → number (take n []) ≡ 0
unfolding number
number-none n = simp take-nil

number-first : (n : ℕ) (l : List ℕ) → number (take (suc n) l) ≡ get_or l 0 0 + 256 * number (take n (drop 1 l))
unfolding number
number-first n [] = simp number-none
number-first n (x ∷ l) = refl

-- a number is its first byte and 256 times the number in the bytes after it, also where the list ends early
pub number_at-first : (at n : ℕ) (l : List ℕ) → number_at at (suc n) l ≡ get_or l at 0 + 256 * number_at (at + 1) n l
number_at-first at n l = rw (number-first n (drop at l), drop-drop 1 at l, get_or-drop at l 0 0, add-zero)

-- a byte within record i stands i records further in the sheet
pub byte-of-record : (j i : ℕ) (sheet : List ℕ) (d : ℕ) → j < record_size → get_or (record_bytes sheet i) j d ≡ get_or sheet (record_size * i + j) d
byte-of-record j i sheet d h = rw (get_or-take record_size (drop (record_size * i) sheet) j d h, get_or-drop (record_size * i) sheet j d)

length-pieces : (n : ℕ) (sheet : List ℕ) → length (pieces n sheet) ≡ n
unfolding pieces
length-pieces zero sheet = refl
length-pieces (suc n) sheet = ap suc (length-pieces n (drop record_size sheet))

pieces-at : (n i : ℕ) (sheet d : List ℕ) → i < n → get_or (pieces n sheet) i d ≡ record_bytes sheet i
unfolding pieces
pieces-at zero i sheet d h = absurd (omega arith)
pieces-at (suc n) zero sheet d h = refl
pieces-at (suc n) (suc i) sheet d h =
    let next : record_size + record_size * i ≡ record_size * suc i = omega arith in
    pieces-at n i (drop record_size sheet) d (omega arith) ∙ rw (drop-drop (record_size * i) record_size sheet, next)

get_d_map : {A B : Type 0} (f : A → B) (l : List A) (i : ℕ) (d : B) (e : A) → i < length l → get_or (map f l) i d ≡ f (get_or l i e)
get_d_map f [] i d e h = absurd (omega arith)
get_d_map f (x ∷ l) zero d e h = refl
get_d_map f (x ∷ l) (suc i) d e h = get_d_map f l i d e (omega arith)

-- as many records as whole pieces
pub length-records : (sheet names : List ℕ) → length (records sheet names) ≡ length sheet / record_size
unfolding records
length-records sheet names = rw (length-map, length-pieces)

-- the record at place i is what its bytes decode to
pub records-at :
    (sheet names : List ℕ) (i : ℕ) (d : Rec (List ℕ) Span) → i < length sheet / record_size →
    get_or (records sheet names) i d ≡ decode names (record_bytes sheet i)
unfolding records
records-at sheet names i d h =
    get_d_map (decode names) (pieces (length sheet / record_size) sheet) i d [] (rw length-pieces h)
    ∙ ap (decode names) (pieces-at (length sheet / record_size) i sheet [] h)

-- from place i on: that record, and the records from the next place on
pub records-drop :
    (sheet names : List ℕ) (i : ℕ) → i < length sheet / record_size →
    drop i (records sheet names) ≡ decode names (record_bytes sheet i) ∷ drop (i + 1) (records sheet names)
records-drop sheet names i h =
    let d : Rec (List ℕ) Span = decode names [] in
    rw (drop-cons (records sheet names) i d (rw length-records h), records-at sheet names i d h, add-one)

-- from the end on: none
pub records-end : (sheet names : List ℕ) (i : ℕ) → length sheet / record_size ≤ i → drop i (records sheet names) ≡ []
records-end sheet names i h = drop_of_length-le (records sheet names) {i = i} (rw length-records h)
