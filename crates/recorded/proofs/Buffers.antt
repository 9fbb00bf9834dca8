-- The bytes of a buffer one by one: before a call each is the mark of its place, after it those of the written records are the file's.
use Prim.Native.Nat.{ℕ, zero, suc, ◌+◌, ◌-◌, ◌*◌, ◌/◌, ◌%◌, ◌≤◌, ◌<◌}
use mathlib.Core.Path.{◌≡◌, refl, ap, ◌∙◌}
use mathlib.Core.List.{List, [], ◌∷◌, ◌++◌}
use native.Mathlib.Decide.{dec_lt}
use native.Mathlib.Numerals.{add-one}
use native.Mathlib.Omega.{arith}
use lib.ListN.{length, get_or, take, drop, set, length-append, length-take, length-drop, get_or-append}
use lib.Seq.{take-suc-set, get_or_at, get_or-take, get_or-drop}
use Rattle.std.proofs.lemmas.List.{get_or-append_right}
use Rattle.rules.specs.Buffer.{violation_size, written_of}
use Rattle.recorded.specs.Buffer.{mark, marks, recorded_size, list_bytes, recorded_after}

pub length-marks : (n : ℕ) → length (marks n) ≡ n
unfolding marks
length-marks zero = refl
length-marks (suc n) = rw (length-append, length-marks n) (omega arith)

marks-at : (n i : ℕ) → i < n → get_or (marks n) i 0 ≡ mark i
unfolding marks
marks-at zero i h = absurd (omega arith)
marks-at (suc n) i h = go (marks-at n i) (dec_lt i n)
  where
    go : (i < n → get_or (marks n) i 0 ≡ mark i) → Dec (i < n) → get_or (marks n ++ mark n ∷ []) i 0 ≡ mark i
    go earlier (yes l) = get_or-append (marks n) (mark n ∷ []) 0 i (rw length-marks l) ∙ earlier l
    go earlier (no l) =
        let last : i ≡ n = omega arith in
        rw last (get_or_at (marks n) (mark n) [] 0 n (length-marks n))

-- filling a buffer: one place more has its mark
pub mark_next :
    (list : List ℕ) (i m : ℕ) → take i list ≡ marks i → m ≡ mark i → i < length list → take (i + 1) (set list i m) ≡ marks (i + 1)
unfolding marks
mark_next list i m before e h = rw (add-one i, e, take-suc-set list i (mark i) h, before)

length-listed : (n : ℕ) (violations : List ℕ) → recorded_size * n ≤ length violations → length (list_bytes n violations) ≡ violation_size * n
unfolding list_bytes
length-listed zero violations h = refl
length-listed (suc n) violations h =
    rw (length-append, length-take, length-listed n (drop recorded_size violations) (rw length-drop (omega arith))) (omega arith)

-- byte i of the list is byte i % violation_size of violation i / violation_size
listed_at :
    (n i : ℕ) (violations : List ℕ) → recorded_size * n ≤ length violations → i < violation_size * n →
    get_or (list_bytes n violations) i 0 ≡ get_or violations (recorded_size * (i / violation_size) + i % violation_size) 0
unfolding list_bytes
listed_at zero i violations h l = absurd (omega arith)
listed_at (suc n) i violations h l =
    go
    (λ s. listed_at n (i - violation_size) (drop recorded_size violations) (rw length-drop (omega arith)) (omega arith))
    (dec_lt i violation_size)
  where
    rest : List ℕ
    rest = list_bytes n (drop recorded_size violations)

    front : length (take violation_size violations) ≡ violation_size
    front = rw length-take (omega arith)

    go :
        (violation_size ≤ i → get_or rest (i - violation_size) 0 ≡ get_or (drop recorded_size violations) (recorded_size * ((i - violation_size) / violation_size) + (i - violation_size) % violation_size) 0) → Dec (i < violation_size) →
        get_or (take violation_size violations ++ rest) i 0 ≡ get_or violations (recorded_size * (i / violation_size) + i % violation_size) 0
    go later (yes s) =
        let place : recorded_size * (i / violation_size) + i % violation_size ≡ i = omega arith in
        rw place (get_or-append (take violation_size violations) rest 0 i (rw front s) ∙ get_or-take violation_size violations i 0 s)
    go later (no s) =
        let place : recorded_size + (recorded_size * ((i - violation_size) / violation_size) + (i - violation_size) % violation_size) ≡ recorded_size * (i / violation_size) + i % violation_size = omega arith in
        get_or-append_right (take violation_size violations) rest violation_size i 0 front (omega arith)
        ∙ later (omega arith)
        ∙ get_or-drop recorded_size violations (recorded_size * ((i - violation_size) / violation_size) + (i - violation_size) % violation_size) 0
        ∙ ap (λ (j : ℕ). get_or violations j 0) place

module _ (violations : List ℕ) (len : ℕ) where
  abbrev after : List ℕ
  after = recorded_after violations (marks len)

  abbrev k : ℕ
  k = written_of (length violations / recorded_size) len

  whole : recorded_size * k ≤ length violations
  whole = omega arith

  list : length (list_bytes k violations) ≡ violation_size * k
  list = length-listed k violations whole

  split : after ≡ list_bytes k violations ++ drop (violation_size * k) (marks len)
  unfolding recorded_after
  split = rw length-marks refl

  -- a buffer keeps its length
  pub length-after : length after ≡ len
  length-after = rw (split, length-append, list, length-drop, length-marks) (omega arith)

  -- a byte of a written record, and one behind them
  pub written_byte : (i : ℕ) → i / violation_size < k → get_or violations (recorded_size * (i / violation_size) + i % violation_size) 0 ≡ get_or after i 0
  written_byte i h =
      let within : i < violation_size * k = omega arith in
      rw
      (split, get_or-append (list_bytes k violations) (drop (violation_size * k) (marks len)) 0 i (rw list within), listed_at k i violations whole within)

  pub kept_byte : (i : ℕ) → k ≤ i / violation_size → i < len → mark i ≡ get_or after i 0
  kept_byte i h l =
      let place : violation_size * k + (i - violation_size * k) ≡ i = omega arith in
      rw (
        split,
        get_or-append_right (list_bytes k violations) (drop (violation_size * k) (marks len)) (violation_size * k) i 0 list (omega arith),
        get_or-drop (violation_size * k) (marks len) (i - violation_size * k) 0,
        place,
        marks-at len i l,
      )
