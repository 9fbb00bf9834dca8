-- Blocks of a text. Two parts of a text that meet go on just if both do. So a part of the text goes on if its piece in each block does, and
-- the piece in a block that goes on needs no look.
use Prim.Native.Nat.{ℕ, zero, suc, ◌+◌, ◌-◌, ◌*◌, ◌/◌, ◌≤◌, ◌<◌, min, max}
use mathlib.Core.Path.{◌≡◌, refl, ◌∙◌, sym}
use mathlib.Core.Bool.{Bool, true, false, not, ◌&&◌, ◌||◌}
use mathlib.Core.List.{List, [], ◌∷◌, ◌++◌}
use native.Mathlib.Decide.{dec_lt}
use native.Mathlib.Omega.{arith}
use lib.Dec.{eqb}
use lib.ListN.{length, get_or, set, take, drop, replicate, length-drop}
use lib.Seq.{take-add, take_all, drop-drop, get_or-set_other}
use borrow.Author.Tests.{eqb-true, eqb-false}
use Rattle.std.specs.Prelude.{Option, Some, None}
use Rattle.std.proofs.lemmas.Bool.{and_parts}
use Rattle.rules.specs.Words.{any_of}
use Rattle.rules.proofs.Lists.{any_of-append}
use Rattle.rules.specs.Context.{valid_field_name}
use Rattle.sheet.specs.Mark.{HasMarks, starts_by, continues_by, continue_by}
use Rattle.sheet.proofs.Marks.{valid-by, bad-start, good_start}
use Rattle.names.specs.Code.{Judged}

neither-of : (a b : Bool) → not (a || b) ≡ (not a && not b)
neither-of true b = refl
neither-of false b = refl

-- what is known of a block after it was looked at is what was seen
stored : (blocks : List (Option Bool)) (k : ℕ) (good : Bool) → get_or (set blocks k (Some good)) k None ≡ Some true → good ≡ true
stored [] k good h = cc
stored (x ∷ blocks) zero good h = cc
stored (x ∷ blocks) (suc k) good h = stored blocks k good h

-- a text from a place on up to the end of the block that starts there, or to its own end
whole-block : (text : List ℕ) (at : ℕ) → at < length text → take (min (length text) (at + 64) - at) (drop at text) ≡ take 64 (drop at text)
whole-block text at l = go (dec_lt (length text) (at + 64))
  where
    go : Dec (length text < at + 64) → take (min (length text) (at + 64) - at) (drop at text) ≡ take 64 (drop at text)
    go (no more) =
        let size : min (length text) (at + 64) - at ≡ 64 = omega arith in
        rw size
    go (yes last) =
        let size = length-drop at text in
        take_all (min (length text) (at + 64) - at) (drop at text) (omega arith) ∙ sym (take_all 64 (drop at text) (omega arith))

module _ (marks : List ℕ) where
  joined : (xs ys : List ℕ) → continue_by marks (xs ++ ys) ≡ (continue_by marks xs && continue_by marks ys)
  unfolding continue_by
  joined xs ys = rw (any_of-append (λ b. not (continues_by marks b)) xs ys, neither-of)

  module _ (text : List ℕ) where
    -- a part up to a place within it, and from there on
    cut : (a m e : ℕ) → a ≤ m → m ≤ e → continue_by marks (take (e - a) (drop a text)) ≡ (continue_by marks (take (m - a) (drop a text)) && continue_by marks (take (e - m) (drop m text)))
    cut a m e l g =
        let both : e - a ≡ (m - a) + (e - m) = omega arith in
        let place : a + (m - a) ≡ m = omega arith in
        rw (both, take-add (m - a) (e - m) (drop a text), drop-drop (m - a) a text, place, joined)

    -- what a look at a block tells
    module _ (k end : ℕ) (good : Bool) (l : k * 64 < length text) (e : end ≡ min (length text) (k * 64 + 64)) (g : good ≡ continue_by marks (take (end - k * 64) (drop (k * 64) text))) where
      pub looked : good ≡ continue_by marks (take 64 (drop (k * 64) text))
      looked = rw (e, whole-block text (k * 64) l) at g

      pub judged_more : (blocks : List (Option Bool)) → Judged marks text blocks → Judged marks text (set blocks k (Some good))
      judged_more blocks judged j = decided (eqb j k) refl
        where
          decided : (same : Bool) → eqb j k ≡ same → get_or (set blocks k (Some good)) j None ≡ Some true → continue_by marks (take 64 (drop (j * 64) text)) ≡ true
          decided true e t =
              let here : j ≡ k = eqb-true j k e in
              rw here (sym looked ∙ stored blocks k good (rw here at t))
          decided false e t = judged j (rw (get_or-set_other blocks k j (Some good) None (eqb-false j k e)) at t)

    -- a piece of a block that goes on
    piece-told : (k a e : ℕ) → continue_by marks (take 64 (drop (k * 64) text)) ≡ true → k * 64 ≤ a → a ≤ e → e ≤ k * 64 + 64 → continue_by marks (take (e - a) (drop a text)) ≡ true
    piece-told k a e t l m n =
        let size : k * 64 + 64 - k * 64 ≡ 64 = omega arith in
        let piece : ℕ → ℕ → Bool = λ i j. continue_by marks (take (j - i) (drop i text)) in
        let behind = (and_parts (piece (k * 64) a) (piece a (k * 64 + 64)) (sym (cut (k * 64) a (k * 64 + 64) l (omega arith)) ∙ rw size t)).1 in
        (and_parts (piece a e) (piece e (k * 64 + 64)) (sym (cut a e (k * 64 + 64) m n) ∙ behind)).0

    -- a walk over the pieces of a part, block by block: the bytes from block k on decide, since those before go on
    pub record Walked (start end k : ℕ) : Type 0 where
      pub decide : continue_by marks (take (end - start) (drop start text)) ≡ continue_by marks (take (end - max start (k * 64)) (drop (max start (k * 64)) text))

    module _ (start end : ℕ) where
      pub walk_starts : Walked start end (start / 64)
      walk_starts =
          let here : max start (start / 64 * 64) ≡ start = omega arith in
          record { decide = rw here }

      pub walk_ends : (k : ℕ) → end ≤ k * 64 → Walked start end k → true ≡ continue_by marks (take (end - start) (drop start text))
      unfolding continue_by any_of
      walk_ends k l walked =
          let none : end - max start (k * 64) ≡ 0 = omega arith in
          sym (rw none at walked.decide)

      module _ (k from to : ℕ) (a : start / 64 ≤ k) (b : k * 64 < end) (c : start ≤ end) (f : from ≡ max start (k * 64)) (t : to ≡ k * 64 + min (end - k * 64) 64) (walked : Walked start end k) where
        parted : continue_by marks (take (end - start) (drop start text)) ≡ (continue_by marks (take (to - from) (drop from text)) && continue_by marks (take (end - to) (drop to text)))
        parted = walked.decide ∙ rw (← f) (cut from to end (omega arith) (omega arith))

        pub walk_stops : false ≡ continue_by marks (take (to - from) (drop from text)) → false ≡ continue_by marks (take (end - start) (drop start text))
        walk_stops h = sym (parted ∙ rw (sym h))

        pub walk_on : true ≡ continue_by marks (take (to - from) (drop from text)) → Walked start end (k + 1)
        walk_on h = record { decide = parted ∙ rw (sym h) (behind (dec_lt (k * 64 + 64) end)) }
          where
            behind : Dec (k * 64 + 64 < end) → continue_by marks (take (end - to) (drop to text)) ≡ continue_by marks (take (end - max start ((k + 1) * 64)) (drop (max start ((k + 1) * 64)) text))
            behind (yes l) =
                let same : max start ((k + 1) * 64) ≡ to = omega arith in
                rw same
            behind (no l) =
                let none : end - max start ((k + 1) * 64) ≡ 0 = omega arith in
                let none' : end - to ≡ 0 = omega arith in
                rw (none, none')

      pub walk_on_block : (k : ℕ) → start / 64 ≤ k → k * 64 < end → start ≤ end → Walked start end k → continue_by marks (take 64 (drop (k * 64) text)) ≡ true → Walked start end (k + 1)
      walk_on_block k a b c walked h =
          walk_on k (max start (k * 64)) (k * 64 + min (end - k * 64) 64) a b c refl refl walked
          (sym (piece-told k (max start (k * 64)) (k * 64 + min (end - k * 64) 64) h (omega arith) (omega arith) (omega arith)))

    -- at the start nothing is known
    pub judged_none : (n : ℕ) → Judged marks text (replicate n None)
    judged_none n k t = cc (nothing n k)
      where
        nothing : (m j : ℕ) → ◌≡◌ {A = Option Bool} (get_or (replicate m None) j None) None
        nothing zero j = refl
        nothing (suc m) zero = refl
        nothing (suc m) (suc j) = nothing m j

-- what decides whether a part of a text goes on, block by block
pub ruleset walks = (walk_starts, walk_ends, walk_stops)

-- what a look at a name's first byte, and at all its bytes, tells of it
pub spelled_none : (name : List ℕ) → length name ≡ 0 → false ≡ valid_field_name name
unfolding valid_field_name
spelled_none [] l = refl
spelled_none (b ∷ bs) l = absurd (omega arith)

module _ (marks : List ℕ) (has : HasMarks marks) (name : List ℕ) where
  pub spelled_badly : starts_by marks (get_or name 0 0) ≡ false → false ≡ valid_field_name name
  spelled_badly f = valid-by marks has name false (bad-start marks name false (sym f) refl)

  pub spelled_on : (length name ≡ 0 → ⊥) → starts_by marks (get_or name 0 0) ≡ true → continue_by marks name ≡ valid_field_name name
  spelled_on some t = valid-by marks has name _ (good_start marks name true _ some (sym t) refl refl)

pub ruleset spelled = (spelled_none, spelled_badly, spelled_on)
