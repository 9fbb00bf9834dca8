-- The sheet's bytes in chunks of 32 are its records, and the library reads the definitions' number from the bytes of one.
use Prim.Native.Nat.{ℕ, zero, suc, ◌+◌, ◌*◌, ◌/◌, ◌<◌}
use mathlib.Core.Path.{◌≡◌, refl, ap, ◌∙◌}
use mathlib.Core.List.{List, [], ◌∷◌}
use native.Mathlib.Omega.{arith}
use lib.ListN.{length, get_or, take, drop}
use Rattle.std.specs.Simd.{first_chunks}
use Rattle.std.proofs.lemmas.List.{drop-drop}
use Rattle.std.specs.Int.{from_le_bytes, w32, w64}
use Rattle.rules.specs.Record.{record_bytes, number_at, name_offset, name_length}
use Rattle.sheet.proofs.Numbers.{word_read, long-read}

chunk-at : (n : ℕ) (xs : List ℕ) (i : ℕ) (d : List ℕ) → i < n → get_or (first_chunks 32 n xs) i d ≡ take 32 (drop (32 * i) xs)
chunk-at zero xs i d h = absurd (omega arith)
chunk-at (suc n) xs zero d h = refl
chunk-at (suc n) xs (suc i) d h =
    let next : 32 + 32 * i ≡ 32 * suc i = omega arith in
    chunk-at n (drop 32 xs) i d (omega arith) ∙ ap (take 32) (drop-drop (32 * i) 32 xs ∙ ap (λ k. drop k xs) next)

pub record_read : (sheet : List ℕ) (chunks : List (List ℕ)) (i : ℕ) (d : List ℕ) → chunks ≡ first_chunks 32 (length sheet / 32) sheet → i < length sheet / 32
    → get_or chunks i d ≡ record_bytes sheet i
record_read sheet chunks i d e h = rw e (chunk-at (length sheet / 32) sheet i d h)

module _ (at : ℕ) (l : List ℕ) (a b c d : ℕ) (ha : a ≡ get_or l at 0) (hb : b ≡ get_or l (at + 1) 0) (hc : c ≡ get_or l (at + 2) 0) (hd : d ≡ get_or l (at + 3) 0) where
  pub number_4 : from_le_bytes w32 (a ∷ b ∷ c ∷ d ∷ []) ≡ number_at at 4 l
  number_4 = word_read at l a b c d _ ha hb hc hd (omega arith)

  pub number_8 :
      (e f g h : ℕ) → e ≡ get_or l (at + 4) 0 → f ≡ get_or l (at + 5) 0 → g ≡ get_or l (at + 6) 0 → h ≡ get_or l (at + 7) 0 →
      from_le_bytes w64 (a ∷ b ∷ c ∷ d ∷ e ∷ f ∷ g ∷ h ∷ []) ≡ number_at at 8 l
  number_8 e f g h he hf hg hh =
      let p₁ : at + 4 + 1 ≡ at + 5 = omega arith in
      let p₂ : at + 4 + 2 ≡ at + 6 = omega arith in
      let p₃ : at + 4 + 3 ≡ at + 7 = omega arith in
      let low : a + 256 * (b + 256 * (c + 256 * d)) ≡ number_at at 4 l = word_read at l a b c d _ ha hb hc hd refl in
      let high : e + 256 * (f + 256 * (g + 256 * h)) ≡ number_at (at + 4) 4 l = word_read (at + 4) l e f g h _ he (rw p₁ hf) (rw p₂ hg) (rw p₃ hh) refl in
      omega (arith, long-read at l _ _ low high)

pub name_ends : (b : List ℕ) (offset : ℕ) → offset ≡ from_le_bytes w32 (get_or b 4 0 ∷ get_or b 5 0 ∷ get_or b 6 0 ∷ get_or b 7 0 ∷ [])
    → offset + get_or b 2 0 ≡ name_offset b + name_length b
name_ends b offset e = ap (λ n. n + get_or b 2 0) (e ∙ number_4 4 b _ _ _ _ refl refl refl refl)
