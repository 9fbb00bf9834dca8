-- The code of a name that may be a word tells its length and its bytes, so what a match on them finds decides the code.
use Prim.Native.Nat.{ℕ, suc}
use mathlib.Core.Path.{◌≡◌, refl, ◌∙◌, ap}
use mathlib.Core.Bool.{Bool, true, false}
use mathlib.Core.List.{List, [], ◌∷◌}
use mathlib.Core.Logic.{◌⊎◌, inl, inr}
use native.Mathlib.Omega.{arith}
use lib.ListN.{length, get_or}
use borrow.Author.Tests.{eq-eqb, ne_eqb}
use Rattle.std.proofs.lemmas.Slice.Eq.{HasBytesAt, text_from_reads}
use Rattle.rules.specs.Kind
use Rattle.rules.specs.Words.{number_if, same_bytes}
use Rattle.rules.specs.Context.{words, word_from, valid_field_name}
use Rattle.rules.specs.Asked.{is_worded}
use Rattle.rules.proofs.Moved.{same_bytes-tells}
use Rattle.names.specs.NameTable.{word_code, code_of}
use Rattle.names.specs.Codes.{blank_code, bit_code}

shifted : (x : ℕ) (s : List ℕ) (i : ℕ) (p : List ℕ) → HasBytesAt s i p → HasBytesAt (x ∷ s) (suc i) p
shifted x s i [] h = tt
shifted x s i (c ∷ p) h = (h.0, shifted x s (suc i) p h.1)

itself : (w : List ℕ) → HasBytesAt w 0 w
itself [] = tt
itself (c ∷ w) = (refl, shifted c w 0 w (itself w))

-- the code is that of a word whose bytes the name has, or 0
abbrev Told : ℕ → List (List ℕ) → ℕ → List ℕ → Type 0
Told n [] code name = code ≡ 0
Told n (w ∷ ws) code name = ((code ≡ n) × (length name ≡ length w) × HasBytesAt name 0 w) ⊎ Told (suc n) ws code name

told : (n : ℕ) (ws : List (List ℕ)) (name : List ℕ) → Told n ws (word_from n ws name) name
unfolding word_from
told n [] name = refl
told n (w ∷ ws) name = decided (same_bytes w name) refl (told (suc n) ws name)
  where
    decided :
        (same : Bool) → same_bytes w name ≡ same → Told (suc n) ws (word_from (suc n) ws name) name →
        Told n (w ∷ ws) (elim same [ true ↦ n | false ↦ word_from (suc n) ws name ]) name
    decided true e others = rw (← same_bytes-tells w name e) (inl (refl, refl, itself w))
    decided false e others = inr others

-- the code of a name, by its bytes
pub word_told : (name : List ℕ) → ((word_code name ≡ blank_code) × (length name ≡ 0)) ⊎ Told 1 words (word_code name) name
unfolding word_code word_from same_bytes
word_told [] = inl (refl, refl)
word_told (b ∷ name) =
    let code : word_code (b ∷ name) ≡ word_from 1 words (b ∷ name) = omega arith in
    inr (rw code (told 1 words (b ∷ name)))

-- a name that has the bytes of a word has its code
abbrev Read : ℕ → List (List ℕ) → ℕ → List ℕ → Type 0
Read n [] code name = length name ≡ 0 → code ≡ blank_code
Read n (w ∷ ws) code name = (length name ≡ length w → HasBytesAt name 0 w → code ≡ n) × Read (suc n) ws code name

pub word_read : (name : List ℕ) → Read 1 words (word_code name) name
unfolding word_code word_from same_bytes
word_read name =
    (is 0 refl, (is 1 refl, (is 2 refl, (is 3 refl, (is 4 refl, (is 5 refl, (is 6 refl, blank name)))))))
  where
    is : (k : ℕ) {n : ℕ} → word_code (get_or words k []) ≡ n → length name ≡ length (get_or words k []) → HasBytesAt name 0 (get_or words k []) → word_code name ≡ n
    is k e l h = ap word_code (text_from_reads name (get_or words k []) l h) ∙ e

    blank : (xs : List ℕ) → length xs ≡ 0 → word_code xs ≡ blank_code
    blank [] l = refl
    blank (x ∷ xs) l = absurd (omega arith)

-- the code by the kind, which was asked first whether the name may be a word
module _ (kind : ℕ) (name : List ℕ) where
  pub worded_code : is_worded kind ≡ true → word_code name ≡ code_of kind name
  unfolding code_of
  worded_code t = rw (t, code_of)

  pub unasked_code : is_worded kind ≡ false → (kind ≡ Kind.BitName → ⊥) → 0 ≡ code_of kind name
  unfolding code_of
  unasked_code f other = rw (f, code_of, ne_eqb kind Kind.BitName other)

  pub judged_code : is_worded kind ≡ false → kind ≡ Kind.BitName → number_if (valid_field_name name) bit_code ≡ code_of kind name
  unfolding code_of
  judged_code f e = rw (f, code_of, eq-eqb kind Kind.BitName e)

-- what decides the code of a name
pub ruleset codes = (worded_code, unasked_code, judged_code)
