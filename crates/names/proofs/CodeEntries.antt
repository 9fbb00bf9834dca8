-- The code tells the words and the name with no bytes apart, and the names that a bit may have; so what the rules ask of a name is a test of its code.
use Prim.Native.Nat.{ℕ, zero, suc, ◌+◌, ◌≤◌}
use native.Mathlib.Omega.{arith}
use mathlib.Core.Path.{◌≡◌, refl, sym}
use mathlib.Core.Bool.{Bool, true, false}
use mathlib.Core.List.{List, [], ◌∷◌}
use lib.ListN.{length}
use lib.Dec.{eqb}
use borrow.Author.Tests.{le-leb, ne_eqb}
use Rattle.rules.specs.Words.{within, number_if, same_bytes}
use Rattle.rules.specs.Context.{words, word_from, is_blank}
use Rattle.names.specs.NameTable.{word_code}
use Rattle.names.specs.Codes.{last_word, blank_code, bit_code}

word_bound : (n : ℕ) (ws : List (List ℕ)) (name : List ℕ) → word_from (suc n) ws name ≤ n + length ws
unfolding word_from
word_bound n [] name = omega arith
word_bound n (w ∷ ws) name = go (same_bytes w name) (word_bound (suc n) ws name)
  where
    go :
        (b : Bool) →
        word_from (suc (suc n)) ws name ≤ suc n + length ws →
        (elim b as (λ x. ℕ) [ true ↦ suc n | false ↦ word_from (suc (suc n)) ws name ]) ≤ n + suc (length ws)
    go true h = omega arith
    go false h = omega arith

-- the name with no bytes is none of the words
word-nil : word_from 1 words [] ≡ 0
unfolding word_from same_bytes
word-nil = refl

inside : (w : ℕ) → w ≤ last_word → number_if (within 1 last_word w) w ≡ w
inside zero h = refl
inside (suc w) h = rw (le-leb 1 (suc w) (omega arith), le-leb (suc w) 7 h)

code-nil : word_code [] ≡ blank_code
unfolding word_code
code-nil = rw word-nil

-- the code of a name with bytes is the word that it is
code-cons : (b : ℕ) (bs : List ℕ) → word_code (b ∷ bs) ≡ word_from 1 words (b ∷ bs)
unfolding word_code
code-cons b bs = omega arith

pub code-word : (name : List ℕ) → word_from 1 words name ≡ number_if (within 1 last_word (word_code name)) (word_code name)
code-word [] = rw (code-nil, word-nil)
code-word (b ∷ bs) = rw (code-cons b bs) (sym (inside (word_from 1 words (b ∷ bs)) (word_bound 0 words (b ∷ bs))))

pub code-blank : (name : List ℕ) → is_blank name ≡ eqb (word_code name) blank_code
code-blank [] = rw code-nil
code-blank (b ∷ bs) =
    let bound = word_bound 0 words (b ∷ bs) in
    rw (code-cons b bs) (sym (ne_eqb (word_from 1 words (b ∷ bs)) blank_code (λ e. omega arith)))

pub code-valid : (valid : Bool) → valid ≡ eqb (number_if valid bit_code) bit_code
code-valid true = refl
code-valid false = refl
