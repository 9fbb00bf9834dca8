-- A name's code tells its word, as the rules count the words: their codes count them from 1, and that of the name with no bytes is past them.
use Rattle.std.proofs.Common.{ℕ, ◌≤◌, ◌<◌, ◌≡◌, refl, ◌∙◌, Bool, true, false, ◌&&◌, List, arith, eqb, leb, ne_eqb, leb-false, Some, None}
use Rattle.std.proofs.lemmas.Grind.{common_steps}
use Rattle.rules.specs.Words.{number_if}
use Rattle.names.specs.Codes.{last_word}
use Rattle.names.specs.View.{entry_of, code_part, context_by}
use Rattle.names.specs.declared.words.Word.{Word}
use Rattle.names.specs.WordOf.{word_of, code_of}

by-range :
    (c w : ℕ) (low high : Bool) → leb 1 c ≡ low → leb c last_word ≡ high → 1 ≤ w → w ≤ last_word →
    eqb (number_if (low && high) c) w ≡ eqb c w
by-range c w true true l h f t = refl
by-range c w true false l h f t =
    let over : last_word < c = leb-false c last_word h in
    rw (ne_eqb 0 w (λ z. omega arith), ne_eqb c w (λ z. omega arith))
by-range c w false high l h f t =
    let under : c < 1 = leb-false 1 c l in
    rw (ne_eqb 0 w (λ z. omega arith), ne_eqb c w (λ z. omega arith))

module _ (table sheet : List ℕ) (i w : ℕ) (f : 1 ≤ w) (t : w ≤ last_word) (c : ℕ) (hc : c ≡ entry_of code_part table i) where
  -- the name is the word just if it has the word's code
  pub word-is : eqb ((context_by table sheet).word i) w ≡ eqb c w
  unfolding context_by
  word-is = rw hc (by-range (entry_of code_part table i) w _ _ refl refl f t)

  pub word-other : (c ≡ w → ⊥) → eqb ((context_by table sheet).word i) w ≡ false
  word-other h = word-is ∙ ne_eqb c w h

-- a code that is a word's is its code
pub coded : (c : ℕ) (w : Word) → word_of c ≡ Some w → c ≡ code_of w
unfolding word_of
coded c w h = grind (arith, common_steps)

-- a code that is no word's is none of the codes
pub uncoded : (c : ℕ) (w : Word) → word_of c ≡ None → c ≡ code_of w → ⊥
unfolding word_of
uncoded c w h e = grind (arith, common_steps)
