-- Rule 13: the first annotation with a word is found record by record, and some annotation has the word just if there is a first.
use Prim.Native.Nat.{ℕ, zero, suc, ◌+◌, ◌-◌, ◌≤◌, ◌<◌}
use mathlib.Core.Path.{◌≡◌, refl, sym, ◌∙◌}
use mathlib.Core.Bool.{Bool, true, false, ◌&&◌, ◌||◌}
use mathlib.Core.List.{List, [], ◌∷◌, ◌++◌, flat_map}
use native.Mathlib.Omega.{arith}
use lib.Dec.{leb, eqb}
use lib.ListN.{take}
use borrow.Author.Tests.{leb-true, leb-false}
use Rattle.std.specs.Prelude.{Option, Some, None, MatchOption, is_some}
use Rattle.rules.specs.declared.span.Span.{Span}
use Rattle.rules.specs.Words.{any_of, only_if, select, Item}
use Rattle.rules.specs.Context.{varint, zigzag}
use Rattle.rules.specs.Kind
use Rattle.rules.specs.Record.{Rec, is}
use Rattle.rules.specs.Rule.{Found, found_if}
use Rattle.rules.specs.Annotations.{annotations_of, is_word, combined_violations}
use Rattle.names.specs.Codes.{last_word}
use Rattle.names.specs.View.{view_at, view_of, context_by, entry_of, code_part}
use Rattle.diagnostic.specs.declared.violations.Violations.{Violations}
use Rattle.diagnostic.specs.Violations.{Adds}
use Rattle.diagnostic.proofs.Added.{adds_none}
use Rattle.annotations.specs.AnnotationAt.{annotation_at}
use Rattle.annotations.specs.FirstWith.{first_with, at_first}
use Rattle.annotations.proofs.Views.{annotations-next, annotations-other, annotations-none}
use Rattle.annotations.proofs.WordCodes.{word-is}

module _ (table sheet : List ℕ) (word e : ℕ) (from : 1 ≤ word) (to : word ≤ last_word) where
  -- record i is an annotation with the word
  abbrev pub has_word : ℕ → Bool
  has_word i = is Kind.Annotation (view_at sheet i) && eqb (entry_of code_part table i) word

  abbrev first : ℕ → List (Item (Rec ℕ Span))
  first i = first_with table sheet word i e

  next : (i : ℕ) → i < e → first i ≡ take 1 (only_if (has_word i) (annotation_at sheet i e ∷ []) ++ select (is_word (context_by table sheet) word) (annotations_of (view_of sheet (i + 1) e)))
  unfolding first_with select annotation_at view_at
  next i h = by (is Kind.Annotation (view_at sheet i)) refl
    where
      by :
          (b : Bool) → is Kind.Annotation (view_at sheet i) ≡ b →
          first i ≡ take 1 (only_if (has_word i) (annotation_at sheet i e ∷ []) ++ select (is_word (context_by table sheet) word) (annotations_of (view_of sheet (i + 1) e)))
      by true t = rw (annotations-next sheet i e h t, t, word-is table sheet i word from to _ refl)
      by false t = rw (annotations-other sheet i e h t, t)

  -- those before the first do not have it
  none-before :
      (n i j : ℕ) → i + n ≡ j → j ≤ e → ((k : ℕ) → i ≤ k → k < j → has_word k ≡ false) → first i ≡ first j
  unfolding first_with
  none-before zero i j h l none = let same : i ≡ j = omega arith in rw same
  none-before (suc n) i j h l none =
      rw (next i (omega arith), none i (omega arith) (omega arith)) (none-before n (i + 1) j (omega arith) l (λ k u v. none k (omega arith) v))

  pub first-is :
      (i : ℕ) (r : Option ℕ) → MatchOption r ((k : ℕ) → i ≤ k → k < e → has_word k ≡ false)
      (λ m. (i ≤ m) × (m < e) × (has_word m ≡ true) × ((k : ℕ) → i ≤ k → k < m → has_word k ≡ false)) →
      at_first sheet e r ≡ first i
  unfolding first_with select
  first-is i None h = by (leb e i) refl
    where
      by : (b : Bool) → leb e i ≡ b → [] ≡ first i
      by true t = rw (annotations-none sheet i e (leb-true e i t))
      by false t =
          let before : i < e = leb-false e i t in
          sym (none-before (e - i) i e (omega arith) (omega arith) h ∙ rw (annotations-none sheet e e (omega arith)))
  first-is i (Some m) h =
      sym (none-before (m - i) i m (omega (arith, h.0)) (omega (arith, h.1)) h.3 ∙ next m h.1 ∙ rw h.2)

module _ {A : Type 0} where
  some_of : List A → Bool
  some_of [] = false
  some_of (x ∷ xs) = true

  any-first : (p : A → Bool) (xs : List A) → any_of p xs ≡ some_of (take 1 (select p xs))
  unfolding any_of select some_of
  any-first p [] = refl
  any-first p (x ∷ xs) = by-test (p x) (any-first p xs)
    where
      by-test :
          (b : Bool) → any_of p xs ≡ some_of (take 1 (select p xs)) →
          b || any_of p xs ≡ some_of (take 1 (only_if b (x ∷ []) ++ select p xs))
      by-test true more = refl
      by-test false more = more

module _ (table sheet : List ℕ) (a e : ℕ) where
  abbrev at_zigzag : Item (Rec ℕ Span) → List (Found Span)
  at_zigzag a = found_if 13 true a.head.place

  abbrev combined : List (Found Span)
  combined = combined_violations (context_by table sheet) (annotations_of (view_of sheet a e))

  some-varint : (v : Option ℕ) → at_first sheet e v ≡ first_with table sheet varint a e → any_of (is_word (context_by table sheet) varint) (annotations_of (view_of sheet a e)) ≡ is_some v
  unfolding first_with some_of
  some-varint None h = any-first _ _ ∙ rw (← h)
  some-varint (Some i) h = any-first _ _ ∙ rw (← h)

  module _ (z : Option ℕ) (hz : at_first sheet e z ≡ first_with table sheet zigzag a e) where
    pub combined-alone : (vs : Violations) → z ≡ None → Adds vs vs combined
    unfolding combined_violations first_with flat_map
    combined-alone vs none = by (any_of (is_word (context_by table sheet) varint) (annotations_of (view_of sheet a e)))
      where
        by : (some : Bool) → Adds vs vs (only_if some (flat_map at_zigzag (first_with table sheet zigzag a e)))
        by true = rw (← hz, none) (adds_none vs)
        by false = adds_none vs

    pub combined-found :
        (v : Option ℕ) (i : ℕ) (both : Bool) (old new : Violations) → z ≡ Some i → at_first sheet e v ≡ first_with table sheet varint a e → both ≡ is_some v →
        Adds old new (found_if 13 both (view_at sheet i).place) → Adds old new combined
    unfolding combined_violations first_with flat_map annotation_at
    combined-found v i both old new here hv hb found = rw (some-varint v hv, ← hz, here, ← hb) (by both found)
      where
        by : (some : Bool) → Adds old new (found_if 13 some (view_at sheet i).place) → Adds old new (only_if some (flat_map at_zigzag (annotation_at sheet i e ∷ [])))
        by true found = found
        by false found = found
