-- The bit names at the start of the records are told one by one.
use Rattle.std.proofs.Common.{◌≡◌, ℕ, ◌+◌, ◌<◌, ◌≤◌, Bool, true, false, not, List, [], ◌∷◌, ◌++◌, refl, eq-eqb, ne_eqb}
use mathlib.Core.List.{flat_map}
use Rattle.rules.specs.declared.span.Span.{Span}
use Rattle.rules.specs.Words.{first_is, front}
use Rattle.rules.specs.Kind
use Rattle.rules.specs.Record.{Rec, is, record_bytes, kind_in}
use Rattle.rules.specs.Context.{ValidationContext}
use Rattle.rules.specs.Types.{bit_name_violations}
use Rattle.rules.specs.Rule.{Found, found_if}
use Rattle.names.specs.View.{view_at, view_of}
use Rattle.types.proofs.Views.{view-cons, view-none}

module _ {A : Type 0} (p : A → Bool) (x : A) (xs : List A) where
  front-passed : p x ≡ true → front p (x ∷ xs) ≡ x ∷ front p xs
  unfolding front
  front-passed h = rw (front, h)

  front-stopped : p x ≡ false → front p (x ∷ xs) ≡ []
  unfolding front
  front-stopped h = rw (front, h)

module _ (ctx : ValidationContext ℕ Span) (span : Span) where
  -- rule 12 at those bit names
  unfoldable pub bits_found : List (Rec ℕ Span) → List (Found Span)
  bits_found bs = flat_map (λ bit. found_if 12 (not (ctx.is_valid_field_name bit.name)) span) bs

  -- rule 11 is asked of all the bit names, and rule 12 of each
  pub bit-rules :
      (rs : List (Rec ℕ Span)) →
      bit_name_violations ctx span (front (is Kind.BitName) rs)
      ≡ found_if 11 (not (first_is (is Kind.BitName) rs)) span ++ bits_found (front (is Kind.BitName) rs)
  unfolding front bits_found flat_map
  bit-rules [] = refl
  bit-rules (r ∷ rs) = by (is Kind.BitName r) refl
    where
      by :
          (bit : Bool) → is Kind.BitName r ≡ bit →
          bit_name_violations ctx span (front (is Kind.BitName) (r ∷ rs))
          ≡ found_if 11 (not (is Kind.BitName r)) span ++ bits_found (front (is Kind.BitName) (r ∷ rs))
      by true h = rw (front-passed (is Kind.BitName) r rs h, h)
      by false h = rw (front-stopped (is Kind.BitName) r rs h, h)

  module _ (sheet : List ℕ) (i e : ℕ) where
    abbrev pub bits_from : List (Found Span)
    bits_from = bits_found (front (is Kind.BitName) (view_of sheet i e))

    -- a bit name is told and passed; any other record, or the end, leaves nothing to tell
    pub bit-next :
        i < e → kind_in (record_bytes sheet i) ≡ Kind.BitName →
        bits_from ≡ found_if 12 (not (ctx.is_valid_field_name i)) span ++ bits_found (front (is Kind.BitName) (view_of sheet (i + 1) e))
    unfolding view_at bits_found flat_map
    bit-next h bit = rw (view-cons sheet i e h, front-passed (is Kind.BitName) (view_at sheet i) (view_of sheet (i + 1) e) (eq-eqb _ _ bit))

    pub bit-over : i < e → (kind_in (record_bytes sheet i) ≡ Kind.BitName → ⊥) → bits_from ≡ []
    unfolding view_at bits_found flat_map
    bit-over h other = rw (view-cons sheet i e h, front-stopped (is Kind.BitName) (view_at sheet i) (view_of sheet (i + 1) e) (ne_eqb _ _ other))

    pub bit-end : e ≤ i → bits_from ≡ []
    unfolding bits_found flat_map front
    bit-end h = rw (view-none sheet i e h)
