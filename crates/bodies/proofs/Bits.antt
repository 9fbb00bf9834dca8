-- Rule 34: of the records of flags, each bit is asked for its position, and nothing else is told.
use Rattle.std.proofs.Common.{◌≡◌, ℕ, Bool, true, false, List, [], ◌∷◌, refl, append-nil, ltb}
use mathlib.Core.List.{flat_map}
use Rattle.rules.specs.Words.{items}
use Rattle.rules.specs.Kind
use Rattle.rules.specs.Record.{Rec, is}
use Rattle.rules.specs.Context.{ValidationContext}
use Rattle.rules.specs.Grammar.{starts_item}
use Rattle.rules.specs.Rule.{Found, found_if}
use Rattle.rules.specs.Bodies.{max_bit, flags_scheme, body_items, slots, retired_ordinals, member_violations, items_violations, flags_violations}
use Rattle.bodies.specs.Bit.{bit_found}
use Rattle.bodies.proofs.BodyItems.{item-member, no_item}

module _ {N P : Type 0} (ctx : ValidationContext N P) where
  -- of the scheme's rules only the first is there
  member-bit :
      (gone met : List ℕ) (names : List N) (r : Rec N P) →
      member_violations ctx flags_scheme gone met names r ≡ found_if 34 (ltb max_bit r.value) r.ordinal_place
  unfolding member_violations flat_map
  member-bit gone met names r = simp append-nil

  -- what is found at the items of records, after others
  abbrev found : List ℕ → List ℕ → List N → List (Rec N P) → List (Found P)
  found gone met names rs = items_violations ctx flags_scheme (λ it. []) gone met names (body_items rs)

  items-bits : (gone met : List ℕ) (names : List N) (rs : List (Rec N P)) → found gone met names rs ≡ flat_map bit_found rs
  unfolding items_violations items flat_map bit_found
  items-bits gone met names [] = refl
  items-bits gone met names (r ∷ rs) = go (starts_item r) (is Kind.Variant r) refl refl (λ met names. items-bits gone met names rs)
    where
      go :
          (b v : Bool) → starts_item r ≡ b → is Kind.Variant r ≡ v →
          ((met : List ℕ) (names : List N) → found gone met names rs ≡ flat_map bit_found rs) →
          found gone met names (r ∷ rs) ≡ flat_map bit_found (r ∷ rs)
      go true true st bit later =
          rw (st, items, item-member r st, bit, items_violations, member-bit gone met names r, append-nil, later (r.value ∷ met) (r.name ∷ names))
      go true false st bit later = rw (st, items, item-member r st, bit, items_violations, later met names)
      go false v st bit later = rw (st, items, no_item r st, later met names)

  pub flags_bits : (rs : List (Rec N P)) → flags_violations ctx rs ≡ flat_map bit_found rs
  unfolding flags_violations
  flags_bits rs = items-bits (retired_ordinals (slots (body_items rs))) [] [] rs
