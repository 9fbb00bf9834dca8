-- An item of a field list ends before the next begins, so it holds no items of its own, and without those it is the same.
use mathlib.Core.Path.{◌≡◌, refl, ap₂}
use mathlib.Core.Bool.{Bool, false, not}
use mathlib.Core.List.{List, [], ◌∷◌, map, append-nil}
use Rattle.rules.specs.Words.{any_of, front, Item}
use Rattle.rules.specs.Record.{Rec}
use Rattle.rules.specs.Grammar.{starts_field_item}
use Rattle.rules.specs.Bodies.{field_items}
use Rattle.rules.specs.Items.{field_lead}
use Rattle.rules.proofs.Every.{Every, every-nil, every-cons, every-as}
use Rattle.rules.proofs.Lists.{items-begin, front-past}

module _ {A : Type 0} where
  map_same : (f : A → A) {xs : List A} → Every (λ x. f x ≡ x) xs → map f xs ≡ xs
  map_same f every-nil = refl
  map_same f (every-cons e es) = ap₂ ◌∷◌ e (map_same f es)

  -- a list in which no piece begins stands before the first whole
  pub front-whole : (start : A → Bool) (xs : List A) → any_of start xs ≡ false → front (λ x. not (start x)) xs ≡ xs
  unfolding front
  front-whole start xs none = rw append-nil at (front-past start xs [] none)

module _ {N P : Type 0} where
  -- an item without the items of its fields
  abbrev pub cut_item : Item (Rec N P) → Item (Rec N P)
  cut_item it = record { head = it.head; rest = field_lead it }

  pub field_items-cut : (xs : List (Rec N P)) → map cut_item (field_items xs) ≡ field_items xs
  field_items-cut xs =
      map_same cut_item
      (every-as (λ it k. λ i. record { head = it.head; rest = front-whole starts_field_item it.rest k.1 i }) (items-begin starts_field_item xs))
