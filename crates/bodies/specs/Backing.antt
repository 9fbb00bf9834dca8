-- Rule 33, record by record.
use mathlib.Core.List.{List, flat_map}
use Rattle.std.specs.Prelude.{ltb}
use Rattle.rules.specs.Words.{any_of, only_if}
use Rattle.rules.specs.Kind
use Rattle.rules.specs.Record.{Rec, is}
use Rattle.rules.specs.Rule.{Found, found_if}
use Rattle.rules.specs.Bodies.{backing_max, body_items, slots, used_ordinals}

module _ {N P : Type 0} (body : List (Rec N P)) where
  -- at one record of that body
  unfoldable pub narrow_found : Rec N P → List (Found P)
  narrow_found b = only_if (is Kind.Backing b) (found_if 33 (any_of (ltb (backing_max b.sub)) (used_ordinals (slots (body_items body)))) b.place)

  -- at those records of it
  abbrev pub backings_from : List (Rec N P) → List (Found P)
  backings_from rs = flat_map narrow_found rs
