-- Annotations (`check_field_annotations`): rules 13 to 22, at the annotation.
use Rattle.std.specs.Prelude.{ℕ, Bool, true, not, ◌&&◌, take, ltb, eqb}
use mathlib.Core.List.{List, [], ◌∷◌, ◌++◌, flat_map}
use Rattle.rules.specs.Words.{within, only_if, any_of, select, Item, items}
use Rattle.rules.specs.Kind
use Rattle.rules.specs.Sub
use Rattle.rules.specs.Record.{Rec, is}
use Rattle.rules.specs.Context.{ValidationContext, varint, zigzag, delta, limit, deprecated, doc, reason}
use Rattle.rules.specs.Rule.{Found, found_if}
use Rattle.rules.specs.Types.{is_varint_valid_type, is_zigzag_valid_type, is_delta_valid_type, is_limit_valid_type, is_limit_capped_type}

-- rule 19: the greatest limit
abbrev pub max_limit : ℕ
max_limit = 16777216

module _ {N P : Type 0} where
  -- the annotations among records, each with its arguments
  abbrev pub annotations_of : List (Rec N P) → List (Item (Rec N P))
  annotations_of = items (is Kind.Annotation)

module _ {N P : Type 0} (ctx : ValidationContext N P) where
  -- the annotation has that name
  abbrev pub is_word : ℕ → Item (Rec N P) → Bool
  is_word w a = eqb (ctx.word a.head.name) w

  -- rules 18 and 19 at one argument of a limit
  abbrev pub limit_value_violations : List (Rec N P) → P → Rec N P → List (Found P)
  limit_value_violations ty place argument =
      only_if (ctx.blank argument.name && within Sub.IntArgument Sub.HexArgument argument.sub)
      (found_if 18 (eqb argument.value 0) place ++ found_if 19 (ltb max_limit argument.value && is_limit_capped_type ty) place)

  -- rules 20 and 21 (`check_deprecated_has_reason`)
  abbrev pub has_reason : Item (Rec N P) → Bool
  has_reason a = any_of (λ argument. eqb (ctx.word argument.name) reason) a.rest

  abbrev pub deprecated_violations : Item (Rec N P) → List (Found P)
  deprecated_violations a = found_if 20 (not (has_reason a)) a.head.place ++ found_if 21 (has_reason a) a.head.place

  -- rules 14 to 21 at one annotation of a field of that type
  unfoldable pub annotation_violations : List (Rec N P) → Item (Rec N P) → List (Found P)
  annotation_violations ty a =
      found_if 14 (is_word varint a && not (is_varint_valid_type ty)) a.head.place
      ++ found_if 15 (is_word zigzag a && not (is_zigzag_valid_type ty)) a.head.place
      ++ found_if 16 (is_word delta a && not (is_delta_valid_type ty)) a.head.place
      ++ found_if 17 (is_word limit a && not (is_limit_valid_type ty)) a.head.place
      ++ only_if (is_word limit a) (flat_map (limit_value_violations ty a.head.place) a.rest)
      ++ only_if (is_word deprecated a) (deprecated_violations a)

  -- rule 13: varint and zigzag both, at the first zigzag
  unfoldable pub combined_violations : List (Item (Rec N P)) → List (Found P)
  combined_violations anns =
      only_if (any_of (is_word varint) anns)
      (flat_map (λ a. found_if 13 true a.head.place) (take 1 (select (is_word zigzag) anns)))

  -- rule 22 (`check_duplicate_annotations`): each repeat of a name but `doc`, after annotations of those names
  unfoldable pub duplicate_annotations : List N → List (Item (Rec N P)) → List (Found P)
  duplicate_annotations names [] = []
  duplicate_annotations names (a ∷ anns) =
      found_if 22 (not (is_word doc a) && any_of (ctx.same a.head.name) names) a.head.place
      ++ duplicate_annotations (a.head.name ∷ names) anns

  -- rules 13 to 22 of a field of that type
  unfoldable pub annotations_violations : List (Rec N P) → List (Rec N P) → List (Found P)
  annotations_violations ty rs =
      let anns = annotations_of rs in
      combined_violations anns ++ flat_map (annotation_violations ty) anns ++ duplicate_annotations [] anns
