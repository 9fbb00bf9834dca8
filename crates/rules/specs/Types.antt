-- Types: what the rules ask of a type, bad keys, and rules 6 to 12 (`check_field_type`). A type is its records, in preorder.
use Rattle.std.specs.Prelude.{ℕ, Bool, true, false, not, ◌&&◌, ◌||◌, eqb}
use mathlib.Core.List.{List, [], ◌∷◌, ◌++◌, map, flat_map}
use Rattle.rules.specs.Words.{within, only_if, first_is, front, rest}
use Rattle.rules.specs.Kind
use Rattle.rules.specs.Sub
use Rattle.rules.specs.Record.{Rec, is}
use Rattle.rules.specs.Context.{ValidationContext, declared_as, is_known_type, chain_end}
use Rattle.rules.specs.Rule.{Found, found_if}

-- which parts of a type are checked: of a map the value alone, of a generic none, else every part
abbrev pub checked_parts : ℕ → List Bool
checked_parts k =
    elim (eqb k Kind.Map) [
      | true ↦ false ∷ true ∷ []
      | false ↦ map (λ part. not (eqb k Kind.Generic)) (Kind.parts_of k)
    ]

module _ {N P : Type 0} where
  -- rule 14: U16, U32, U64, Fixed32, Fixed64
  abbrev pub is_varint_valid_type : List (Rec N P) → Bool
  is_varint_valid_type =
      first_is
      (λ t. is Kind.Primitive t && (within Sub.U16 Sub.U64 t.sub || within Sub.Fixed32 Sub.Fixed64 t.sub))

  -- rule 15: I16, I32, I64
  abbrev pub is_zigzag_valid_type : List (Rec N P) → Bool
  is_zigzag_valid_type = first_is (λ t. is Kind.Primitive t && within Sub.I16 Sub.I64 t.sub)

  -- rule 16: numbers, "all primitives but Bool, Void; sub-byte"
  abbrev pub is_delta_valid_type : List (Rec N P) → Bool
  is_delta_valid_type = first_is (λ t. is Kind.Primitive t && within Sub.U8 Sub.Fixed64 t.sub || is Kind.SubByte t)

  -- string or bytes
  abbrev pub is_text : Rec N P → Bool
  is_text t = is Kind.Semantic t && within Sub.String Sub.Bytes t.sub

  -- rule 17: string, bytes, array, fixed array, set, map
  abbrev pub is_limit_valid_type : List (Rec N P) → Bool
  is_limit_valid_type = first_is (λ t. is_text t || within Kind.Array Kind.Map t.kind)

  -- rule 19: "those except fixed array"
  abbrev pub is_limit_capped_type : List (Rec N P) → Bool
  is_limit_capped_type ty = is_limit_valid_type ty && not (first_is (is Kind.FixedArray) ty)

  -- rule 10: F32, F64, Fixed32, Fixed64
  abbrev pub is_valid_geometric_element_type : List (Rec N P) → Bool
  is_valid_geometric_element_type = first_is (λ t. is Kind.Primitive t && within Sub.F32 Sub.Fixed64 t.sub)

  -- "Numeric is delta's list; it and len's see through optional"
  abbrev pub is_numeric_type : List (Rec N P) → Bool
  is_numeric_type ty = is_delta_valid_type (rest (is Kind.Optional) ty)

  -- rule 30: string, bytes, array, fixed array
  abbrev pub is_collection_type : List (Rec N P) → Bool
  is_collection_type ty =
      first_is (λ t. is_text t || within Kind.Array Kind.FixedArray t.kind) (rest (is Kind.Optional) ty)

module _ {N P : Type 0} (ctx : ValidationContext N P) where
  -- a declared message, union or config
  abbrev pub is_without_key : N → Bool
  is_without_key name = declared_as ctx Sub.Message name || declared_as ctx Sub.Union name || declared_as ctx Sub.Config name

  -- bad keys: "F32, F64, Void, optional, array, set, map, result, declared message, union or config",
  unfoldable pub is_invalid_end : Rec N P → Bool
  is_invalid_end t =
      is Kind.Primitive t && (within Sub.F32 Sub.F64 t.sub || eqb t.sub Sub.Void)
      || within Kind.Optional Kind.Array t.kind
      || within Kind.Set Kind.Result t.kind
      || is Kind.Named t && is_without_key t.name

  -- "a newtype of a bad inner type"
  unfoldable pub is_invalid_map_key : Rec N P → Bool
  is_invalid_map_key r = is_invalid_end (chain_end ctx ctx.declarations r)

  -- rule 8 at a key, which is the first of the records
  abbrev pub key_violations : List (Rec N P) → List (Found P)
  key_violations [] = []
  key_violations (key ∷ rs) = found_if 8 (is_invalid_map_key key) key.place

  -- rule 10 at an element, which is the first of the records
  abbrev pub element_violations : List (Rec N P) → List (Found P)
  element_violations [] = []
  element_violations (element ∷ rs) = found_if 10 (not (is_valid_geometric_element_type (element ∷ rs))) element.place

  -- rules 11 and 12 at a type with those bit names
  abbrev pub bit_name_violations : P → List (Rec N P) → List (Found P)
  bit_name_violations place [] = found_if 11 true place
  bit_name_violations place (b ∷ bs) = flat_map (λ bit. found_if 12 (not (ctx.is_valid_field_name bit.name)) place) (b ∷ bs)

  -- rules 6 to 12 at a type with those records after it
  unfoldable pub own_type_violations : Rec N P → List (Rec N P) → List (Found P)
  own_type_violations t rs =
      found_if 6 (is Kind.Named t && declared_as ctx Sub.Config t.name) t.place
      ++ found_if 7 (is Kind.Named t && not (is_known_type ctx t.name)) t.place
      ++ only_if (within Kind.Set Kind.Map t.kind) (key_violations rs)
      ++ found_if 9 (is Kind.FixedArray t && eqb t.value 0) t.place
      ++ only_if (within Kind.Vec2 Kind.Mat4 t.kind) (element_violations rs)
      ++ only_if (is Kind.BitsInline t) (bit_name_violations t.place (front (is Kind.BitName) rs))

  -- rules 6 to 12 along the records, with a test for each type that is due: whether it is checked
  unfoldable pub types_violations : List Bool → List (Rec N P) → List (Found P)
  types_violations due [] = []
  types_violations [] (t ∷ rs) = []
  types_violations (checked ∷ due) (t ∷ rs) =
      elim (is Kind.BitName t) [
        | true ↦ types_violations (checked ∷ due) rs
        | false ↦ only_if checked (own_type_violations t rs)
            ++ types_violations (map (λ part. checked && part) (checked_parts t.kind) ++ due) rs
      ]

  -- rules 6 to 12 of a type
  abbrev pub type_violations : List (Rec N P) → List (Found P)
  type_violations ty = types_violations (true ∷ []) ty
