-- The rules of a field find at most three times as many violations as its records: a type has one (or one for each of its bit names), an
-- annotation three and each of its arguments one, a condition one of its own and one for each of its two operands.
use Prim.Native.Nat.{ℕ, suc, ◌+◌, ◌*◌, ◌≤◌, zero-le}
use native.Mathlib.Nat.{le_refl, le_of_eq, le_trans}
use native.Mathlib.Omega.{arith}
use mathlib.Core.Path.{◌≡◌, refl}
use mathlib.Core.Bool.{Bool, true, false, not, ◌&&◌, ◌||◌}
use mathlib.Core.List.{List, [], ◌∷◌, ◌++◌, map, flat_map}
use mathlib.Core.Option.{Option, some, none}
use lib.ListN.{length, length-append, take}
use lib.Dec.{eqb, ltb}
use borrow.Author.Tests.{eqb-true, ltb-true}
use Rattle.rules.specs.Words.{within, any_of, select, front, rest, Item}
use Rattle.rules.specs.Kind
use Rattle.rules.specs.Sub
use Rattle.rules.specs.Record.{Rec, is}
use Rattle.rules.specs.Context.{ValidationContext, is_known_const, varint, zigzag, delta, limit, deprecated, doc}
use Rattle.rules.specs.Rule.{found_if}
use Rattle.rules.specs.Types.{own_type_violations, types_violations, key_violations, element_violations, bit_name_violations, checked_parts, is_invalid_map_key, is_numeric_type, is_collection_type, is_varint_valid_type, is_zigzag_valid_type, is_delta_valid_type, is_limit_valid_type, is_limit_capped_type, is_valid_geometric_element_type}
use Rattle.rules.specs.Annotations.{annotation_violations, combined_violations, duplicate_annotations, annotations_violations, limit_value_violations, has_reason, is_word, annotations_of, max_limit}
use Rattle.rules.specs.Conditions.{Literals, operand_violations, own_condition_violations, condition_violations, operands_of, literals_of, length_literals}
use Rattle.rules.specs.Bodies.{field_violations, type_part, annotation_part, condition_part, in_type, in_annotations}
use Rattle.rules.specs.Answer.{most_per_record}
use Rattle.rules.proofs.Joined.{length-select}
use Rattle.rules.proofs.Lengths.{one, one-bound, one-and-left, one-or, one_apart, one-within, one-eqb, one_at, one-not, number_if-le, number_if-bound, length-only_if, only_if-bound, take_bound, front-rest-length, size, size-bound, items-size, flat_map-bound, flat_map-one}

-- a name that is not known is not declared at all
one-unknown : {D : Type 0} (d : Option D) (is-config : D → Bool) (named imported wild : Bool) →
    one (named && (elim d [ none ↦ false | some x ↦ is-config x ]))
    + one (named && not ((elim d [ none ↦ false | some x ↦ true ]) || imported || wild))
    ≤ one named
one-unknown d is-config false imported wild = zero-le
one-unknown none is-config true imported wild = omega (arith, one-bound (not (imported || wild)))
one-unknown (some x) is-config true imported wild = omega (arith, one-bound (is-config x))

-- a type or a condition has two parts at most
parts-bound : (k : ℕ) → length (Kind.parts_of k) ≤ 2
unfolding Kind.parts_of
parts-bound k =
    simp
    (length-append, length-only_if)
    (omega (
      arith,
      one-or (within Kind.Generic Kind.Set k) (within Kind.Vec2 Kind.Mat4 k),
      one-or (eqb k Kind.Cmp) (eqb k Kind.LenCmp),
      one-or (eqb k Kind.Range) (eqb k Kind.LenRange),
      number_if-bound 2 0 (within Kind.Map Kind.Result k) 2 (le_refl 2),
      number_if-bound 2 0 (within Kind.And Kind.Or k) 2 (le_refl 2),
      number_if-bound 2 0 (eqb k Kind.Range || eqb k Kind.LenRange) 2 (le_refl 2),
      one-within k 0 Kind.Generic Kind.Set zero-le (omega arith),
      one-within k Kind.Map Kind.Map Kind.Result (le_refl _) (omega arith),
      one-within k Kind.Vec2 Kind.Vec2 Kind.Mat4 (le_refl _) (omega arith),
      one-within k 48 Kind.And Kind.Or (omega arith) (omega arith),
      one-eqb k Kind.Not Kind.Not (le_refl _),
      one-eqb k Kind.Cmp Kind.Cmp (le_refl _),
      one-eqb k Kind.Range Kind.Range (le_refl _),
      one-eqb k Kind.LenCmp Kind.LenCmp (le_refl _),
      one-eqb k Kind.LenRange Kind.LenRange (le_refl _),
      one-bound (ltb k 57),
    ))

module _ {N P : Type 0} (ctx : ValidationContext N P) where
  key-bound : (rs : List (Rec N P)) → length (key_violations ctx rs) ≤ 1
  key-bound [] = zero-le
  key-bound (key ∷ rs) = rw length-only_if (one-bound (is_invalid_map_key ctx key))

  element-bound : (rs : List (Rec N P)) → length (element_violations ctx rs) ≤ 1
  element-bound [] = zero-le
  element-bound (element ∷ rs) = rw length-only_if (one-bound (not (is_valid_geometric_element_type (element ∷ rs))))

  bit-names-bound : (place : P) (bs : List (Rec N P)) → length (bit_name_violations ctx place bs) ≤ 1 + length bs
  bit-names-bound place [] = omega arith
  bit-names-bound place (b ∷ bs) =
      le_trans
      (flat_map-one _ (λ bit. rw length-only_if (one-bound (not (ctx.is_valid_field_name bit.name)))) (b ∷ bs))
      (omega arith)

  -- one for a type, or one for each of its bit names
  own-type-bound : (t : Rec N P) (rs : List (Rec N P)) → length (own_type_violations ctx t rs) ≤ suc (length (front (is Kind.BitName) rs))
  unfolding own_type_violations
  own-type-bound t rs =
      let k = t.kind in
      let name = t.name in
      let bits = front (is Kind.BitName) rs in
      simp
      (length-append, length-only_if)
      (omega (
        arith,
        one-unknown (ctx.decl_map name) (λ d. eqb d.sub Sub.Config) (is Kind.Named t) (ctx.imported_names name) ctx.has_wildcard_import,
        one-eqb k 0 Kind.Named zero-le,
        one-eqb k 34 Kind.FixedArray (omega arith),
        one-and-left (is Kind.FixedArray t) (eqb t.value 0),
        one-within k Kind.Set Kind.Set Kind.Map (omega arith) (omega arith),
        one-within k 41 Kind.Vec2 Kind.Mat4 (omega arith) (omega arith),
        one-eqb k Kind.BitsInline Kind.BitsInline (omega arith),
        one-bound (ltb k 49),
        number_if-bound 1 0 (within Kind.Set Kind.Map k) _ (key-bound rs),
        number_if-bound 1 0 (within Kind.Vec2 Kind.Mat4 k) _ (element-bound rs),
        number_if-bound 1 (length bits) (is Kind.BitsInline t) _ (bit-names-bound t.place bits),
      ))

  -- one for each record that is no bit name, and as many as there are bit names
  types-bound : (due : List Bool) (rs : List (Rec N P)) → length (types_violations ctx due rs) + length (front (is Kind.BitName) rs) ≤ length rs
  unfolding types_violations front
  types-bound due [] = zero-le
  types-bound [] (t ∷ rs) = omega (arith, front-rest-length (is Kind.BitName) (t ∷ rs))
  types-bound (checked ∷ due) (t ∷ rs) = go (is Kind.BitName t) refl (λ due'. types-bound due' rs)
    where
      go : (b : Bool) → is Kind.BitName t ≡ b →
          ((due' : List Bool) → length (types_violations ctx due' rs) + length (front (is Kind.BitName) rs) ≤ length rs) →
          length (types_violations ctx (checked ∷ due) (t ∷ rs)) + length (front (is Kind.BitName) (t ∷ rs)) ≤ suc (length rs)
      go true e later = rw (e, types_violations, front) (omega (arith, later (checked ∷ due)))
      go false e later =
          rw
          (e, types_violations, front, length-append)
          (omega (
            arith,
            own-type-bound t rs,
            only_if-bound checked (own_type_violations ctx t rs),
            later (map (λ part. checked && part) (checked_parts t.kind) ++ due),
          ))

  -- one for an argument of a limit: no number is both 0 and too great
  limit-value-bound : (ty : List (Rec N P)) (place : P) (argument : Rec N P) → length (limit_value_violations ctx ty place argument) ≤ 1
  limit-value-bound ty place argument =
      let v = argument.value in
      le_trans
      (only_if-bound (ctx.blank argument.name && within Sub.IntArgument Sub.HexArgument argument.sub) _)
      (simp
      (length-append, length-only_if)
      (omega (
        arith,
        one-and-left (ltb max_limit v) (is_limit_capped_type ty),
        one_apart (eqb v 0) (ltb max_limit v) true (λ p q. omega (arith, eqb-true v 0 p, ltb-true max_limit v q)) (λ p. refl) (λ q. refl),
      )))

  -- one for an annotation by its word, and one for each argument of a limit
  annotation-bound : (ty : List (Rec N P)) (a : Item (Rec N P)) → length (annotation_violations ctx ty a) ≤ size a
  unfolding annotation_violations
  annotation-bound ty a =
      let w = ctx.word a.head.name in
      simp
      (length-append, length-only_if)
      (omega (
        arith,
        one_at w 0 varint true (not (is_varint_valid_type ty)) zero-le,
        one_at w zigzag zigzag true (not (is_zigzag_valid_type ty)) (le_refl _),
        one_at w delta delta true (not (is_delta_valid_type ty)) (le_refl _),
        one_at w limit limit true (not (is_limit_valid_type ty)) (le_refl _),
        one-eqb w deprecated deprecated (le_refl _),
        one-bound (ltb w 6),
        number_if-le (is_word ctx limit a) (length (flat_map (limit_value_violations ctx ty a.head.place) a.rest)),
        flat_map-one (limit_value_violations ctx ty a.head.place) (limit-value-bound ty a.head.place) a.rest,
        number_if-bound 1 0 (is_word ctx deprecated a) _ (le_of_eq (one-not (has_reason ctx a))),
      ))

  -- one for each annotation, by rule 13 and by rule 22
  combined-bound : (anns : List (Item (Rec N P))) → length (combined_violations ctx anns) ≤ length anns
  unfolding combined_violations
  combined-bound anns =
      let zigzags = select (is_word ctx zigzag) anns in
      omega (
        arith,
        only_if-bound (any_of (is_word ctx varint) anns) (flat_map (λ a. found_if 13 true a.head.place) (take 1 zigzags)),
        flat_map-one (λ a. found_if 13 true a.head.place) (λ a. le_refl 1) (take 1 zigzags),
        (take_bound 1 zigzags).1,
        length-select (is_word ctx zigzag) anns,
      )

  duplicate-annotations-bound : (names : List N) (anns : List (Item (Rec N P))) → length (duplicate_annotations ctx names anns) ≤ length anns
  unfolding duplicate_annotations
  duplicate-annotations-bound names [] = zero-le
  duplicate-annotations-bound names (a ∷ anns) =
      simp
      (length-append, length-only_if)
      (omega (
        arith,
        one-bound (not (is_word ctx doc a) && any_of (ctx.same a.head.name) names),
        duplicate-annotations-bound (a.head.name ∷ names) anns,
      ))

  annotations-bound : (ty rs : List (Rec N P)) → length (annotations_violations ctx ty rs) ≤ most_per_record * length rs
  unfolding annotations_violations
  annotations-bound ty rs =
      let anns = annotations_of rs in
      simp
      length-append
      (omega (
        arith,
        combined-bound anns,
        flat_map-bound size (annotation_violations ctx ty) (annotation-bound ty) anns,
        duplicate-annotations-bound [] anns,
        items-size (is Kind.Annotation) rs,
        size-bound anns,
      ))

  -- one for an operand
  operand-bound : (takes : Literals) (o : Rec N P) → length (operand_violations ctx takes o) ≤ 1
  unfolding operand_violations
  operand-bound takes o =
      let s = o.sub in
      let operand = is Kind.Operand o in
      simp
      (length-append, length-only_if)
      (omega (
        arith,
        one_at s 0 Sub.IntOperand operand (not takes.int) zero-le,
        one_at s Sub.FloatOperand Sub.FloatOperand operand (not takes.float) (le_refl _),
        one_at s Sub.StringOperand Sub.StringOperand operand (not takes.string) (le_refl _),
        one_at s Sub.BoolOperand Sub.BoolOperand operand (not takes.bool) (le_refl _),
        one_at s 4 Sub.ConstRef operand (not (is_known_const ctx o.name)) (omega arith),
        one-bound (ltb s 6),
      ))

  operands-bound : (takes : Literals) (c : Rec N P) (rs : List (Rec N P)) →
      length (flat_map (operand_violations ctx takes) (operands_of c rs)) ≤ 2
  operands-bound takes c rs =
      omega (
        arith,
        flat_map-one (operand_violations ctx takes) (operand-bound takes) (operands_of c rs),
        (take_bound (length (Kind.parts_of c.kind)) rs).0,
        parts-bound c.kind,
      )

  -- one of its own for a condition, and one for each of its operands
  own-condition-bound : (ty : List (Rec N P)) (c : Rec N P) (rs : List (Rec N P)) → length (own_condition_violations ctx ty c rs) ≤ most_per_record
  unfolding own_condition_violations
  own-condition-bound ty c rs =
      let k = c.kind in
      simp
      (length-append, length-only_if)
      (omega (
        arith,
        one-within k Kind.Cmp Kind.Cmp Kind.Range (le_refl _) (omega arith),
        one-within k Kind.LenCmp Kind.LenCmp Kind.LenRange (le_refl _) (omega arith),
        one-and-left (is Kind.Cmp c && within Sub.Lt Sub.Ge c.sub) (not (is_numeric_type ty)),
        one-and-left (is Kind.Cmp c) (within Sub.Lt Sub.Ge c.sub),
        one-eqb k Kind.Cmp Kind.Cmp (le_refl _),
        one_at k Kind.Range Kind.Range true (not (is_numeric_type ty)) (le_refl _),
        one-and-left (within Kind.LenCmp Kind.LenRange k) (not (is_collection_type ty)),
        one-bound (ltb k 57),
        number_if-bound 2 0 (within Kind.Cmp Kind.Range k) _ (operands-bound (literals_of ty) c rs),
        number_if-bound 2 0 (within Kind.LenCmp Kind.LenRange k) _ (operands-bound length_literals c rs),
      ))

  condition-bound : (ty rs : List (Rec N P)) → length (condition_violations ctx ty rs) ≤ most_per_record * length rs
  unfolding condition_violations
  condition-bound ty [] = zero-le
  condition-bound ty (c ∷ rs) = rw length-append (omega (arith, own-condition-bound ty c rs, condition-bound ty rs))

  pub field_bound : (rs : List (Rec N P)) → length (field_violations ctx rs) ≤ most_per_record * length rs
  unfolding field_violations
  field_bound rs =
      simp
      length-append
      (omega (
        arith,
        types-bound (true ∷ []) (type_part rs),
        annotations-bound (type_part rs) (annotation_part rs),
        condition-bound (type_part rs) (condition_part rs),
        front-rest-length in_annotations rs,
        front-rest-length in_type (rest in_annotations rs),
      ))
