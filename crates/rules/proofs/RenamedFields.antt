-- The rules of a field look at a name through the context alone, and only where the kind has one; so they say the same of a field's records
-- under other names.
use Prim.Native.Nat.{ℕ}
use mathlib.Core.Path.{◌≡◌, refl, ap, ap₂, ◌∙◌}
use mathlib.Core.Bool.{Bool, true, false, not, ◌&&◌, ◌||◌}
use mathlib.Core.List.{List, [], ◌∷◌, ◌++◌, map, flat_map}
use lib.ListN.{length}
use lib.Dec.{leb, eqb, ltb}
use native.Mathlib.Omega.{arith}
use borrow.Author.Tests.{eqb-true, eqb-false, leb-true}
use Rattle.std.proofs.lemmas.Bool.{and_parts}
use Rattle.rules.specs.Words.{within, only_if, first_is, any_of, select, rest, Item}
use Rattle.rules.specs.Kind
use Rattle.rules.specs.Sub
use Rattle.rules.specs.Record.{Rec, is, is_of}
use Rattle.rules.specs.Asked.{is_compared, is_worded, is_spelled}
use Rattle.rules.specs.Context.{ValidationContext, declared_as, is_known_type, is_known_const, chain_end, varint, zigzag, delta, limit, deprecated, doc, reason}
use Rattle.rules.specs.Rule.{Found, found_if}
use Rattle.rules.specs.Types.{is_text, is_varint_valid_type, is_zigzag_valid_type, is_delta_valid_type, is_limit_valid_type, is_limit_capped_type, is_numeric_type, is_collection_type}
use Rattle.rules.specs.Annotations.{max_limit, is_word, limit_value_violations, has_reason, annotation_violations, combined_violations, duplicate_annotations, annotations_violations}
use Rattle.rules.specs.Types.{is_without_key, is_invalid_end, is_invalid_map_key, key_violations, element_violations, bit_name_violations, own_type_violations, types_violations, checked_parts}
use Rattle.rules.specs.Conditions.{Literals, length_literals, literals_of, operands_of, operand_violations, own_condition_violations, condition_violations}
use Rattle.rules.specs.Bodies.{in_annotations, in_type, type_part, field_violations}
use Rattle.rules.proofs.Every.{Every, EveryOf, every-nil, every-cons, every_front, every_rest, every_take, every-items-as, every-as, every-front-as}
use Rattle.rules.proofs.Mapped.{map_item, take-map, first_is-map, front-map, rest-map, items_map, any_same, select-same, flat_map-map, flat_map-same}
use Rattle.rules.proofs.Unused.{if-same}
use Rattle.rules.proofs.Renamed.{renamed, has_name_of, WellNamed, Alike, named, as-renamed, named-renamed, met-renamed}

-- the names of annotations and arguments may be words
annotated : {N P : Type 0} (r : Rec N P) → in_annotations r ≡ true → has_name_of is_worded r ≡ true
unfolding any_of
annotated r h = go (is Kind.Annotation r) refl
  where
    go : (b : Bool) → is Kind.Annotation r ≡ b → has_name_of is_worded r ≡ true
    go true e = named is_worded Kind.Annotation refl refl r e
    go false e =
        let low = leb-true Kind.Annotation r.kind (and_parts (leb Kind.Annotation r.kind) _ h).0 in
        let high = leb-true r.kind Kind.Argument (and_parts (leb Kind.Annotation r.kind) _ h).1 in
        let argument : r.kind ≡ Kind.Argument = omega (arith, eqb-false r.kind Kind.Annotation e) in
        rw argument

-- the names of constants are compared
constant : {N P : Type 0} (o : Rec N P) → is_of Kind.Operand Sub.ConstRef o ≡ true → has_name_of is_compared o ≡ true
unfolding any_of
constant o e =
    let kind = eqb-true o.kind Kind.Operand (and_parts (is Kind.Operand o) (eqb o.sub Sub.ConstRef) e).0 in
    rw ((and_parts (is Kind.Operand o) (eqb o.sub Sub.ConstRef) e).1, kind)

-- what is asked of a field's type, without its names
module _ {M N P : Type 0} (g : M → N) where
  first-renamed : (p : Rec N P → Bool) (ty : List (Rec M P)) → first_is p (map (renamed g) ty) ≡ first_is (λ t. p (renamed g t)) ty
  first-renamed = first_is-map (renamed g)

  limited-renamed : (ty : List (Rec M P)) → is_limit_valid_type (map (renamed g) ty) ≡ is_limit_valid_type ty
  limited-renamed = first-renamed _

  capped-renamed : (ty : List (Rec M P)) → is_limit_capped_type (map (renamed g) ty) ≡ is_limit_capped_type ty
  capped-renamed ty = λ i. limited-renamed ty i && not (first-renamed (is Kind.FixedArray) ty i)

  past-optional-renamed :
      (p : Rec N P → Bool) (ty : List (Rec M P)) →
      first_is p (rest (is Kind.Optional) (map (renamed g) ty)) ≡ first_is (λ t. p (renamed g t)) (rest (is Kind.Optional) ty)
  past-optional-renamed p ty = ap (first_is p) (rest-map (renamed g) (is Kind.Optional) ty) ∙ first-renamed p (rest (is Kind.Optional) ty)

  numeric-renamed : (ty : List (Rec M P)) → is_numeric_type (map (renamed g) ty) ≡ is_numeric_type ty
  numeric-renamed = past-optional-renamed (λ t. is_delta_valid_type (t ∷ []))

  collection-renamed : (ty : List (Rec M P)) → is_collection_type (map (renamed g) ty) ≡ is_collection_type ty
  collection-renamed = past-optional-renamed (λ t. is_text t || within Kind.Array Kind.FixedArray t.kind)

  literals-renamed : (ty : List (Rec M P)) → literals_of (map (renamed g) ty) ≡ literals_of ty
  literals-renamed ty =
      λ i. record {
        int = numeric-renamed ty i;
        float = first-renamed (λ t. (literals_of (t ∷ [])).float) ty i;
        string = first-renamed (is_of Kind.Semantic Sub.String) ty i;
        bool = first-renamed (is_of Kind.Primitive Sub.Bool) ty i;
      }

module _ {M N P : Type 0} {g : M → N} {Good Worded Spelled : M → Type 0} {ctx : ValidationContext N P} {ctx' : ValidationContext M P}
    (alike : Alike g Good Worded Spelled ctx ctx') where
  -- the record's name may be a word
  abbrev WordedName : Rec M P → Type 0
  WordedName r = Worded r.name

  -- types
  key-renamed : (r : Rec M P) → WellNamed Good Worded Spelled r → is_invalid_map_key ctx (renamed g r) ≡ is_invalid_map_key ctx' r
  unfolding is_invalid_map_key is_invalid_end
  key-renamed r w =
      let end = alike.end r w in
      let t : Rec M P = chain_end ctx' ctx'.declarations r in
      let bad : Bool = is Kind.Primitive t && (within Sub.F32 Sub.F64 t.sub || eqb t.sub Sub.Void) in
      rw end.0
      (λ i. bad
      || within Kind.Optional Kind.Array t.kind
      || within Kind.Set Kind.Result t.kind
      || named-renamed alike t end.1 (is_without_key ctx) (is_without_key ctx')
      (λ m h j. as-renamed alike Sub.Message m h j || as-renamed alike Sub.Union m h j || as-renamed alike Sub.Config m h j) i)

  keys-renamed : {rs : List (Rec M P)} → Every (WellNamed Good Worded Spelled) rs → key_violations ctx (map (renamed g) rs) ≡ key_violations ctx' rs
  keys-renamed every-nil = refl
  keys-renamed (every-cons {x} w h) = ap (λ bad. found_if 8 bad x.place) (key-renamed x w)

  elements-renamed : (rs : List (Rec M P)) → element_violations ctx (map (renamed g) rs) ≡ element_violations ctx' rs
  elements-renamed [] = refl
  elements-renamed (x ∷ rs) = refl

  bits-renamed :
      (place : P) {bits : List (Rec M P)} → Every (λ r. Spelled r.name) bits →
      bit_name_violations ctx place (map (renamed g) bits) ≡ bit_name_violations ctx' place bits
  bits-renamed place every-nil = refl
  bits-renamed place (every-cons {x} h hs) =
      flat_map-same (renamed g)
      (λ bit. found_if 12 (not (ctx.is_valid_field_name bit.name)) place)
      (λ bit. found_if 12 (not (ctx'.is_valid_field_name bit.name)) place)
      (every-as (λ r spelled. ap (λ valid. found_if 12 (not valid) place) (alike.is_valid_field_name r.name spelled)) (every-cons {x = x} h hs))

  known-renamed : (m : M) → Good m → not (is_known_type ctx (g m)) ≡ not (is_known_type ctx' m)
  known-renamed m h =
      λ i. not (alike.declared (λ s. true) m h i || alike.imported_names m h i || alike.has_wildcard_import i)

  own-type-renamed :
      (t : Rec M P) {rs : List (Rec M P)} → WellNamed Good Worded Spelled t → Every (WellNamed Good Worded Spelled) rs →
      own_type_violations ctx (renamed g t) (map (renamed g) rs) ≡ own_type_violations ctx' t rs
  unfolding own_type_violations any_of
  own-type-renamed t {rs} w h =
      let config = named-renamed alike t w (declared_as ctx Sub.Config) (declared_as ctx' Sub.Config) (as-renamed alike Sub.Config) in
      let unknown = named-renamed alike t w (λ n. not (is_known_type ctx n)) (λ m. not (is_known_type ctx' m)) known-renamed in
      let spelled = every-front-as (is Kind.BitName) (λ r e w. w.spelled (named is_spelled Kind.BitName refl refl r e)) h in
      let bits = ap (bit_name_violations ctx t.place) (front-map (renamed g) (is Kind.BitName) rs) ∙ bits-renamed t.place spelled in
      λ i. found_if 6 (config i) t.place
      ++ found_if 7 (unknown i) t.place
      ++ only_if (within Kind.Set Kind.Map t.kind) (keys-renamed h i)
      ++ found_if 9 (is Kind.FixedArray t && eqb t.value 0) t.place
      ++ only_if (within Kind.Vec2 Kind.Mat4 t.kind) (elements-renamed rs i)
      ++ only_if (is Kind.BitsInline t) (bits i)

  types-renamed :
      (due : List Bool) {rs : List (Rec M P)} → Every (WellNamed Good Worded Spelled) rs →
      types_violations ctx due (map (renamed g) rs) ≡ types_violations ctx' due rs
  unfolding types_violations
  types-renamed due every-nil = refl
  types-renamed [] (every-cons w h) = refl
  types-renamed (checked ∷ due) (every-cons {x} {xs} w h) =
      λ i. elim (is Kind.BitName x) as (λ b. List (Found P)) [
        | true ↦ types-renamed (checked ∷ due) h i
        | false ↦ only_if checked (own-type-renamed x w h i)
            ++ types-renamed (map (λ part. checked && part) (checked_parts x.kind) ++ due) h i
      ]

  -- annotations, all of whose names may be words
  reason-renamed : {a : Item (Rec M P)} → EveryOf WordedName a → has_reason ctx (map_item (renamed g) a) ≡ has_reason ctx' a
  reason-renamed h = any_same (renamed g) _ _ (every-as (λ r worded. ap (λ w. eqb w reason) (alike.word r.name worded)) h.rest)

  limit-value-renamed :
      (ty : List (Rec M P)) (place : P) (r : Rec M P) → WordedName r →
      limit_value_violations ctx (map (renamed g) ty) place (renamed g r) ≡ limit_value_violations ctx' ty place r
  limit-value-renamed ty place r worded =
      λ i. only_if (alike.blank r.name worded i && within Sub.IntArgument Sub.HexArgument r.sub)
      (found_if 18 (eqb r.value 0) place ++ found_if 19 (ltb max_limit r.value && capped-renamed g ty i) place)

  annotation-renamed :
      (ty : List (Rec M P)) (a : Item (Rec M P)) → EveryOf WordedName a →
      annotation_violations ctx (map (renamed g) ty) (map_item (renamed g) a) ≡ annotation_violations ctx' ty a
  unfolding annotation_violations
  annotation-renamed ty a h =
      let place : P = a.head.place in
      let word = alike.word a.head.name h.head in
      let values = flat_map-same (renamed g) _ (limit_value_violations ctx' ty place) (every-as (limit-value-renamed ty place) h.rest) in
      let reasoned = reason-renamed h in
      λ i. found_if 14 (eqb (word i) varint && not (first-renamed g (λ t. is_varint_valid_type (t ∷ [])) ty i)) place
      ++ found_if 15 (eqb (word i) zigzag && not (first-renamed g (λ t. is_zigzag_valid_type (t ∷ [])) ty i)) place
      ++ found_if 16 (eqb (word i) delta && not (first-renamed g (λ t. is_delta_valid_type (t ∷ [])) ty i)) place
      ++ found_if 17 (eqb (word i) limit && not (limited-renamed g ty i)) place
      ++ only_if (eqb (word i) limit) (values i)
      ++ only_if (eqb (word i) deprecated) (found_if 20 (not (reasoned i)) place ++ found_if 21 (reasoned i) place)

  -- the annotation's name is compared and may be a word, and those of its arguments may be words
  record GoodItem (a : Item (Rec M P)) : Type 0 where
    good : Good a.head.name
    worded : EveryOf WordedName a

  word-renamed : (w : ℕ) (a : Item (Rec M P)) → GoodItem a → is_word ctx w (map_item (renamed g) a) ≡ is_word ctx' w a
  word-renamed w a h = ap (λ word. eqb word w) (alike.word a.head.name h.worded.head)

  combined-renamed :
      {anns : List (Item (Rec M P))} → Every GoodItem anns →
      combined_violations ctx (map (map_item (renamed g)) anns) ≡ combined_violations ctx' anns
  unfolding combined_violations
  combined-renamed {anns} h =
      let varints = any_same (map_item (renamed g)) (is_word ctx varint) (is_word ctx' varint) (every-as (word-renamed varint) h) in
      let zigzags = select-same (map_item (renamed g)) (is_word ctx zigzag) (is_word ctx' zigzag) (every-as (word-renamed zigzag) h) in
      rw (varints, zigzags, take-map (map_item (renamed g)) 1 (select (is_word ctx' zigzag) anns))
      (ap (only_if (any_of (is_word ctx' varint) anns)) (flat_map-map (map_item (renamed g)) _ _))

  duplicates-renamed :
      {names : List M} {anns : List (Item (Rec M P))} → Every Good names → Every GoodItem anns →
      duplicate_annotations ctx (map g names) (map (map_item (renamed g)) anns) ≡ duplicate_annotations ctx' names anns
  unfolding duplicate_annotations
  duplicates-renamed hs every-nil = refl
  duplicates-renamed {names = names} hs (every-cons {x = a} {xs = xs} h anns) =
      λ i. found_if 22 (not (word-renamed doc a h i) && met-renamed alike a.head.name h.good hs i) a.head.place
      ++ duplicates-renamed {names = a.head.name ∷ names} (every-cons h.good hs) anns i

  -- an annotation or an argument, well named
  abbrev Annotated : Rec M P → Type 0
  Annotated r = WordedName r × (is Kind.Annotation r ≡ true → Good r.name)

  annotations-renamed :
      (ty : List (Rec M P)) {rs : List (Rec M P)} → Every Annotated rs →
      annotations_violations ctx (map (renamed g) ty) (map (renamed g) rs) ≡ annotations_violations ctx' ty rs
  unfolding annotations_violations
  annotations-renamed ty {rs} h =
      let anns = every-items-as {R = GoodItem} (is Kind.Annotation)
      (λ it e w. record { good = w.head.1 e; worded = record { head = w.head.0; rest = every-as (λ r v. v.0) w.rest } })
      h in
      let own = flat_map-same (map_item (renamed g)) _ (annotation_violations ctx' ty) (every-as (λ a w. annotation-renamed ty a w.worded) anns) in
      rw (items_map (renamed g) (is Kind.Annotation) rs) (λ i. combined-renamed anns i ++ own i ++ duplicates-renamed every-nil anns i)

  -- conditions
  operand-renamed :
      (takes : Literals) (o : Rec M P) → WellNamed Good Worded Spelled o →
      operand_violations ctx takes (renamed g o) ≡ operand_violations ctx' takes o
  unfolding operand_violations
  operand-renamed takes o w =
      let good : is_of Kind.Operand Sub.ConstRef o ≡ true → Good o.name = λ e. w.good (constant o e) in
      let known : is_of Kind.Operand Sub.ConstRef o ≡ true → is_known_const ctx (g o.name) ≡ is_known_const ctx' o.name
      = λ e i. as-renamed alike Sub.Const o.name (good e) i || alike.imported_names o.name (good e) i in
      let unknown = if-same (λ b k. b && not k) (is_of Kind.Operand Sub.ConstRef o) _ (is_known_const ctx' o.name) refl known in
      λ i. found_if 23 (is_of Kind.Operand Sub.IntOperand o && not takes.int) o.place
      ++ found_if 24 (is_of Kind.Operand Sub.FloatOperand o && not takes.float) o.place
      ++ found_if 25 (is_of Kind.Operand Sub.StringOperand o && not takes.string) o.place
      ++ found_if 26 (is_of Kind.Operand Sub.BoolOperand o && not takes.bool) o.place
      ++ found_if 27 (unknown i) o.place

  own-condition-renamed :
      (ty : List (Rec M P)) (c : Rec M P) {rs : List (Rec M P)} → Every (WellNamed Good Worded Spelled) rs →
      own_condition_violations ctx (map (renamed g) ty) (renamed g c) (map (renamed g) rs) ≡ own_condition_violations ctx' ty c rs
  unfolding own_condition_violations
  own-condition-renamed ty c {rs} h =
      λ i. only_if (within Kind.Cmp Kind.Range c.kind) (operands-renamed (literals-renamed g ty i) i)
      ++ found_if 28 (is Kind.Cmp c && within Sub.Lt Sub.Ge c.sub && not (numeric-renamed g ty i)) c.place
      ++ found_if 29 (is Kind.Range c && not (numeric-renamed g ty i)) c.place
      ++ found_if 30 (within Kind.LenCmp Kind.LenRange c.kind && not (collection-renamed g ty i)) c.place
      ++ only_if (within Kind.LenCmp Kind.LenRange c.kind) (operands-renamed length_literals i)
    where
      operands-renamed :
          (takes : Literals) →
          flat_map (operand_violations ctx takes) (operands_of (renamed g c) (map (renamed g) rs))
          ≡ flat_map (operand_violations ctx' takes) (operands_of c rs)
      operands-renamed takes =
          ap (flat_map (operand_violations ctx takes)) (take-map (renamed g) (length (Kind.parts_of c.kind)) rs)
          ∙ flat_map-same (renamed g) (operand_violations ctx takes) (operand_violations ctx' takes)
          (every-as (operand-renamed takes) (every_take (length (Kind.parts_of c.kind)) h))

  condition-renamed :
      (ty : List (Rec M P)) {rs : List (Rec M P)} → Every (WellNamed Good Worded Spelled) rs →
      condition_violations ctx (map (renamed g) ty) (map (renamed g) rs) ≡ condition_violations ctx' ty rs
  unfolding condition_violations
  condition-renamed ty every-nil = refl
  condition-renamed ty (every-cons {x} w h) = ap₂ ◌++◌ (own-condition-renamed ty x h) (condition-renamed ty h)

  pub field-renamed : {rs : List (Rec M P)} → Every (WellNamed Good Worded Spelled) rs → field_violations ctx (map (renamed g) rs) ≡ field_violations ctx' rs
  unfolding field_violations any_of
  field-renamed {rs} h =
      let later : List (Rec M P) = rest in_annotations rs in
      rw (front-map (renamed g) in_annotations rs, rest-map (renamed g) in_annotations rs)
      (rw (front-map (renamed g) in_type later, rest-map (renamed g) in_type later)
      (λ i. types-renamed (true ∷ []) (every_front in_type (every_rest in_annotations h)) i
      ++ annotations-renamed (type_part rs)
      (every-front-as in_annotations
      (λ r e w. (w.worded (annotated r e), λ a. w.good (named is_compared Kind.Annotation refl refl r a)))
      h) i
      ++ condition-renamed (type_part rs) (every_rest in_type (every_rest in_annotations h)) i))
