-- The kinds of a record, by their numbers, and what each kind has.
use Rattle.std.specs.Prelude.{ℕ, Bool, ◌||◌, ◌&&◌, List, [], ◌∷◌, ◌++◌, eqb}
use Rattle.rules.specs.Sub
use Rattle.rules.specs.Words.{within, only_if, member, look_up}

-- the context: a known declaration, an imported name, a wildcard
abbrev pub Declaration : ℕ
Declaration = 1

abbrev pub ImportedName : ℕ
ImportedName = 2

abbrev pub Wildcard : ℕ
Wildcard = 3

-- the declaration that is checked
abbrev pub Head : ℕ
Head = 10

abbrev pub Field : ℕ
Field = 11

-- a tombstone of a field list
abbrev pub FieldTombstone : ℕ
FieldTombstone = 12

abbrev pub Invariant : ℕ
Invariant = 13

-- a variant of an enum or a union, or a bit of flags
abbrev pub Variant : ℕ
Variant = 14

-- a tombstone of an enum, flags or a union
abbrev pub Tombstone : ℕ
Tombstone = 15

abbrev pub Backing : ℕ
Backing = 16

abbrev pub Annotation : ℕ
Annotation = 20

abbrev pub Argument : ℕ
Argument = 21

abbrev pub BitName : ℕ
BitName = 22

-- the types, in the order of `TypeExpr`
abbrev pub Primitive : ℕ
Primitive = 30

abbrev pub SubByte : ℕ
SubByte = 31

abbrev pub Semantic : ℕ
Semantic = 32

abbrev pub Named : ℕ
Named = 33

abbrev pub Qualified : ℕ
Qualified = 34

abbrev pub Generic : ℕ
Generic = 35

abbrev pub Optional : ℕ
Optional = 36

abbrev pub Array : ℕ
Array = 37

abbrev pub FixedArray : ℕ
FixedArray = 38

abbrev pub Set : ℕ
Set = 39

abbrev pub Map : ℕ
Map = 40

abbrev pub Result : ℕ
Result = 41

abbrev pub Vec2 : ℕ
Vec2 = 42

abbrev pub Mat4 : ℕ
Mat4 = 47

abbrev pub BitsInline : ℕ
BitsInline = 48

-- the conditions, in the order of `WhereExpr`
abbrev pub And : ℕ
And = 50

abbrev pub Or : ℕ
Or = 51

abbrev pub Not : ℕ
Not = 52

abbrev pub Cmp : ℕ
Cmp = 53

abbrev pub Range : ℕ
Range = 54

abbrev pub LenCmp : ℕ
LenCmp = 55

abbrev pub LenRange : ℕ
LenRange = 56

abbrev pub Operand : ℕ
Operand = 60

abbrev pub is_type : ℕ → Bool
is_type = within Primitive BitsInline

abbrev pub is_condition : ℕ → Bool
is_condition = within And LenRange

-- the kinds that there are
abbrev pub known : ℕ → Bool
known k = within Declaration Wildcard k || within Head Backing k || within Annotation BitName k || is_type k || is_condition k || eqb k Operand

-- "Kinds 1, 2, 10, 11, 14, 20 to 22, 33 to 35 and 60 of sub 5 have a name"
abbrev pub with_name : List ℕ
with_name =
    Declaration ∷ ImportedName ∷ Head ∷ Field ∷ Variant ∷ Annotation ∷ Argument ∷ BitName ∷ Named ∷ Qualified ∷ Generic ∷ []

abbrev pub has_name : ℕ → ℕ → Bool
has_name k sub = member k with_name || eqb k Operand && eqb sub Sub.ConstRef

-- the kinds whose value is an ordinal
abbrev pub with_ordinal : List ℕ
with_ordinal = Field ∷ FieldTombstone ∷ Variant ∷ Tombstone ∷ []

abbrev pub has_ordinal : ℕ → Bool
has_ordinal k = member k with_ordinal

-- the kinds that have a span for their ordinal
abbrev pub has_ordinal_span : ℕ → Bool
has_ordinal_span k = eqb k Field || eqb k Variant

-- the kinds whose value is another number: a literal, an array's size
abbrev pub has_literal : ℕ → Bool
has_literal k = eqb k Argument || eqb k FixedArray || eqb k Operand

-- how many subs the kinds with a sub have, counted from 0 in the Rust's order: `DeclKind`, the heads, the backings, `AnnotationValue`,
-- `PrimitiveType`, `SemanticType`, `CmpOp`, an exclusive high, `CmpOp`, an exclusive high, `WhereOperand`
abbrev pub sub_counts : List (ℕ × ℕ)
sub_counts =
    (Declaration, 10)
    ∷ (Head, 5)
    ∷ (Backing, 4)
    ∷ (Argument, 6)
    ∷ (Primitive, 14)
    ∷ (Semantic, 6)
    ∷ (Cmp, 6)
    ∷ (Range, 2)
    ∷ (LenCmp, 6)
    ∷ (LenRange, 2)
    ∷ (Operand, 6)
    ∷ []

-- how many subs a kind has; 0 for a kind without a sub
abbrev pub sub_count : ℕ → ℕ
sub_count k = look_up k sub_counts

-- what a record can be a part of: a type, a condition, or an operand of one
pub data Part : Type 0 where
  type condition operand : Part

-- the record's kind is one of that part
abbrev pub is_part : Part → ℕ → Bool
is_part type k = is_type k
is_part condition k = is_condition k
is_part operand k = eqb k Operand

-- the parts of a type or a condition, in the order in which they follow it
unfoldable pub parts_of : ℕ → List Part
parts_of k =
    only_if (within Generic Set k || within Vec2 Mat4 k) (type ∷ [])
    ++ only_if (within Map Result k) (type ∷ type ∷ [])
    ++ only_if (within And Or k) (condition ∷ condition ∷ [])
    ++ only_if (eqb k Not) (condition ∷ [])
    ++ only_if (eqb k Cmp || eqb k LenCmp) (operand ∷ [])
    ++ only_if (eqb k Range || eqb k LenRange) (operand ∷ operand ∷ [])
