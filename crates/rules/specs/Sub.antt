-- The subs that the rules name, by their numbers: counted from 0 in the Rust's order.
use Rattle.std.specs.Prelude as std
use Rattle.std.specs.Prelude.{ℕ, eqb}

-- of a known declaration, as `DeclKind`
abbrev pub Message : ℕ
Message = 0

abbrev pub Union : ℕ
Union = 3

abbrev pub Newtype : ℕ
Newtype = 4

abbrev pub Config : ℕ
Config = 5

abbrev pub Const : ℕ
Const = 7

-- a declaration of that sub renames the type that stands directly after it
abbrev pub is_renaming : ℕ → std.Bool
is_renaming sub = eqb sub Newtype

-- of a head
abbrev pub MessageHead : ℕ
MessageHead = 0

abbrev pub EnumHead : ℕ
EnumHead = 1

abbrev pub FlagsHead : ℕ
FlagsHead = 2

abbrev pub UnionHead : ℕ
UnionHead = 3

abbrev pub NewtypeHead : ℕ
NewtypeHead = 4

-- of a primitive type, as `PrimitiveType`
abbrev pub Bool : ℕ
Bool = 0

abbrev pub U8 : ℕ
U8 = 1

abbrev pub U16 : ℕ
U16 = 2

abbrev pub U32 : ℕ
U32 = 3

abbrev pub U64 : ℕ
U64 = 4

abbrev pub I8 : ℕ
I8 = 5

abbrev pub I16 : ℕ
I16 = 6

abbrev pub I32 : ℕ
I32 = 7

abbrev pub I64 : ℕ
I64 = 8

abbrev pub F32 : ℕ
F32 = 9

abbrev pub F64 : ℕ
F64 = 10

abbrev pub Fixed32 : ℕ
Fixed32 = 11

abbrev pub Fixed64 : ℕ
Fixed64 = 12

abbrev pub Void : ℕ
Void = 13

-- of a semantic type, as `SemanticType`
abbrev pub String : ℕ
String = 0

abbrev pub Bytes : ℕ
Bytes = 1

-- of an argument, as `AnnotationValue`
abbrev pub IntArgument : ℕ
IntArgument = 0

abbrev pub HexArgument : ℕ
HexArgument = 1

-- of a comparison, as `CmpOp`: `Lt`, `Gt`, `Le` and `Ge` are 2 to 5
abbrev pub Lt : ℕ
Lt = 2

abbrev pub Ge : ℕ
Ge = 5

-- of an operand, as `WhereOperand`
abbrev pub IntOperand : ℕ
IntOperand = 0

abbrev pub FloatOperand : ℕ
FloatOperand = 1

abbrev pub StringOperand : ℕ
StringOperand = 2

abbrev pub BoolOperand : ℕ
BoolOperand = 3

abbrev pub ConstRef : ℕ
ConstRef = 5
