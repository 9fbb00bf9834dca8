-- The 38 rules: the class and the severity of each, and what a violation is.
use Rattle.std.specs.Prelude.{ℕ, Bool, true, false, List, [], ◌∷◌, eqb}
use Rattle.rules.specs.declared.span.Span.{Span}
use Rattle.rules.specs.declared.violation.Violation.{Violation}
use Rattle.rules.specs.Words.{only_if}

-- a violation as the rules find it: the rule's number, and the place where it was found
pub record Found (P : Type 0) : Type 0 where
  pub rule : ℕ
  pub place : P

module _ {P : Type 0} where
  -- the rule is broken at the place if the test says so
  abbrev pub found_if : ℕ → Bool → P → List (Found P)
  found_if rule bad place = only_if bad (record { rule = rule; place = place } ∷ [])

-- the severities
abbrev pub error : ℕ
error = 0

abbrev pub warning : ℕ
warning = 1

-- the classes, under the names of `ErrorClass`'s variants
abbrev pub FieldNameDuplicate : ℕ
FieldNameDuplicate = 13

abbrev pub OrdinalDuplicate : ℕ
OrdinalDuplicate = 14

abbrev pub OrdinalTooLarge : ℕ
OrdinalTooLarge = 15

abbrev pub OrdinalReusedAfterRemoved : ℕ
OrdinalReusedAfterRemoved = 16

abbrev pub UnknownType : ℕ
UnknownType = 17

abbrev pub ConfigTypeAsField : ℕ
ConfigTypeAsField = 18

abbrev pub NewtypeOverNewtype : ℕ
NewtypeOverNewtype = 19

abbrev pub NewtypeOverConfig : ℕ
NewtypeOverConfig = 20

abbrev pub InvalidMapKey : ℕ
InvalidMapKey = 28

abbrev pub GeometricInvalidElementType : ℕ
GeometricInvalidElementType = 29

abbrev pub EnumOrdinalDuplicate : ℕ
EnumOrdinalDuplicate = 34

abbrev pub EnumOrdinalTooLarge : ℕ
EnumOrdinalTooLarge = 35

abbrev pub EnumBackingTooNarrow : ℕ
EnumBackingTooNarrow = 36

abbrev pub FlagsBitTooHigh : ℕ
FlagsBitTooHigh = 39

abbrev pub BitsInlineEmpty : ℕ
BitsInlineEmpty = 40

abbrev pub InvalidBitName : ℕ
InvalidBitName = 41

abbrev pub UnionOrdinalDuplicate : ℕ
UnionOrdinalDuplicate = 42

abbrev pub UnionOrdinalTooLarge : ℕ
UnionOrdinalTooLarge = 43

abbrev pub DuplicateAnnotation : ℕ
DuplicateAnnotation = 45

abbrev pub DeprecatedMissingReason : ℕ
DeprecatedMissingReason = 47

abbrev pub LimitInvalidTarget : ℕ
LimitInvalidTarget = 49

abbrev pub LimitExceedsGlobal : ℕ
LimitExceedsGlobal = 50

abbrev pub LimitZero : ℕ
LimitZero = 51

abbrev pub VarintInvalidTarget : ℕ
VarintInvalidTarget = 52

abbrev pub ZigzagInvalidTarget : ℕ
ZigzagInvalidTarget = 53

abbrev pub VarintZigzagCombined : ℕ
VarintZigzagCombined = 54

abbrev pub DeltaInvalidTarget : ℕ
DeltaInvalidTarget = 55

abbrev pub WhereClauseTypeMismatch : ℕ
WhereClauseTypeMismatch = 63

abbrev pub WhereClauseRangeInvalid : ℕ
WhereClauseRangeInvalid = 64

abbrev pub WhereClauseLenOnNonCollection : ℕ
WhereClauseLenOnNonCollection = 65

abbrev pub WhereClauseConstRefNotFound : ℕ
WhereClauseConstRefNotFound = 66

abbrev pub WhereClauseOperatorInvalid : ℕ
WhereClauseOperatorInvalid = 67

abbrev pub InvariantUnsupported : ℕ
InvariantUnsupported = 68

-- a rule's number, class and severity
pub record RuleRow : Type 0 where
  pub rule : ℕ
  pub class : ℕ
  pub severity : ℕ

abbrev error_row : ℕ → ℕ → RuleRow
error_row rule class = record { rule = rule; class = class; severity = error }

abbrev warning_row : ℕ → ℕ → RuleRow
warning_row rule class = record { rule = rule; class = class; severity = warning }

abbrev pub rules : List RuleRow
rules =
    error_row 1 InvariantUnsupported
    ∷ error_row 2 OrdinalTooLarge
    ∷ error_row 3 OrdinalReusedAfterRemoved
    ∷ error_row 4 OrdinalDuplicate
    ∷ error_row 5 FieldNameDuplicate
    ∷ error_row 6 ConfigTypeAsField
    ∷ error_row 7 UnknownType
    ∷ error_row 8 InvalidMapKey
    ∷ error_row 9 LimitZero
    ∷ error_row 10 GeometricInvalidElementType
    ∷ error_row 11 BitsInlineEmpty
    ∷ error_row 12 InvalidBitName
    ∷ error_row 13 VarintZigzagCombined
    ∷ error_row 14 VarintInvalidTarget
    ∷ error_row 15 ZigzagInvalidTarget
    ∷ error_row 16 DeltaInvalidTarget
    ∷ error_row 17 LimitInvalidTarget
    ∷ error_row 18 LimitZero
    ∷ error_row 19 LimitExceedsGlobal
    ∷ error_row 20 DeprecatedMissingReason
    ∷ warning_row 21 DeprecatedMissingReason
    ∷ error_row 22 DuplicateAnnotation
    ∷ error_row 23 WhereClauseTypeMismatch
    ∷ error_row 24 WhereClauseTypeMismatch
    ∷ error_row 25 WhereClauseTypeMismatch
    ∷ error_row 26 WhereClauseTypeMismatch
    ∷ error_row 27 WhereClauseConstRefNotFound
    ∷ error_row 28 WhereClauseOperatorInvalid
    ∷ error_row 29 WhereClauseRangeInvalid
    ∷ error_row 30 WhereClauseLenOnNonCollection
    ∷ error_row 31 EnumOrdinalTooLarge
    ∷ error_row 32 EnumOrdinalDuplicate
    ∷ error_row 33 EnumBackingTooNarrow
    ∷ error_row 34 FlagsBitTooHigh
    ∷ error_row 35 UnionOrdinalTooLarge
    ∷ error_row 36 UnionOrdinalDuplicate
    ∷ error_row 37 NewtypeOverNewtype
    ∷ error_row 38 NewtypeOverConfig
    ∷ []

-- the row of a rule; there is no rule 0
unfoldable pub rule_row : List RuleRow → ℕ → RuleRow
rule_row [] rule = error_row 0 0
rule_row (x ∷ xs) rule = elim (eqb x.rule rule) [ true ↦ x | false ↦ rule_row xs rule ]

abbrev pub class_of : ℕ → ℕ
class_of rule = (rule_row rules rule).class

abbrev pub severity_of : ℕ → ℕ
severity_of rule = (rule_row rules rule).severity

-- a violation as it is told
abbrev pub violation : Found Span → Violation
violation f = record { class = class_of f.rule; severity = severity_of f.rule; span = f.place }
