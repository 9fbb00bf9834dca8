-- The numbers of the rules that the code names.
use Rattle.std.specs.Prelude.{ℕ}
use Rattle.rules.specs.declared.rule.Rule.{Rule}
use Rattle.rules.specs.declared.rule.Rule.TheVariants.{InvariantUnsupported, OrdinalTooLarge, OrdinalReusedAfterRemoved, OrdinalDuplicate, FieldNameDuplicate, ConfigTypeAsField, UnknownType, InvalidMapKey, FixedArrayEmpty, GeometricInvalidElementType, BitsInlineEmpty, InvalidBitName, VarintZigzagCombined, VarintInvalidTarget, ZigzagInvalidTarget, DeltaInvalidTarget, LimitInvalidTarget, LimitZero, LimitExceedsGlobal, DeprecatedMissingReason, DeprecatedWithReason, DuplicateAnnotation, WhereClauseIntMismatch, WhereClauseFloatMismatch, WhereClauseStringMismatch, WhereClauseBoolMismatch, WhereClauseConstRefNotFound, WhereClauseOperatorInvalid, WhereClauseRangeInvalid, WhereClauseLenOnNonCollection, EnumOrdinalTooLarge, EnumOrdinalDuplicate, EnumBackingTooNarrow, FlagsBitTooHigh, UnionOrdinalTooLarge, UnionOrdinalDuplicate, NewtypeOverNewtype, NewtypeOverConfig}

-- the number of each rule
abbrev pub rule_number : Rule → ℕ
rule_number InvariantUnsupported = 1
rule_number OrdinalTooLarge = 2
rule_number OrdinalReusedAfterRemoved = 3
rule_number OrdinalDuplicate = 4
rule_number FieldNameDuplicate = 5
rule_number ConfigTypeAsField = 6
rule_number UnknownType = 7
rule_number InvalidMapKey = 8
rule_number FixedArrayEmpty = 9
rule_number GeometricInvalidElementType = 10
rule_number BitsInlineEmpty = 11
rule_number InvalidBitName = 12
rule_number VarintZigzagCombined = 13
rule_number VarintInvalidTarget = 14
rule_number ZigzagInvalidTarget = 15
rule_number DeltaInvalidTarget = 16
rule_number LimitInvalidTarget = 17
rule_number LimitZero = 18
rule_number LimitExceedsGlobal = 19
rule_number DeprecatedMissingReason = 20
rule_number DeprecatedWithReason = 21
rule_number DuplicateAnnotation = 22
rule_number WhereClauseIntMismatch = 23
rule_number WhereClauseFloatMismatch = 24
rule_number WhereClauseStringMismatch = 25
rule_number WhereClauseBoolMismatch = 26
rule_number WhereClauseConstRefNotFound = 27
rule_number WhereClauseOperatorInvalid = 28
rule_number WhereClauseRangeInvalid = 29
rule_number WhereClauseLenOnNonCollection = 30
rule_number EnumOrdinalTooLarge = 31
rule_number EnumOrdinalDuplicate = 32
rule_number EnumBackingTooNarrow = 33
rule_number FlagsBitTooHigh = 34
rule_number UnionOrdinalTooLarge = 35
rule_number UnionOrdinalDuplicate = 36
rule_number NewtypeOverNewtype = 37
rule_number NewtypeOverConfig = 38
