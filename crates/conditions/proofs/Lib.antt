pub mod OperandRules
pub mod LengthOperands
pub mod FirstRecords
pub mod ConditionOperands
pub mod FieldLiterals
pub mod NodeKinds
pub mod WholeCondition
