-- The proved table.
pub mod Computed
pub mod SmallSheets
pub mod Table
pub mod Printed
-- Record i of a sheet.
pub mod Records
-- What accepted sheets are made of.
pub mod Joined
pub mod Every
pub mod Lists
pub mod Machine
pub mod Taken
pub mod Accepted
pub mod AcceptedSheet
pub mod Lead
pub mod BodyReads
pub mod BodyKinds
-- Demand 3.
pub mod Reordered
pub mod ReorderedExamples
pub mod Occurrences
pub mod ItemCounts
pub mod Cut
pub mod SameLead
pub mod SheetCounts
pub mod Moved
pub mod ReorderedCounts
pub mod Added
pub mod AddedCounts
pub mod AddedExamples
pub mod Distinct
pub mod Repeats
pub mod FieldListCounted
pub mod Counted
pub mod CountedExamples
pub mod MistakeExamples
-- Bounds.
pub mod Lengths
pub mod FieldBound
pub mod Bound
-- What the code names of the definitions.
pub mod Limits
pub mod Classes
-- Encoding, chains, and the bytes that are not used.
pub mod Places
pub mod Encoding
pub mod Chains
pub mod Unused
-- The refusals: their numbers, their indices, and the newtypes that row 9 tells of.
pub mod StepRows
pub mod Rings
pub mod Faults
-- The rules at other names.
pub mod Mapped
pub mod Renamed
pub mod RenamedFields
pub mod RenamedBodies
pub mod LittleEndian
