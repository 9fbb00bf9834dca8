pub mod RecordBytes
pub mod OwnFaults
pub mod ChainWalk
pub mod LeftTables
pub mod Passes
pub mod PlainRuns
-- The rows in turn, and the filled table.
pub mod InTurn
pub mod Seconds
pub mod Filled
pub mod RefusalFilled
