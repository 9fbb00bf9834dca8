pub mod Buffers
pub mod Replayed
pub mod Counts
pub mod Lengths
pub mod CheckAnswers
