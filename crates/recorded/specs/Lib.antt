pub mod File
pub mod Answer
pub mod Buffer
pub mod Replay
