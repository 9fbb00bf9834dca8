pub mod Push
pub mod Violations
