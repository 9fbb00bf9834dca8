-- The version of what callers in other languages are given.
pub mod Version
