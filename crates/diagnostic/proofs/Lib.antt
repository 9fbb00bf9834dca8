pub mod Stores
pub mod OnePush
pub mod Pushes
pub mod Written
pub mod FoundPushes
pub mod Added
