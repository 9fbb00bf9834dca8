pub mod Backing
pub mod Bit
pub mod Items
pub mod Parts
pub mod Runs
pub mod VariantParts
