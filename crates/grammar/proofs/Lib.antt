pub mod Stack
pub mod Parts
pub mod PartSteps
pub mod Items
pub mod KindOnly
pub mod Bodies
