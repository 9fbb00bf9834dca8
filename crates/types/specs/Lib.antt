pub mod Due
pub mod Own
