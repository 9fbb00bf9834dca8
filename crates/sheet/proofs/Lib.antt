pub mod Numbers
pub mod Part
pub mod Below
pub mod Fields
pub mod Windows
pub mod Marks
