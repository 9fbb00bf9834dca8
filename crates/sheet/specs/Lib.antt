pub mod Window
pub mod Mark
