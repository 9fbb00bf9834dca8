pub mod AnnotationAt
pub mod Target
pub mod Each
pub mod Earlier
pub mod FirstWith
pub mod LimitViolations
