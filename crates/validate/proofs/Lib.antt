-- The answer of the code.
pub mod Answers
-- What is demanded of a call.
pub mod Demands
