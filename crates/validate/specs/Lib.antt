-- What a call of the entry answers.
pub mod Answered
