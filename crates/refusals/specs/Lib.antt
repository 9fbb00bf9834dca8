-- What the code's own types say, in the words of document 01's definitions.
pub mod Answers
pub mod Pass
pub mod Runs
pub mod Turned
pub mod Left
