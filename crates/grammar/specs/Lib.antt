-- What the machine's own types say, in the words of document 01's grammar.
pub mod Order
pub mod Parts
pub mod Due
pub mod States
