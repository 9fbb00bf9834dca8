-- Lines: what is told of an answer. Put: what putting text does to a buffer.
pub mod Lines
pub mod Put
