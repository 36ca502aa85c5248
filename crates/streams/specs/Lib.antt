pub mod Fronts
pub mod Buffers
