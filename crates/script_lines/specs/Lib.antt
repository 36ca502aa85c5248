pub mod Keywords
pub mod Arguments
pub mod Makes
pub mod Faults
