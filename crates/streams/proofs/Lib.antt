pub mod Sunk
pub mod Resting
pub mod Filled
