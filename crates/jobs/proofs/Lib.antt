pub mod Parts
pub mod Blanks
pub mod Keeps
pub mod Looks
pub mod Writes
pub mod Stretches
pub mod Refusals
pub mod Turns
