pub mod Recounting
pub mod Parts
pub mod Fronts
pub mod Going
