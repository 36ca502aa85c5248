pub mod Pieces
pub mod Words
pub mod Sayings
pub mod Packs
pub mod Parts
pub mod Laws
pub mod Keywords
