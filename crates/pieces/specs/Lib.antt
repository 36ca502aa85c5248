pub mod Views
pub mod Ticks
pub mod Pieces
pub mod Cells
pub mod Laws
