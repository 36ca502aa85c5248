pub mod Gradings
pub mod Known
pub mod Tables
pub mod RowValues
pub mod RowWants
pub mod Spreads
