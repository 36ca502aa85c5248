pub mod Lines
pub mod Kept
pub mod Listing
