pub mod Gaps
pub mod Wholes
pub mod Kinds
pub mod Ranges
pub mod Truths
pub mod Margins
pub mod Worth
pub mod Lawful
