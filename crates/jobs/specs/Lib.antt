pub mod Lines
pub mod Jobs
pub mod Entries
pub mod Faults
pub mod Holds
pub mod Checks
pub mod Edits
