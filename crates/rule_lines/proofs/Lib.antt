pub mod Fronts
pub mod Splitting
pub mod Keeping
pub mod Hearing
pub mod Cutting
pub mod Saying
pub mod Listed
