pub mod Events
pub mod Moments
pub mod Leavings
pub mod Plays
pub mod Hearing
pub mod Heard
