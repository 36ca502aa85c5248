pub mod Scales
pub mod Rooms
pub mod Questions
pub mod Entering
pub mod Cells
pub mod Found
pub mod Agreement
