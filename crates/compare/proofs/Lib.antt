mod Questions
mod Found
mod Ticks
