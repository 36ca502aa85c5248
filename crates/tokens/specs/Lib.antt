pub mod Bytes
pub mod Words
pub mod Splits
pub mod Laws
pub mod Answers
pub mod Steps
