pub mod Runs
pub mod Lines
pub mod Decimals
pub mod Pieces
pub mod Places
pub mod Readings
pub mod OneWay
pub mod Facts
