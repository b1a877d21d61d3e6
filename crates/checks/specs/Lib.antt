pub mod Checks
pub mod OnePass
pub mod Meaning
pub mod Walking
pub mod Computing
