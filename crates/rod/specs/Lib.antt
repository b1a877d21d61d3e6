pub mod Reading
pub mod SoundReading
pub mod Traversing
pub mod SingleCalls
pub mod Meaning
pub mod Values
pub mod Computing
