pub mod Lines
pub mod Compiled
pub mod SameLines
pub mod Examples
pub mod Premises
