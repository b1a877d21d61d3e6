pub mod SameLines
pub mod Premises
