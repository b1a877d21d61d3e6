pub mod Lists
pub mod Members
pub mod InOrder
pub mod Options
pub mod Trees
pub mod Leaves
pub mod Padding
pub mod Tables
