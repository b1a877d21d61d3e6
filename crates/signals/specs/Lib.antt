pub mod Sets
pub mod Computing
