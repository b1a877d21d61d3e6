pub mod SetLaws
pub mod SetOfLaws
pub mod BitLaws
