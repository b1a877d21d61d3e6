pub mod Decisions
pub mod Shown
pub mod ShownTells
pub mod Pairs
pub mod PolicyScores
pub mod ExpressionScores
pub mod Computing
