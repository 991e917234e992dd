pub mod TwoRuns
pub mod Inlining
pub mod LawRows
