pub mod FixedNumbers
pub mod Fronts
pub mod LebLaws
pub mod LebSteps
pub mod Suffixes
