pub mod CallSteps
pub mod Leading
pub mod Settings
pub mod Standings
pub mod ReplayTurns
