pub mod Answers
pub mod Machine
pub mod StateChanges
