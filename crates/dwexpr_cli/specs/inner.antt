pub mod Outputs
pub mod Readings
