pub mod Twins
pub mod StepLogs
pub mod Inlined
pub mod Refused
pub mod CallOutcomes
pub mod Computing
