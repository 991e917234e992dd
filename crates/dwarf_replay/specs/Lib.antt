pub mod Continuing
pub mod StepEquality
pub mod Replays
pub mod Stepping
