pub mod DecodedBlocks
pub mod Carried
pub mod Given
pub mod KeptSetups
pub mod StepsDone
pub mod Shown
pub mod SettingsDone
