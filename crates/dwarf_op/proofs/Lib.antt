pub mod EqualOperations
mod Rows
