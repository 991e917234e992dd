pub mod Lists
pub mod Permits
pub mod Evaluation
pub mod Iteration
pub mod inner
