pub mod Laws
pub mod inner
pub mod Values
