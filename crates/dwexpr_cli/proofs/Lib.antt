pub mod Ending
pub mod Listings
pub mod Printing
pub mod Reading
