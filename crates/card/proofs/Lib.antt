-- The lemmas of this crate.
pub mod Listing
pub mod Puts
pub mod Filling
pub mod Rows
pub mod Tests
pub mod Rounds
pub mod Unique
