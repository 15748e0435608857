-- The lemmas of this crate.
pub mod Fields
pub mod Parts
pub mod Signs
pub mod Writes
pub mod Bytes
