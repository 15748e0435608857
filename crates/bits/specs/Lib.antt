-- The definitions that the contracts of this crate cite.
pub mod Limits
pub mod Field
pub mod Part
pub mod Signed
pub mod Wrote
