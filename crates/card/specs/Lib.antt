-- The definitions that the contracts of this crate cite.
pub mod Refusals
pub mod Layout
pub mod Opening
pub mod Laws
pub mod Meaning
pub mod Records
pub mod Writing
pub mod Rewriting
