-- The definitions that the contracts of this crate cite.
pub mod Limits
pub mod Cut
pub mod Words
pub mod Lines
pub mod Numbers
pub mod Line
pub mod Job
