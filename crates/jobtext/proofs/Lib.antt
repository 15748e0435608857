-- The lemmas of this crate.
mod Cutting
mod Digits
