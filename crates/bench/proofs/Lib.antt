-- The lemmas of this crate.
mod Answering
mod Copying
