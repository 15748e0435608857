pub mod Spans
pub mod Chains
pub mod Indexing
pub mod Listing
pub mod Beginning
