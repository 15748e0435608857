-- Lemmas on the placing of an entry and on orders by keys.
pub mod Placing
pub mod Keys
pub mod Growing
