-- What the contracts of the queue cite.
pub mod Order
pub mod Keys
pub mod Held
pub mod Growing
