pub mod Making
pub mod Reading
pub mod Scanning
pub mod Within
pub mod Combining
