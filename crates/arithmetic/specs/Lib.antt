-- The definitions that the contracts of this crate cite.
pub mod Words
pub mod Meaning
pub mod Kinds
pub mod Settings
pub mod Made
pub mod Wraps
pub mod Counts
pub mod Ranges
