-- The files that the contracts of this crate cite.
pub mod Slots
pub mod Reading
pub mod Remaining
pub mod Lines
