-- The files that the contracts of this crate cite.
pub mod Words
pub mod Lines
pub mod Arithmetics
pub mod Plays
pub mod Fields
pub mod Heads
