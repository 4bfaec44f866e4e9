-- The lemmas that the proofs of this crate cite.
pub mod Lines
pub mod Answering
pub mod Heads
pub mod Arithmetics
pub mod Plays
