-- The laws of this crate, and the lemmas that its proofs share.
pub mod Laws
mod Steps
pub mod Forms
