-- The definitions that the contracts of this crate cite.
pub mod Listing
pub mod Typing
pub mod Closed
pub mod Definitions
pub mod Inference
pub mod Scopes
pub mod Facts
pub mod Judging
pub mod Mounting
pub mod Held
