-- The lemmas that the proofs of this crate share.
pub mod Mapped
pub mod Lists
pub mod Sorted
pub mod Unique
pub mod Numbered
pub mod Inferring
pub mod Bits
pub mod Scoping
pub mod Judged
pub mod Tables
pub mod Trials
pub mod Steps
pub mod Granting
pub mod Held
