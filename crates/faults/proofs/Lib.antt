-- The lemmas that the proofs of this crate and others share.
pub mod Once
