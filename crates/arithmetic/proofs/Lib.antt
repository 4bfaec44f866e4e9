-- Theorems on the kinds of arithmetic that no contract of this crate cites.
pub mod Lawful
pub mod Products
