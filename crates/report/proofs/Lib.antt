pub mod Libraries
pub mod Inputs
