pub mod Printing
pub mod Sections
pub mod Types
pub mod Faults
pub mod Tallies
