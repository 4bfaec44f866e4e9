pub mod Spelling
pub mod Forming
pub mod Lines
pub mod Progress
pub mod Unique
pub mod Cutting
