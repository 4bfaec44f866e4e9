pub mod Input
pub mod Output
pub mod Results
