pub mod Fitting
pub mod Reading
