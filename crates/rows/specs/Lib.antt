pub mod Known
pub mod Lasts
pub mod Views
