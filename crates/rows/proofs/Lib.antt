pub mod Marked
pub mod Tables
pub mod Moving
