pub mod Failing
pub mod Workers
