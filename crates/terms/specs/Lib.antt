pub mod Accesses
pub mod Numbers
pub mod Rules
pub mod Maps
pub mod Refusals
pub mod Failing
pub mod Workers
