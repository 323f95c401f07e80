pub mod Moves
pub mod Orders
pub mod Records
pub mod Views
