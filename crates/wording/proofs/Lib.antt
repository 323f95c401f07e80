pub mod WordLaws
pub mod BackLaws
