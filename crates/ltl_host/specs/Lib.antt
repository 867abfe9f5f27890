pub mod Given
pub mod Sources
