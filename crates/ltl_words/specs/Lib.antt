pub mod Comparer
pub mod Plans
pub mod Tools
pub mod Words
