-- Sets and lists.
pub mod Sets
pub mod Lists
