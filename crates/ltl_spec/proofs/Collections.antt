-- Sets and lists.
pub mod CaseLaws
pub mod SetLaws
pub mod ListLaws
pub mod MemberLaws
pub mod Orders
pub mod SortedSets
pub mod SumLaws
pub mod ProductLists
pub mod SortedOnce
pub mod FoundLaws
