pub mod ComparerLaws
pub mod WordLaws
