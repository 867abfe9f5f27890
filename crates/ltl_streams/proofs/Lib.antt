pub mod PrintLaws
pub mod SendLaws
pub mod StreamLemmas
