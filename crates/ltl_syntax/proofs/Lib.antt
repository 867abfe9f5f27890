pub mod CallLemmas
mod CombinationLaws
mod LexerLemmas
mod NameLemmas
pub mod ParserLemmas
mod PrintLemmas
mod ReadLemmas
mod StateLemmas
pub mod TreeLemmas
mod UseLemmas
