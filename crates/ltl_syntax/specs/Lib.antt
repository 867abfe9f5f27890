pub mod CanonicalWork
pub mod CombinationView
pub mod FormulaView
pub mod ParserView
pub mod ReadText
pub mod TokenView
