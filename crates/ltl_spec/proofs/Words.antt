-- Texts of ultimately periodic words, and their least form.
pub mod LassoTextLaws
pub mod WordReadingLaws
pub mod LeastLaws
pub mod UniqueLaws
pub mod SameWordLaws
pub mod LeastLength
