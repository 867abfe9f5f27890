-- Texts of ultimately periodic words, and their least form.
pub mod LassoText
pub mod LassoMachine
pub mod LeastForm
