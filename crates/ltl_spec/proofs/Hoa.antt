-- Automata as they are read.
pub mod HoaLabelLaws
pub mod HoaHeaderLaws
pub mod HoaBodyLaws
pub mod HoaLaws
pub mod HoaNameLaws
pub mod HoaFaultLaws
pub mod HoaLabelBack
pub mod HoaHeaderBack
pub mod HoaBodyBack
pub mod HoaBackLaws
pub mod SpelledLaws
pub mod SpelledStates
pub mod SpelledLabels
pub mod GeneralizedBack
