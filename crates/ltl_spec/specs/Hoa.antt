-- Automata as they are read.
pub mod HoaToken
pub mod HoaLabel
pub mod HoaReading
pub mod HoaPrinted
pub mod HoaFaultKind
pub mod HoaPlace
pub mod HoaStep
pub mod HoaFault
pub mod HoaMachine
pub mod HoaNames
