pub mod BaView
pub mod GbaView
pub mod Named
pub mod OptionsView
