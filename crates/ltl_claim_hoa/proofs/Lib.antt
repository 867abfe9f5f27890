pub mod GuardLaws
pub mod LabelLaws
pub mod WordLaws
pub mod TextLaws
pub mod DocumentLaws
pub mod SoundLaws
