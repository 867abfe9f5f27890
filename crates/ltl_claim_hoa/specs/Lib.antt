pub mod ClaimHoa
pub mod LabelSigns
pub mod ClaimReads
