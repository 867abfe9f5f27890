-- Never claims as they are read.
pub mod ClaimSpelling
pub mod ClaimPrinted
pub mod ClaimTexts
pub mod ClaimRuns
pub mod ClaimEdges
pub mod ClaimBack
pub mod ClaimModels
