-- Never claims of Spin as they are read, and what they mean.
pub mod ClaimTokens
pub mod ClaimProgram
pub mod ClaimMachine
pub mod ClaimMeaning
