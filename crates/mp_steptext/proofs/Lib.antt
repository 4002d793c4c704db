pub mod AllowedSteps
mod Behind
mod DistinctNeeds
pub mod GoodTerms
mod KeptSteps
mod MetNames
mod RawTermInduction
mod Serving
pub mod StepAgain
pub mod StepGrammar
pub mod StepLexed
pub mod StepPieces
pub mod StepRound
mod WrittenSteps
