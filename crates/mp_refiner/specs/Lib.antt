pub mod Law
pub mod Lawful
pub mod Ready
pub mod RuleStep
pub mod Steps
