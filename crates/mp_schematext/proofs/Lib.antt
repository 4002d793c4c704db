pub mod FaultWalks
pub mod Narrow
pub mod RuleSteps
pub mod RuleTells
pub mod RuleUses
pub mod SchemaSizes
pub mod SchemaTells
pub mod ValueWalks
