pub mod RuleTexts
pub mod WorkedCase
