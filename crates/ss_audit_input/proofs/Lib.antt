pub mod Scripts
pub mod Reports
pub mod OneAudit
pub mod Ends
