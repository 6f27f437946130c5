pub mod Form
pub mod Sql
