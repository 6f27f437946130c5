pub mod Executions
pub mod Meanings
pub mod Entries
pub mod Parts
pub mod Lending
pub mod Waiting
pub mod RowLists
