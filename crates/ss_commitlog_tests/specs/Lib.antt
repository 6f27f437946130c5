pub mod Workflow
pub mod Lives
