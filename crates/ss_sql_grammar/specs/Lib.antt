pub mod Exact
pub mod Grammar
