pub mod Lent
pub mod OnOne
pub mod InOrder
pub mod OnAll
