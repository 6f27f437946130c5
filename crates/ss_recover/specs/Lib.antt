pub mod Faults
pub mod Loading
pub mod Recovering
pub mod Renewed
pub mod Errors
pub mod Laws
