pub mod Statuses
pub mod Starts
pub mod Refused
pub mod Inputs
pub mod Sinks
pub mod StoreRefusals
