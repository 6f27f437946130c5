pub mod Past
pub mod Holding
pub mod Durable
pub mod Checkpointing
pub mod Trimming
pub mod Laws
