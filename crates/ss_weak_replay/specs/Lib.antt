pub mod WeakReplaying
