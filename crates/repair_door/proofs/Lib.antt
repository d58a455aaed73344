pub mod DecideLemmas
pub mod DoorLemmas
pub mod GateLemmas
