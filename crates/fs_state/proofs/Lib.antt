mod Again
mod Chunks
mod Claims
mod Cores
mod EditSteps
mod Frames
mod GroupParts
mod Groups
mod Limbos
mod NoFaults
mod Opening
mod Overlaps
mod Pools
pub mod SharedWithin
mod Sources
mod Spoken
mod Standing
pub mod Trees
mod Untouched
