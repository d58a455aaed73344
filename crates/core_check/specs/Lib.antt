pub mod Ended
pub mod Ends
pub mod Entries
pub mod Gathers
pub mod Leaves
pub mod Told
