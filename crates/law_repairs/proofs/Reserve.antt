pub mod OwnGroup
pub mod Owning
pub mod Reserved
pub mod Reserving
pub mod Turning
