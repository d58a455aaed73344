pub mod Entering
pub mod Joined
pub mod Laws
pub mod Lending
pub mod Places
pub mod Room
pub mod Whole
