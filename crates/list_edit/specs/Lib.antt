pub mod Edits
pub mod Laws
pub mod Meets
pub mod Places
