pub mod Agreeing
pub mod Lacking
pub mod Places
pub mod Standing
