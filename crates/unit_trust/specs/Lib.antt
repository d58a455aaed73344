pub mod Laws
pub mod Trusts
