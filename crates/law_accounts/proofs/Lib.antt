pub mod Account
pub mod Count
pub mod Ref
pub mod Step
pub mod Edit
pub mod Owner
pub mod Quiet
