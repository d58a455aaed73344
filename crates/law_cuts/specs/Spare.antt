pub mod Behind
pub mod Cut
pub mod Held
pub mod Spare
pub mod Unread
