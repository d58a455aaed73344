pub mod Behind
pub mod Cut
pub mod Elsewhere
pub mod Held
pub mod Spare
pub mod Unread
pub mod Whose
