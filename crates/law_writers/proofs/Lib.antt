pub mod Change
pub mod Inode
pub mod Fork
pub mod Run
pub mod Held
pub mod Beside
pub mod Told
