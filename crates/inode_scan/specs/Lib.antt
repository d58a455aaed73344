pub mod Chunk
pub mod Cursor
pub mod Least
pub mod NextInode
pub mod Reads
pub mod Search
