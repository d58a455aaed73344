mod Forks
mod Images
mod Inodes
mod Ordered
mod Pieces
mod Whole
mod Words
