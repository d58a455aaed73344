pub mod Below
pub mod Checksum
pub mod Fields
pub mod FirstFailing
pub mod Steps
pub mod Tables
pub mod Zeros
