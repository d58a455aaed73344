pub mod Courses
pub mod Ends
pub mod Forks
pub mod Refusals
pub mod Sessions
pub mod Sound
