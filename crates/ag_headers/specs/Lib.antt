pub mod Agf
pub mod Agfl
pub mod Agi
pub mod Fields
pub mod Ring
pub mod Tests
