pub mod LostRows
