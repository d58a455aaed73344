pub mod Moving
pub mod Order
