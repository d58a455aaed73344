pub mod Made
pub mod Trees
