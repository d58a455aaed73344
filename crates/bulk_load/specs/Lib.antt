pub mod Header
pub mod Leaf
pub mod Loaded
pub mod Shapes
pub mod Trees
