pub mod CountLemmas
pub mod PutLemmas
