pub mod PutLemmas
pub mod RowLemmas
