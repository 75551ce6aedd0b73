pub mod TemplateLemmas
pub mod Found
pub mod Again
pub mod WriteLemmas
pub mod PairLemmas
pub mod ColumnLemmas
pub mod EqualLemmas
pub mod FirstRows
