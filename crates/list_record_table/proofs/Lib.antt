pub mod RowLaws
pub mod laws
