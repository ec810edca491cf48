pub mod ColumnSums
