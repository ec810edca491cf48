pub mod MatrixLayout
