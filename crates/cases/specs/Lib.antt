pub mod FourteenCases
