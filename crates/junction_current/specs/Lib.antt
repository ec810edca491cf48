pub mod JunctionCurrent
