pub mod LayoutLoads
