pub mod NoCapacitance
