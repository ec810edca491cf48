pub mod ChargeCurrent
