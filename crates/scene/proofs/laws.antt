pub mod LineValues
pub mod TablesInPlaces
pub mod Placings
