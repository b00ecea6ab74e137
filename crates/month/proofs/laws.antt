pub mod Peaks
pub mod Range
pub mod Totals
pub mod Words
