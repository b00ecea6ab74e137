pub mod GainTable
