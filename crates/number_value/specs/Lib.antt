pub mod NumeralContracts
pub mod CleaningContracts
