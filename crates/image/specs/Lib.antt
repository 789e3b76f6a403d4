pub mod Sheet
pub mod View
pub mod Holds
pub mod Fair
pub mod Checking
pub mod Lookup
pub mod LinesRead
pub mod SameNumbers
