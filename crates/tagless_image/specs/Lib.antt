pub mod Sheet
pub mod View
pub mod Checking
pub mod Lookup
pub mod LinesRead
