pub mod WordLine
