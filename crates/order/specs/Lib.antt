pub mod Order
pub mod OrderLaws
pub mod Sorted
pub mod SortedLaws
