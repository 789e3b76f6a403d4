pub mod Inserting
pub mod Sorting
pub mod RisingLaws
pub mod SortedLaws
