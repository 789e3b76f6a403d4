pub mod Occupancy
pub mod OccupancyLaws
pub mod Tried
