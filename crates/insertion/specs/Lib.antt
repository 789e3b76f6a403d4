pub mod Occupants
pub mod OccupantsLaws
pub mod Inserted
pub mod TakenWordLaws
pub mod InsertedLaws
