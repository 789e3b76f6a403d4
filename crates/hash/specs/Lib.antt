pub mod Formula
pub mod OneTag
pub mod MultiplyShift
