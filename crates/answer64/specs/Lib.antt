pub mod Answer64
