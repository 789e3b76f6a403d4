pub mod Answer64Laws
