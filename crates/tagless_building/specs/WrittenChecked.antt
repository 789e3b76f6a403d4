-- What a caller may rely on without checking again. Assumes nothing.
use Rattle.std.specs.Prelude.{◌≡◌, List, ℕ, take}
use Rattle.refusal.specs.Outcome.{Outcome, answered}
use Rattle.tagless_image.specs.Checking.{tagless_checking_of}

-- Where building answers a length, checking accepts as many bytes of the buffer.
abbrev pub WrittenChecked : Outcome ℕ → List ℕ → Type 0
WrittenChecked outcome after = (size : ℕ) → outcome ≡ answered size → tagless_checking_of (take size after) ≡ answered 0
