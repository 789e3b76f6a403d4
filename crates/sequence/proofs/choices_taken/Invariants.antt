-- What the loop of `sequence::choices_taken` keeps true. Assumes nothing.
use Prim.Native.Nat.{◌≤◌}
use mathlib.Core.Path.{◌≡◌}
use Rattle.std.specs.Prelude.{Some, option_map}
use Rattle.filling.specs.Taken.{sequence_taken}
use Rattle.filling.specs.Word.{word_of}
use Rattle.places.specs.Array.{keys_of}
use Rattle.insertion.specs.Occupants.{occupants_of}
use Rattle.sequence.proofs.choices_taken.Given as goal

abbrev pub invariant-loop-k : goal.invariant-loop-k
invariant-loop-k l =
    (l.k ≤ l.count) × (Some l.word ≡ option_map word_of (sequence_taken (keys_of l.k l.places)))
    × (l.occupants ≡ occupants_of l.places l.word l.k)
