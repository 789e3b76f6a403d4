-- A group of 32 tags whose choice word has every bit but the lowest, bit 31 among them: its tags lie along a path. Assumes nothing.
use Rattle.std.specs.Prelude.{◌≡◌, refl, Bool, true, false, List, [], ◌∷◌, ℕ, length, replicate, Some}
use Rattle.std.proofs.Common.{sym, ◌∙◌, arith}
use Rattle.refusal.specs.Limits.{outside}
use Rattle.refusal.specs.Outcome.{answered}
use Rattle.refusal.specs.Checks.{met}
use Rattle.lists.specs.First.{first, met_at}
use Rattle.lists.specs.Occurs.{occurs}
use Rattle.hash.specs.Formula.{product, high_part, hashed, multiplier, place_of}
use Rattle.filling.specs.Filling.{Fills}
use Rattle.filling.specs.Taken.{sequence_taken}
use Rattle.filling.proofs.TakenLaws.{sequence-fills}
use Rattle.filling.specs.Word.{choice_number, word_of}
use Rattle.filling.proofs.PathLaws.{path, fresh, path-taken}
use Rattle.group.specs.Group.{both_places, candidates, group_under, least_seed, taken}
use Rattle.group.proofs.GroupLaws.{least_seed-only, taken-of-fills}
use Rattle.group.specs.Ascending.{not_above}
use Rattle.group.specs.Unwired.{starts_unwired}
use Rattle.group.specs.Placing.{placing_checks, placing_of}
use Rattle.placing.proofs.PlacingLaws.{Placeable, placing-seeded}

abbrev tags : List ℕ
tags =
    89 ∷ 123 ∷ 157 ∷ 162 ∷ 164 ∷ 170 ∷ 188 ∷ 242 ∷ 328 ∷ 463 ∷ 546 ∷ 583 ∷ 618 ∷ 689 ∷ 703 ∷ 711 ∷ 735 ∷ 752 ∷ 803 ∷ 880 ∷ 1009 ∷
    1142 ∷ 1164 ∷ 1196 ∷ 1326 ∷ 1339 ∷ 1399 ∷ 1469 ∷ 1556 ∷ 1618 ∷ 1681 ∷ 1705 ∷ []

-- The places behind place 0, in the order of the tags.
abbrev places : List ℕ
places =
    1 ∷ 3 ∷ 11 ∷ 2 ∷ 6 ∷ 18 ∷ 22 ∷ 4 ∷ 14 ∷ 10 ∷ 30 ∷ 26 ∷ 15 ∷ 13 ∷ 8 ∷ 24 ∷ 9 ∷ 27 ∷ 19 ∷ 25 ∷ 12 ∷ 5 ∷ 16 ∷ 17 ∷ 20 ∷ 28 ∷ 21 ∷
    31 ∷ 29 ∷ 23 ∷ 7 ∷ []

abbrev choices : List Bool
choices = false ∷ replicate (length places) true

-- Under seed 0 the tags' candidate places are a path, and no place comes twice on it.
along : group_under tags 0 ≡ path 0 places
unfolding product high_part hashed multiplier place_of both_places candidates
along = refl

apart : fresh (0 ∷ []) places ≡ true
unfolding occurs
apart = refl

sequence-is : sequence_taken (group_under tags 0) ≡ Some choices
sequence-is = rw along (path-taken 0 places apart)

fills : Fills (group_under tags 0) choices
fills = sequence-fills (group_under tags 0) sequence-is

seed-is : least_seed tags 1 ≡ Some 0
seed-is = least_seed-only tags 1 0 choices (omega arith) fills (λ t lt. absurd (omega arith))

taken_is : taken tags 0 ≡ choices
taken_is = let found = sym (taken-of-fills tags 0 choices fills) ∙ sequence-is in cc

placeable : Placeable tags 1
unfolding outside met_at met first not_above starts_unwired placing_checks
placeable = record { passes = (refl, (refl, (refl, (refl, tt)))) }

-- So placing answers seed 0 and 2^32 - 2.
pub full-word : placing_of tags 1 ≡ answered (record { seed = 0; word = 4294967294 })
unfolding word_of choice_number
full-word = placing-seeded placeable seed-is ∙ rw taken_is
