-- The order of the refusals of building an index without tags, each where the next one is due too, by computation; of 10 and 7
-- `seven-decides` says it. And the line of a group and a tag's number, by computation. Assumes nothing.
use Rattle.std.specs.Prelude.{◌≡◌, refl, List, [], ◌∷◌, ℕ, suc, replicate, None}
use Rattle.std.proofs.Common.{◌∙◌}
use Rattle.std.specs.Option.{option_or}
use Rattle.std.specs.Int.Count.{ones, ones_in}
use Rattle.refusal.specs.Limits.{tags_max, group_max, outside}
use Rattle.refusal.specs.Outcome.{answered, refused}
use Rattle.lists.specs.First.{first, met_at}
use Rattle.lists.specs.UpTo.{up_to}
use Rattle.refusal.specs.Checks.{Check, Pass, met, in_order}
use Rattle.refusal.proofs.ChecksLaws.{in_order-append, in_order-pass}
use Rattle.hash.specs.Formula.{product, high_part, hashed, group_of, multiplier, place_of}
use Rattle.filling.specs.Word.{choice_number}
use Rattle.group.specs.Ascending.{not_above, limit_check, ascending_check}
use Rattle.group.specs.Unwired.{starts_unwired, unwired_check}
use Rattle.numbering.specs.Members.{select, members, start_of}
use Rattle.numbering.specs.Planning.{groups_check, count_check, size_check}
use Rattle.parity.specs.Parity.{parity}
use Rattle.tagless_group.specs.Row.{row_of}
use Rattle.tagless_group.specs.Words.{choice_by}
use Rattle.tagless_image.specs.Sheet.{group_line_of, tagless_length}
use Rattle.word_line.specs.WordLine.{word_line}
use Rattle.tagless.specs.Number.{tagless_number}
use Rattle.tagless.specs.Building.{tagless_room_check, word_check, tagless_building_checks, tagless_building_of, tagless_sheet_of}

-- `unfolding computed` opens every definition that these compute through.
computed : ℕ
unfolding outside first met_at up_to met in_order product high_part hashed group_of multiplier place_of
    choice_number select members start_of
    not_above starts_unwired ones ones_in parity row_of choice_by tagless_length tagless_number tagless_building_checks tagless_building_of
    tagless_sheet_of
computed = 0

-- One tag 4,097 times, which is too many tags, and not ascending; and one tag more than a group holds.
abbrev too_many : List ℕ
too_many = replicate (suc tags_max) 7

abbrev overfull : List ℕ
overfull = up_to (suc group_max) suc

-- Building: 8, 4, 5, 6, 17, 9, 10, 7.
eight-before-four : tagless_building_of [] 0 0 0 ≡ refused 8 0
unfolding computed
eight-before-four = refl

four-before-five : tagless_building_of too_many 1 0 0 ≡ refused 4 0
unfolding computed
four-before-five = refl

five-before-six : tagless_building_of too_many 1 1 0 ≡ refused 5 0
unfolding computed
five-before-six = refl

six-before-seventeen : tagless_building_of (0 ∷ 0 ∷ []) 1 1 0 ≡ refused 6 1
unfolding computed
six-before-seventeen = refl

seventeen-before-nine : tagless_building_of (0 ∷ []) 1 1 31 ≡ refused 17 0
unfolding computed
seventeen-before-nine = refl

nine-before-ten : tagless_building_of overfull 1 1 31 ≡ refused 9 0
unfolding computed
nine-before-ten = refl

-- A buffer of just the length is none too short.
exact-buffer : tagless_room_check 1 32 ≡ (9, None)
unfolding computed
exact-buffer = refl

-- Where the checks before it pass, 10 among them, 7 decides.
abbrev earlier : List ℕ → ℕ → ℕ → ℕ → List Check
earlier tags groups limit room =
    groups_check groups
    ∷ limit_check limit
    ∷ count_check tags
    ∷ ascending_check tags
    ∷ unwired_check tags
    ∷ tagless_room_check groups room
    ∷ size_check groups tags
    ∷ []

seven-decides : (tags : List ℕ) (groups limit room : ℕ) → Pass (earlier tags groups limit room)
    → tagless_building_of tags groups limit room ≡ in_order (word_check groups tags limit ∷ []) (answered (tagless_length groups))
unfolding tagless_building_of tagless_building_checks
seven-decides tags groups limit room passes =
    in_order-append (earlier tags groups limit room) (word_check groups tags limit ∷ []) _
    ∙ in_order-pass (earlier tags groups limit room) _ passes

-- A group's line has its seed and then its word.
seed-then-word : group_line_of (tagless_sheet_of 1 [] (λ g. 5) (λ g. 9)) 0 ≡ word_line 0 5 9
unfolding computed
seed-then-word = refl

-- The number of tag 3 in the whole case: the word 1 says that it is at its second place.
number-of-three : tagless_number 2 (1 ∷ 2 ∷ 3 ∷ []) (λ g. g) (λ g. g) 3 ≡ 2
unfolding computed
number-of-three = refl
