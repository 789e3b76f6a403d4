-- The starred worked values of document 01, 1 to 9, a row each; 4, 5 and 6 are what document 02, §1, makes of them: "The two small
-- cases … with 0 and one other tag, and the one that no seed can fill, become refusals of this kind." TableTheorem.antt proves them.
-- Assumes nothing.
use Rattle.std.specs.Prelude.{true, false, List, [], ◌∷◌, ℕ}
use Rattle.refusal.specs.Limits.{limit_max}
use Rattle.refusal.specs.Outcome.{Outcome, answered, refused}
use Rattle.group.specs.Placing.{Placement}
use Rattle.worked.specs.Row.{Claim, placing, building, bytes, number, place, group, fills, takes, unreached, Row}

-- a row for one limit, and one for every legal limit
abbrev pub only : ℕ → List Claim → Row
only limit claims = record { from = limit; upto = limit; claims = claims }

abbrev pub always : List Claim → Row
always claims = record { from = 1; upto = limit_max; claims = claims }

abbrev pub placed : ℕ → ℕ → Outcome Placement
placed seed word = answered (record { seed = seed; word = word })

-- Value 6's tags.
abbrev pub unreachable : List ℕ
unreachable = 0 ∷ 1073741824 ∷ 3221225472 ∷ []

-- The image of the empty list with one group: "    0    1" and "    0    0".
abbrev pub empty_image : List ℕ
empty_image =
    32 ∷ 32 ∷ 32 ∷ 32 ∷ 48 ∷ 32 ∷ 32 ∷ 32 ∷ 32 ∷ 49 ∷ 10 ∷ 32 ∷ 32 ∷ 32 ∷ 32 ∷ 48 ∷ 32 ∷ 32 ∷ 32 ∷ 32 ∷ 48 ∷ 10 ∷ []

-- 1. "One group {1, 2}, L = 1: seed 0, word 0; tag 1 has number 1, tag 2 number 0."
abbrev pub value1 : Row
value1 = only 1 (placing (1 ∷ 2 ∷ []) (placed 0 0) ∷ number (1 ∷ 2 ∷ []) 1 1 1 ∷ number (1 ∷ 2 ∷ []) 1 2 0 ∷ [])

-- 2. "{1, 3}, L = 1: refusal 7."
abbrev pub value2 : Row
value2 = only 1 (placing (1 ∷ 3 ∷ []) (refused 7 0) ∷ building (1 ∷ 3 ∷ []) 1 (refused 7 0) ∷ [])

-- 3. "{1, 3}, L = 2: seed 1; 1 has places 0 and 0, 3 has 0 and 1; word 2. The sequence 1, 1 fills too and is not taken."
abbrev pub value3 : Row
value3 =
    only 2
    (placing (1 ∷ 3 ∷ []) (placed 1 2)
    ∷ place 2 1 0 1 0
    ∷ place 2 1 1 1 0
    ∷ place 2 1 0 3 0
    ∷ place 2 1 1 3 1
    ∷ fills (1 ∷ 3 ∷ []) 1 (true ∷ true ∷ [])
    ∷ takes (1 ∷ 3 ∷ []) 1 (false ∷ true ∷ [])
    ∷ [])

-- 4. {0, 2147483648}, L = 1: refusal 17.
abbrev pub value4 : Row
value4 = only 1 (placing (0 ∷ 2147483648 ∷ []) (refused 17 0) ∷ building (0 ∷ 2147483648 ∷ []) 1 (refused 17 0) ∷ [])

-- 5. {0, 1073741824}, L = 1: refusal 17.
abbrev pub value5 : Row
value5 = only 1 (placing (0 ∷ 1073741824 ∷ []) (refused 17 0) ∷ building (0 ∷ 1073741824 ∷ []) 1 (refused 17 0) ∷ [])

-- 6. One group {0, 1073741824, 3221225472}: refusal 17 for every L from 1 to 65,536. "place 1 is never reached", as before.
abbrev pub value6 : Row
value6 = always (placing unreachable (refused 17 0) ∷ building unreachable 1 (refused 17 0) ∷ unreached unreachable 1 ∷ [])

-- 7. "Empty list, B = 1: 22 bytes, start 0 and seed 0."
abbrev pub value7 : Row
value7 = always (building [] 1 (answered 22) ∷ bytes [] 1 empty_image ∷ [])

-- 8. "B = 2: tags 1, 2, 3 fall in groups 1, 0, 1."
abbrev pub value8 : Row
value8 = always (group 2 1 1 ∷ group 2 2 0 ∷ group 2 3 1 ∷ [])

-- 9. "One group, list 5, 5: refusal 6 at index 1."
abbrev pub value9 : Row
value9 = always (placing (5 ∷ 5 ∷ []) (refused 6 1) ∷ building (5 ∷ 5 ∷ []) 1 (refused 6 1) ∷ [])

abbrev pub table : List Row
table = value1 ∷ value2 ∷ value3 ∷ value4 ∷ value5 ∷ value6 ∷ value7 ∷ value8 ∷ value9 ∷ []
