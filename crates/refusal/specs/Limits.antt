-- The ranges of documents 01 and 02, and the tag that document 02 reserves, each named once. Assumes nothing.
use Rattle.std.specs.Prelude.{ℕ, Bool, not, ◌&&◌, leb}

-- "A tag is a number from 0 to 4,294,967,295": below 2^32, which is also what products are taken modulo
abbrev pub tag_end : ℕ
tag_end = 4294967296

-- "A list has N tags, 0 to 4,096"
abbrev pub tags_max : ℕ
tags_max = 4096

-- "B is the group count, 1 to 512"
abbrev pub groups_max : ℕ
groups_max = 512

-- "L is the seed limit, 1 to 65,536"
abbrev pub limit_max : ℕ
limit_max = 65536

-- "the seeds tried are 0 to L-1": a seed is at most 65,535
abbrev pub seed_max : ℕ
seed_max = 65535

-- "A group holds 0 to [32] tags"; "A group may now hold 32 tags": document 02, §2. A quotation of document 01 in which that changes the
-- number has it in brackets.
abbrev pub group_max : ℕ
group_max = 32

-- "Input above 65,527 bytes is refused with 5 at place 0, unexamined": the printer's input and the C boundary's
abbrev pub text_max : ℕ
text_max = 65527

-- "Plant numbering now reserves tag 0 for an unwired point, and a gauge that reports it has no figure": document 02, §1
abbrev pub unwired : ℕ
unwired = 0

-- x "is not" low to high
unfoldable pub outside : ℕ → ℕ → ℕ → Bool
outside low high x = not (leb low x && leb x high)
