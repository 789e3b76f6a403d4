-- The sentences of document 02, §8, derived from the record, one or more for each of its fields. They are written out from the
-- definitions of walks, parts and choice sequences. Assumes nothing.
use Rattle.std.specs.Prelude.{◌≡◌, Bool, true, false, List, [], ℕ, ◌^◌, ◌≤◌, ◌<◌, length, get_or}
use Rattle.std.proofs.Common.{sym, ◌∙◌, ap, true≢false}
use Rattle.lists.specs.Occurs.{occurs}
use Rattle.refusal.specs.Outcome.{Outcome, answered}
use Rattle.filling.specs.Filling.{Fills}
use Rattle.group.specs.Group.{group_under}
use Rattle.group.proofs.GroupLaws.{group-size}
use Rattle.group.specs.Ascending.{Ascending}
use Rattle.graph.specs.HowMany.{one, how_many}
use Rattle.graph.specs.Graph.{Connected}
use Rattle.graph.specs.Part.{Part}
use Rattle.graph.specs.Parts.{Parts}
use Rattle.graph.specs.Sequences.{all_sequences, fills, same}
use Rattle.graph.proofs.SequencesLaws.{all-length, those, filling-length, filling-once}
use Rattle.parts_condition.specs.Condition.{PartsCondition}

module _ {tags : List ℕ} {seed : ℕ} {answer : Outcome Parts} (c : PartsCondition tags seed answer) where
  -- "for every group of up to 32 tags and every seed", whose tags ascend from a tag that is not 0, there is an answer.
  pub always-answered : seed ≤ 65535 → length tags ≤ 32 → Ascending tags → (0 < length tags → 0 < get_or tags 0 0)
      → (parts : Parts) × (answer ≡ answered parts)
  always-answered legal few ascending wired =
      c.otherwise (record { seed-legal = legal; count-legal = few; ascending = ascending; wired = wired })

  -- "the empty group is served, with no parts"
  pub empty-served : tags ≡ [] → seed ≤ 65535 → answer ≡ answered (record { serves = true; number = 0 })
  empty-served = c.empty

  module _ (parts : Parts) (told : answer ≡ answered parts) where
    -- "the answer 'serves' is that of" the first test: "some choice sequence fills".
    pub serves-fills : parts.serves ≡ true → (choices : List Bool) × Fills (group_under tags seed) choices
    serves-fills = (c.counted parts told).first-test.0

    pub fills-serves : (choices : List Bool) → Fills (group_under tags seed) choices → parts.serves ≡ true
    fills-serves choices f = (c.counted parts told).first-test.1 (choices, f)

    pub serves-not : parts.serves ≡ false → (choices : List Bool) → Fills (group_under tags seed) choices → ⊥
    serves-not e choices f = true≢false (sym (fills-serves choices f) ∙ e)

    -- "a seed serves just when no connected part of the graph (places as points, tags as edges) has more edges than points"
    pub no-part-more : parts.serves ≡ true → (points edges : List ℕ) → Part (length tags) (group_under tags seed) points edges
        → length edges ≤ length points
    no-part-more = (c.counted parts told).no_part.0

    pub parts-serve : ((points edges : List ℕ) → Part (length tags) (group_under tags seed) points edges → length edges ≤ length points)
        → parts.serves ≡ true
    parts-serve = (c.counted parts told).no_part.1

    -- "how many parts there are": so many places, one of each part. Each place, also one that no tag has, is connected with one of
    -- them, and no two of them are connected.
    pub one-of-each : (members : List ℕ) × (length members ≡ parts.number) × ((v : ℕ) → occurs v members ≡ true → v < length tags)
        × ((i j : ℕ) → i < length members → j < length members
        → Connected (group_under tags seed) (get_or members i 0) (get_or members j 0) → i ≡ j)
        × ((v : ℕ) → v < length tags → (u : ℕ) × (occurs u members ≡ true) × Connected (group_under tags seed) u v)
    one-of-each =
        let (members, each, size) = (c.counted parts told).number in
        (members, size, each.below, each.apart, each.each)

    -- "the number of filling sequences is 2 to the power of the number of parts": there is a list of that length in which each sequence
    -- that fills stands once, and no other stands. It is taken from all 2^n sequences.
    pub all-filling : parts.serves ≡ true → (listed : List (List Bool)) × (length listed ≡ 2 ^ parts.number)
        × ((choices : List Bool) → how_many (same choices) listed ≡ one (fills (group_under tags seed) choices))
    all-filling e =
        let keys = group_under tags seed in
        let counted = ap (λ (n : ℕ). how_many (fills keys) (all_sequences n)) (group-size tags seed) ∙ (c.counted parts told).sequences e in
        (those (fills keys) (all_sequences (length keys)), filling-length keys ∙ counted, filling-once keys)

    pub counted-of-all : parts.serves ≡ true → (how_many (fills (group_under tags seed)) (all_sequences (length tags)) ≡ 2 ^ parts.number)
        × (length (all_sequences (length tags)) ≡ 2 ^ length tags)
    counted-of-all e = ((c.counted parts told).sequences e, all-length (length tags))
