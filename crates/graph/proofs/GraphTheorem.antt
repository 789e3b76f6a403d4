-- What document 001 says of the graph, and document 02, §8, of the number of filling sequences, of any keys with two candidate places each
-- below n: by walks, parts and choice sequences alone. Assumes nothing.
use Rattle.std.specs.Prelude.{ℕ, ◌^◌, ◌<◌, ◌≡◌, ◌↔◌, Bool, true, List, length}
use Rattle.std.proofs.Common.{◌∙◌, ap, subst}
use Rattle.filling.specs.Filling.{Key, Fills, EachCandidate}
use Rattle.graph.specs.HowMany.{how_many}
use Rattle.graph.specs.Part.{NoPartHasMoreEdges, PartsAre}
use Rattle.graph.specs.Parts.{parts_of}
use Rattle.graph.specs.Sequences.{all_sequences, fills}
use Rattle.graph.proofs.NumberLaws.{label-sequences}
use Rattle.graph.proofs.PartLaws.{serves-parts, serves-fills, lowest-roots, parts-unique, parts_are}

-- "a seed serves just when no connected part of the graph (places as points, tags as edges) has more edges than points"
pub fills-exactly : (n : ℕ) (keys : List Key) → EachCandidate (λ x. x < n) keys
    → ((cs : List Bool) × Fills keys cs) ↔ NoPartHasMoreEdges n keys
fills-exactly n keys below = (
  λ filled. (serves-parts keys n).0 ((serves-fills keys n below).1 filled),
  λ no_part. (serves-fills keys n below).0 ((serves-parts keys n).1 no_part),
)

-- "When a seed serves n tags on n places, the number of filling sequences is 2 to the power of the number of parts", of all 2^n sequences:
-- by the number that is counted,
counted-whole : (keys : List Key) → EachCandidate (λ x. x < length keys) keys → (parts_of (length keys) keys).serves ≡ true
    → how_many (fills keys) (all_sequences (length keys)) ≡ 2 ^ (parts_of (length keys) keys).number
unfolding parts_of
counted-whole keys below served =
    let (cs, f) = (serves-fills keys (length keys) below).0 served in
    label-sequences keys cs below f ∙ rw (lowest-roots (length keys) keys below)

pub sequences-counted : (n : ℕ) (keys : List Key) → length keys ≡ n → EachCandidate (λ x. x < n) keys → (parts_of n keys).serves ≡ true
    → how_many (fills keys) (all_sequences n) ≡ 2 ^ (parts_of n keys).number
sequences-counted n keys size =
    subst (λ (n : ℕ). EachCandidate (λ x. x < n) keys → (parts_of n keys).serves ≡ true
    → how_many (fills keys) (all_sequences n) ≡ 2 ^ (parts_of n keys).number) size (counted-whole keys)

-- and by whatever points stand for the parts.
pub sequences-number : (n : ℕ) (keys : List Key) → length keys ≡ n → EachCandidate (λ x. x < n) keys → (cs : List Bool) → Fills keys cs
    → (number : ℕ) → PartsAre n keys number → how_many (fills keys) (all_sequences n) ≡ 2 ^ number
sequences-number n keys size below cs f number are =
    sequences-counted n keys size below ((serves-fills keys n below).1 (cs, f))
    ∙ ap (λ (k : ℕ). 2 ^ k) (parts-unique n keys _ number (parts_are n keys) are)
