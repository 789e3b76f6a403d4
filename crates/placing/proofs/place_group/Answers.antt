-- `placing::place_group` meets its contract: under the seed found the sequence taken fills, so its word is what `word_under` answers.
-- Assumes nothing.
use mathlib.Core.Path.{◌≡◌, sym, ◌∙◌, ap}
use Rattle.std.specs.Prelude.{Some}
use mathlib.Core.List.{List}
use Prim.Native.Nat.{ℕ, ◌≤◌}
use native.Mathlib.Omega.{arith}
use lib.ListN.{length}
use Rattle.refusal.specs.Limits.{group_max, seed_max}
use Rattle.refusal.specs.Outcome.{answered, answered_by}
use Rattle.refusal.proofs.OutcomeLaws.{answered-of-by, refused-of-by}
use Rattle.filling.specs.Word.{word_of}
use Rattle.group.specs.Group.{taken, word_under}
use Rattle.group.proofs.GroupLaws.{least_seed-some}
use Rattle.group.proofs.WordLaws.{word-taken}
use Rattle.group.specs.Placing.{Placement, placing_of}
use Rattle.refusal.proofs.AnswerLaws.{ok_or-ok, ok_or-err, passed_up}
use Rattle.placing.specs.Answer.{placing_outcome}
use Rattle.std.proofs.lemmas.Option.{none-some, same_Some}
use Rattle.placing.proofs.PlacingLaws.{few, limit-legal, placing-says}
use Rattle.placing.proofs.place_group.Goals as goal
use Rattle.placing.proofs.place_group.Goals.{After-word_under, In_ok-seed}

-- What a seed that is answered says.
record Seeded (tags : List ℕ) (limit seed : ℕ) : Type 0 where
  outcome : placing_of tags limit ≡ answered (record { seed = seed; word = word_of (taken tags seed) })
  small : (length tags ≤ group_max) × (seed ≤ seed_max)
  word : word_under tags seed ≡ Some (word_of (taken tags seed))

seeded : (tags : List ℕ) (limit : ℕ) {seed : ℕ}
    → answered_by (λ (placed : Placement). placed.seed) (placing_of tags limit) ≡ answered seed → Seeded tags limit seed
seeded tags limit {seed} e =
    let (placed, outcome, same) = answered-of-by (λ (placed : Placement). placed.seed) (placing_of tags limit) e in
    let (front, found, word) = placing-says tags limit outcome in
    let least = least_seed-some tags limit (rw same at found) in
    record {
      outcome = outcome ∙ ap answered (placement placed same (rw same at word));
      small = (few front, omega (arith, least.below, limit-legal front));
      word = word-taken tags seed _ least.fills;
    }
  where
    placement : (placed : Placement) {word : ℕ} → placed.seed ≡ seed → placed.word ≡ word
        → placed ≡ record { seed = seed; word = word }
    placement placed s w = rw (← s, ← w)

-- Behind the search.
at-seed : (c : In_ok-seed) → Seeded c.args.tags.now c.args.limit c.in_ok-seed.seed
at-seed c = seeded _ _ (sym c.in_ok-seed.ensures.answer)

pub word_under-requires : goal.word_under-requires
word_under-requires c = (at-seed c).small

-- The word answered is that of the sequence taken.
word-is : (c : After-word_under) → c.word_under.result ≡ Some (word_of (taken c.args.tags.now c.in_ok-seed.seed))
word-is c = c.word_under.ensures.answer ∙ (seeded _ _ (sym c.in_ok-seed.ensures.answer)).word

pub returns-in_err-seed : goal.returns-in_err-seed
returns-in_err-seed c =
    let refused = refused-of-by (λ (placed : Placement). placed.seed) _ (sym c.in_err-seed.ensures.answer) in
    record { answer = ap placing_outcome (passed_up _ _ c.from_residual.ensures) ∙ sym refused }

pub returns-in_err-word : goal.returns-in_err-word
returns-in_err-word c =
    let (nothing, same) = ok_or-err _ _ c.in_err-word.ensures.value in
    record { answer = absurd (none-some _ (sym nothing ∙ word-is (goal.at.returns-in_err-word c).After-word_under)) }

pub returns : goal.returns
returns c =
    let found = ok_or-ok _ _ c.in_ok-word.ensures.value in
    let word_same = same_Some _ _ (sym found ∙ word-is (goal.at.returns c).After-word_under) in
    record { answer = rw word_same (sym (at-seed (goal.at.returns c).In_ok-seed).outcome) }
