-- The claim from building's answer, and from lookup in what it wrote. Assumes nothing.
use Rattle.std.specs.Prelude.{◌≡◌, refl, true, List, ℕ, ◌≤◌, ◌<◌, length, take, drop}
use Rattle.std.proofs.Common.{arith, length-append}
use Rattle.refusal.specs.Limits.{tag_end, unwired}
use Rattle.refusal.specs.Outcome.{Outcome, answered, refused, followed_by}
use Rattle.lists.specs.Occurs.{occurs}
use Rattle.image.specs.Lookup.{number, lookup_of}
use Rattle.numbering.specs.Building.{image_of, building_of, buffer_after}
use Rattle.numbering.specs.Planning.{seed_taken}
use Rattle.numbering.proofs.WritingLaws.{image-length}
use Rattle.numbering.proofs.BuildingLaws.{buffer-written, answered-size}
use Rattle.numbering.proofs.UnwiredLaws.{building-wired}
use Rattle.condition3_theorem.specs.Condition3Theorem.{image-written, looked-up}
use Rattle.claim.specs.Claim.{found_in, claim_of}

module _ (tags : List ℕ) (groups limit : ℕ) (before : List ℕ) (tag : ℕ) where
  pub claim-refused : {number place : ℕ} → building_of tags groups limit (length before) ≡ refused number place
      → claim_of tags groups limit (length before) tag ≡ refused number place
  unfolding claim_of followed_by
  claim-refused e = rw e

  -- The written image lies within the buffer.
  pub written-within : {size : ℕ} {after : List ℕ} → after ≡ buffer_after tags groups limit before
      → building_of tags groups limit (length before) ≡ answered size → size ≤ length after
  written-within {size} is e =
      let image = image_of groups tags limit in
      rw (is, buffer-written tags groups limit before e)
      (omega (
        arith,
        answered-size tags groups limit (length before) e,
        image-length groups tags (seed_taken groups tags limit),
        length-append image (drop (length image) before),
      ))

  -- Lookup in the first bytes of the buffer gives the claim.
  pub claim-found : {size : ℕ} {after : List ℕ} → ((t : ℕ) → occurs t tags ≡ true → t < tag_end)
      → after ≡ buffer_after tags groups limit before
      → building_of tags groups limit (length before) ≡ answered size
      → lookup_of (take size after) tag ≡ claim_of tags groups limit (length before) tag
  unfolding claim_of followed_by found_in
  claim-found {size} words is e =
      rw (is, image-written tags groups limit before size e, e)
      (looked-up tags groups limit (length before) words e tag)

-- Tag 0 has a number in nothing that building writes.
pub claim-unwired : (tags : List ℕ) (groups limit room j : ℕ) → claim_of tags groups limit room unwired ≡ answered (number j) → ⊥
unfolding claim_of followed_by found_in
claim-unwired tags groups limit room j = go (building_of tags groups limit room) refl
  where
    go : (o : Outcome ℕ) → building_of tags groups limit room ≡ o
        → followed_by o (λ size. answered (found_in tags groups limit unwired)) ≡ answered (number j) → ⊥
    go (answered size) e found =
        let nobody = rw (building-wired tags groups limit room e) at found in
        let z : ◌≡◌ {A = ℕ} 0 1 = cc in
        omega arith
    go (refused reason place) e found = let z : ◌≡◌ {A = ℕ} 0 1 = cc in omega arith
