-- When a number is outside a range, and when it is in it; and how many bits a choice word has. Assumes nothing.
use Rattle.std.specs.Prelude.{◌≡◌, refl, Bool, true, false, ℕ, ◌^◌, ◌≤◌, ◌<◌, leb, ltb}
use Rattle.std.proofs.Common.{sym, arith, leb-true, le-leb, ltb-true, ltb-false}
use Rattle.std.proofs.lemmas.Bool.{lt-leb}
use Rattle.refusal.specs.Limits.{tag_end, group_max, outside}

-- "the choice word uses all 32 bits": document 02, §2. A bit for each tag of a full group makes a number of 32 bits.
pub word-bits : 2 ^ group_max ≡ tag_end
word-bits = refl

pub outside_below : (low high x : ℕ) → x < low → outside low high x ≡ true
unfolding outside
outside_below low high x below = rw (lt-leb low x below)

pub outside_above : (low high x : ℕ) → high < x → outside low high x ≡ true
unfolding outside
outside_above low high x above = go (leb low x) refl
  where
    go : (b : Bool) → leb low x ≡ b → outside low high x ≡ true
    go true e = rw (e, lt-leb x high above)
    go false e = rw e

pub outside-not : (low high x : ℕ) → low ≤ x → x ≤ high → outside low high x ≡ false
unfolding outside
outside-not low high x from upto = rw (le-leb low x from, le-leb x high upto)

-- From low on, only the upper end is to be tested.
pub outside-from : (low high x : ℕ) → low ≤ x → ltb high x ≡ outside low high x
outside-from low high x from = go (ltb high x) refl
  where
    go : (b : Bool) → ltb high x ≡ b → b ≡ outside low high x
    go true e = sym (outside_above low high x (ltb-true high x e))
    go false e = sym (outside-not low high x from (ltb-false high x e))

pub inside : (low high x : ℕ) → outside low high x ≡ false → (low ≤ x) × (x ≤ high)
unfolding outside
inside low high x e = go (leb low x) (leb x high) refl refl
  where
    go : (b d : Bool) → leb low x ≡ b → leb x high ≡ d → (low ≤ x) × (x ≤ high)
    go true true f g = (leb-true low x f, leb-true x high g)
    go true false f g = absurd (let z : ◌≡◌ {A = ℕ} 0 1 = cc in omega arith)
    go false d f g = absurd (let z : ◌≡◌ {A = ℕ} 0 1 = cc in omega arith)
