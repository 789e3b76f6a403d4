-- The weight of a key as the code computes it. Assumes nothing.
use Rattle.std.specs.Prelude.{ℕ, ◌+◌, ◌*◌, ◌-◌, ◌^◌, ◌≤◌, ◌%◌, ◌≡◌}
use Rattle.std.proofs.Common.{◌∙◌, ap, one-mul, arith, lit<, shl_exact}
use Rattle.filling.specs.Weight.{key_weight}

-- 2^32 and 1 shifted by 31 - i within 64 bits are the weight of key i.
pub key_weight-shifted : (i : ℕ) → 4294967296 + 1 * 2 ^ (31 - i) % 2 ^ 64 ≡ key_weight i
unfolding key_weight
key_weight-shifted i =
    let room : 1 + (31 - i) ≤ 64 = omega arith in
    let shifted = shl_exact {a = 1} 1 (31 - i) 64 (lit< tt) room ∙ one-mul (2 ^ (31 - i)) in
    ap (λ (x : ℕ). 4294967296 + x) shifted
