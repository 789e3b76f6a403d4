-- A part of a buffer, with a piece written there, before it or behind it. Assumes nothing.
use mathlib.Core.Path.{◌≡◌, sym, ◌∙◌, ap}
use mathlib.Core.List.{List, ◌++◌, append_assoc}
use Prim.Native.Nat.{ℕ, ◌+◌, ◌-◌, ◌≤◌}
use native.Mathlib.Omega.{arith}
use lib.ListN.{length, take, drop, length-append, length-drop, take-append-drop}
use lib.Seq.{take_at, drop_at, take-append-le, drop-append-le, drop-append-add, drop-drop, length-take-le}
use Rattle.lists.specs.Written.{written_at}

-- What was written there.
pub kept_there : (at : ℕ) (piece bytes : List ℕ) {n : ℕ} → length piece ≡ n → at ≤ length bytes
    → take n (drop at (written_at at piece bytes)) ≡ piece
unfolding written_at
kept_there at piece bytes {n} long le =
    let rest = drop (at + length piece) bytes in
    rw (append_assoc (take at bytes) piece rest, drop_at (take at bytes) (piece ++ rest) at (length-take-le at bytes le))
    (take_at piece rest n long)

-- A piece that ends where the part begins, or before.
pub kept-behind : (at from : ℕ) (piece bytes : List ℕ) → from + length piece ≤ at → from ≤ length bytes
    → drop at (written_at from piece bytes) ≡ drop at bytes
unfolding written_at
kept-behind at from piece bytes room le =
    let front = take from bytes ++ piece in
    let long : length front ≡ from + length piece = simp (length-append, length-take-le from bytes le) in
    let sum : length front + (at - (from + length piece)) ≡ at = omega arith in
    let whole : from + length piece + (at - (from + length piece)) ≡ at = omega arith in
    rw sum at (drop-append-add front (drop (from + length piece) bytes) (at - (from + length piece)))
    ∙ drop-drop (at - (from + length piece)) (from + length piece) bytes
    ∙ rw whole

-- A piece that begins where the part ends, or behind.
in-front : (n at : ℕ) (front rest : List ℕ) → at + n ≤ length front → take n (drop at (front ++ rest)) ≡ take n (drop at front)
in-front n at front rest room =
    rw (drop-append-le at front rest (omega arith)) (take-append-le n (drop at front) rest (rw length-drop (omega arith)))

pub kept-before : (n at from : ℕ) (piece bytes : List ℕ) → at + n ≤ from → from ≤ length bytes
    → take n (drop at (written_at from piece bytes)) ≡ take n (drop at bytes)
unfolding written_at
kept-before n at from piece bytes room le =
    let front = take from bytes in
    let rest = drop (from + length piece) bytes in
    let long : length front ≡ from = length-take-le from bytes le in
    rw (append_assoc front piece rest) (in-front n at front (piece ++ rest) (omega arith))
    ∙ sym (in-front n at front (drop from bytes) (omega arith))
    ∙ ap (λ (l : List ℕ). take n (drop at l)) (take-append-drop from bytes)
