-- Pieces written one behind the other. Assumes nothing.
use Rattle.std.specs.Prelude.{ℕ, ◌+◌, ◌≤◌, ◌<◌, ◌≡◌, List, [], ◌∷◌, ◌++◌, length, set, take, drop}
use Rattle.std.proofs.Common.{◌∙◌, append_assoc, append-nil, arith, length-append, length-drop, take-append-drop, take_at, drop-drop}
use Rattle.std.proofs.Common.{length-take-le}
use Rattle.std.proofs.Math.Seq.{drop-append-add}
use Rattle.std.proofs.lemmas.List.Edits.{sets, sets-eq}
use Rattle.lists.specs.Written.{written_at}

-- Nothing written changes nothing.
pub written-nothing : (at : ℕ) (bytes : List ℕ) → written_at at [] bytes ≡ bytes
unfolding written_at
written-nothing at bytes = let e : at + 0 ≡ at = omega arith in rw (append-nil, e) (take-append-drop at bytes)

-- A piece written from the first byte on.
pub written-first : (piece bytes : List ℕ) → written_at 0 piece bytes ≡ piece ++ drop (length piece) bytes
unfolding written_at
written-first piece bytes = let e : 0 + length piece ≡ length piece = omega arith in rw e

-- A buffer keeps its length.
pub written-length : (at : ℕ) (piece bytes : List ℕ) → at + length piece ≤ length bytes → length (written_at at piece bytes) ≡ length bytes
unfolding written_at
written-length at piece bytes room =
    simp (length-append, length-drop) (omega (arith, length-take-le at bytes (omega arith)))

-- Bytes stored one behind the other are a piece.
pub written-stores : (at : ℕ) (piece bytes : List ℕ) → at + length piece ≤ length bytes → sets bytes at piece ≡ written_at at piece bytes
unfolding written_at
written-stores at piece bytes room = sets-eq piece bytes at room

-- A piece written behind another, where the first ends, is both written at once.
pub written_next : (at end : ℕ) (piece more bytes : List ℕ) → end ≡ at + length piece → at ≤ length bytes
    → written_at end more (written_at at piece bytes) ≡ written_at at (piece ++ more) bytes
unfolding written_at
written_next at end piece more bytes place le =
    let front = take at bytes ++ piece in
    let long : length front ≡ at + length piece = simp (length-append, length-take-le at bytes le) in
    let rest = drop (at + length piece) bytes in
    let sum : at + length piece + length more ≡ at + length (piece ++ more) = omega (arith, length-append piece more) in
    let back : drop (at + length piece + length more) (front ++ rest) ≡ drop (at + length (piece ++ more)) bytes =
    rw long at (drop-append-add front rest (length more)) ∙ drop-drop (length more) (at + length piece) bytes ∙ rw sum in
    rw (place, take_at front rest (at + length piece) long, back, append_assoc (take at bytes) piece more)

-- So is a byte stored there.
pub written_byte : (at end : ℕ) (piece bytes : List ℕ) (byte : ℕ) → end ≡ at + length piece → end < length bytes
    → set (written_at at piece bytes) end byte ≡ written_at at (piece ++ (byte ∷ [])) bytes
written_byte at end piece bytes byte place room =
    let long = written-length at piece bytes (omega arith) in
    written-stores end (byte ∷ []) (written_at at piece bytes) (omega arith)
    ∙ written_next at end piece (byte ∷ []) bytes place (omega arith)

-- At the front, one element more behind the first i.
pub written-front : (front before : List ℕ) (i t : ℕ) → length front ≡ i → i < length before
    → set (front ++ drop i before) i t ≡ front ++ (t ∷ []) ++ drop (i + 1) before
written-front front before i t n lt =
    let more = written_byte 0 i front before t (omega arith) lt in
    rw (length-append, n) at (rw (written-first, written-first, n) at more)
