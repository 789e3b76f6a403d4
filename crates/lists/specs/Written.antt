-- A piece written over the bytes of a buffer. Assumes nothing.
use Rattle.std.specs.Prelude.{ℕ, ◌+◌, List, ◌++◌, length, take, drop}

-- The bytes with a piece written from `at` on; those before and after it are as they were.
unfoldable pub written_at : ℕ → List ℕ → List ℕ → List ℕ
written_at at piece bytes = take at bytes ++ piece ++ drop (at + length piece) bytes
