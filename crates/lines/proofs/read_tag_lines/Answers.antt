-- `lines::read_tag_lines` meets its contract: each line that the loop has passed is a tag's, and its tag is stored where there is
-- a cell for it. Assumes nothing.
use mathlib.Core.Path.{◌≡◌, refl, sym, ◌∙◌}
use mathlib.Core.Logic.{inl, inr}
use mathlib.Core.List.{List}
use Prim.Native.Nat.{ℕ, ◌+◌, ◌*◌, ◌-◌}
use lib.ListN.{take, drop}
use native.Mathlib.Omega.{arith}
use Rattle.lists.proofs.SearchLaws.{searched-done}
use Rattle.std.specs.Prelude.{Option}
use Rattle.text.specs.Line.{line_length, line_at, within, tag_of}
use lib.Dec.{ltb}
use Rattle.refusal.specs.Limits.{tag_end}
use Rattle.text.proofs.LineLaws.{line_said}
use Rattle.text.specs.TagLines.{tag_in}
use Rattle.text.proofs.PartLaws.{part-whole}
use Rattle.lines.proofs.Examined.{examined-start, examined-turn, examined-found}
use Rattle.lines.proofs.read_tag_lines.Goals as goal
use Rattle.lines.proofs.read_tag_lines.Goals.{then-k-from-lt-TAG_CELLS, else-k-from-lt-TAG_CELLS}

-- What the reader of a line, lent its part of the text, says of line k.
states : (bytes : List ℕ) (k : ℕ) {found told : Option ℕ}
    → found
    ≡ within (λ t. ltb t tag_end) (tag_of (take (line_length * k + line_length - line_length * k) (drop (line_length * k) bytes)))
    → found ≡ told → tag_in (line_at k bytes) ≡ told
unfolding tag_in
states bytes k answer e =
    line_said tag_in bytes k k (answer ∙ rw (part-whole bytes (line_length * k) line_length)) e refl

pub loop-k-init : goal.loop-k-init
loop-k-init c = examined-start _ _ _ _ c.requires.from_le_end.0

pub returns-in_default : goal.returns-in_default
returns-in_default c =
    let inv = c.loop-k.invariant in
    record {
      answer = sym (examined-found inv c.loop-k-test.true (states _ _ c.tag_in.ensures.answer c.in_default.is));
      cells = inv.cells_are;
    }

pub loop-k-preserved : goal.loop-k-preserved
loop-k-preserved c =
    let long = c.requires.from_le_end.1 in
    examined-turn c.loop-k.invariant c.loop-k-test.true (states _ _ c.tag_in.ensures.answer c.in-Some.is)
    (elim c.if-k-from-lt-TAG_CELLS.branch [
      | then-k-from-lt-TAG_CELLS w ↦ inl (omega (arith, long), w.cells-is)
      | else-k-from-lt-TAG_CELLS w ↦ inr (omega (arith, long), w.cells-is)
    ])

pub returns : goal.returns
returns c =
    let inv = c.loop-k.invariant in
    let end : c.loop-k.k ≡ c.args.end = omega (arith, inv.searched.within, c.loop-k-test.false) in
    record { answer = sym (searched-done _ _ _ _ inv.searched c.loop-k-test.false); cells = rw end at inv.cells_are }
