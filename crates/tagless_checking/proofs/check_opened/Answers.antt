-- `tagless_checking::check_opened` meets its contract: a malformed line is the refusal, and otherwise the starts decide. Assumes nothing.
use mathlib.Core.Path.{◌≡◌, refl, sym, ◌∙◌, ap}
use mathlib.Core.List.{List}
use Prim.Native.Nat.{ℕ, ◌+◌}
use Rattle.lists.specs.First.{first}
use Rattle.std.specs.Prelude.{Option}
use Rattle.refusal.specs.Reason.{refusal_of}
use Rattle.image.specs.Checking.{malformed_in}
use Rattle.tagless_image.specs.View.{tagless_view}
use Rattle.tagless_opening.specs.OpeningLaws.{opening-answered}
use Rattle.tagless_checking.specs.StepsLaws.{check-line, check-faulty, check-accepted}
use Rattle.tagless_checking.proofs.check_opened.Goals as goal

-- What reading the lines found.
lines : {answer told : Option ℕ} (image : List ℕ) (groups : ℕ)
    → answer ≡ first (malformed_in (tagless_view image)) (1 + groups) → answer ≡ told
    → first (malformed_in (tagless_view image)) (1 + groups) ≡ told
lines image groups promised e = sym promised ∙ e

pub read_lines-requires : goal.read_lines-requires
read_lines-requires c = record { tagless_opens = opening-answered c.args.image.now c.requires; starts_len = refl }

pub returns-in-Some : goal.returns-in-Some
returns-in-Some c =
    let found = lines c.args.image.now c.args.groups c.read_lines.ensures.answer c.in-Some.is in
    record { answer = ap refusal_of c.at.ensures.answer ∙ sym (check-line c.args.image.now c.requires found) }

pub faulty_group-requires : goal.faulty_group-requires
faulty_group-requires c = (opening-answered c.args.image.now c.requires).groups-legal

pub returns-in-Some-faulty_group : goal.returns-in-Some-faulty_group
returns-in-Some-faulty_group c =
    let none_malformed = lines c.args.image.now c.args.groups c.read_lines.ensures.answer c.in_default.is in
    let stored = rw c.in_default.is at c.read_lines.ensures.cells in
    let found = sym c.faulty_group.ensures.answer ∙ c.in-Some-faulty_group.is in
    record {
      answer = ap refusal_of c.at-in-Some-faulty_group.ensures.answer
          ∙ sym (check-faulty c.args.image.now c.requires none_malformed stored found);
    }

pub returns : goal.returns
returns c =
    let none_malformed = lines c.args.image.now c.args.groups c.read_lines.ensures.answer c.in_default.is in
    let stored = rw c.in_default.is at c.read_lines.ensures.cells in
    let found = sym c.faulty_group.ensures.answer ∙ c.in_default-faulty_group.is in
    record { answer = sym (check-accepted c.args.image.now c.requires none_malformed stored found) }
