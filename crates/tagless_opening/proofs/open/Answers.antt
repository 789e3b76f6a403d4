-- `tagless_opening::open` meets its contract: each branch is one of the four ways in which an index without tags opens. Assumes nothing.
use mathlib.Core.Path.{sym, ◌∙◌, ap}
use native.Mathlib.Omega.{arith}
use Rattle.refusal.specs.Reason.{refusal_of}
use Rattle.text.specs.Line.{line_at}
use Rattle.text.proofs.LineLaws.{image-header-only}
use Rattle.tagless_opening.specs.OpeningLaws.{open-short, open-malformed, open-other-length, open-counts}
use Rattle.tagless_opening.proofs.open.Goals as goal
use Rattle.tagless_opening.proofs.open.Goals.{then-image-ge-LINE_LENGTH+in-Some+else-image-groups, else-image-ge-LINE_LENGTH}

pub returns-in_default : goal.returns-in_default
unfolding line_at
returns-in_default c =
    let header = sym c.read_image_header.ensures.answer ∙ c.in_default.is in
    record {
      answer = ap refusal_of c.into.ensures ∙ sym (open-malformed c.args.image.now c.if-image-ge-LINE_LENGTH.true header);
    }

pub overflow_mul-groups : goal.overflow_mul-groups
unfolding line_at
overflow_mul-groups c =
    let image = c.args.image.now in
    let (line, few, some-group, groups-few) =
    image-header-only _ _ (line_at 0 image) (sym c.read_image_header.ensures.answer ∙ c.in-Some.is) in
    omega arith

pub overflow_add-groups : goal.overflow_add-groups
unfolding line_at
overflow_add-groups c =
    let image = c.args.image.now in
    let (line, few, some-group, groups-few) =
    image-header-only _ _ (line_at 0 image) (sym c.read_image_header.ensures.answer ∙ c.in-Some.is) in
    omega arith

pub returns-then-image-groups : goal.returns-then-image-groups
unfolding line_at
returns-then-image-groups c =
    let image = c.args.image.now in
    let header = sym c.read_image_header.ensures.answer ∙ c.in-Some.is in
    record { answer = sym (open-counts image c.if-image-ge-LINE_LENGTH.true header c.if-image-groups.true) }

pub returns : goal.returns
unfolding line_at
returns c =
    let image = c.args.image.now in
    record {
      answer = ap refusal_of c.into-2.ensures
          ∙ elim c.if-image-ge-LINE_LENGTH.branch [
            | then-image-ge-LINE_LENGTH+in-Some+else-image-groups w ↦ sym
                (open-other-length image w.if-image-ge-LINE_LENGTH.true (sym w.read_image_header.ensures.answer ∙ w.in-Some.is)
                w.if-image-groups.false)
            | else-image-ge-LINE_LENGTH w ↦ sym (open-short image w.if-image-ge-LINE_LENGTH.false)
          ];
    }
