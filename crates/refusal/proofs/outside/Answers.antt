-- `refusal::outside` meets its contract: below the range it is decided, and from its lower end on the upper end decides.
-- Assumes nothing.
use Rattle.std.proofs.Common.{sym, ◌∙◌, lt-ltb}
use Rattle.refusal.proofs.LimitsLaws.{outside_below, outside-from}
use Rattle.refusal.proofs.outside.Goals as goal

pub returns-then-x-low : goal.returns-then-x-low
returns-then-x-low c = record {
  answer = lt-ltb _ _ c.if-x-low.true ∙ sym (outside_below _ c.args.high _ c.if-x-low.true);
}

pub returns-else-x-low : goal.returns-else-x-low
returns-else-x-low c = record { answer = outside-from _ c.args.high _ c.if-x-low.false }
