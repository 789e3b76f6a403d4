-- "A list with tag 0 must not get a place for it": what planning, writing and building answer for, and building from
-- a list text, has no tag 0.
-- Assumes nothing.
use Rattle.std.specs.Prelude.{◌≡◌, false, List, ℕ}
use Rattle.std.proofs.Common.{sym, ◌∙◌}
use Rattle.refusal.specs.Limits.{unwired}
use Rattle.refusal.specs.Outcome.{answered}
use Rattle.refusal.proofs.OutcomeLaws.{followed-answered}
use Rattle.refusal.proofs.ChecksLaws.{passed}
use Rattle.lists.specs.Occurs.{occurs}
use Rattle.group.proofs.AscendingLaws.{ascending-of-check}
use Rattle.group.proofs.UnwiredLaws.{wired-of-check, wired-absent}
use Rattle.list.specs.Reading.{Listed}
use Rattle.numbering.specs.Planning.{earlier_checks, planning_of}
use Rattle.numbering.proofs.PlanningLaws.{planning-says}
use Rattle.numbering.specs.Writing.{writing_of}
use Rattle.numbering.proofs.WritingLaws.{writing-says, ready-of-pass}
use Rattle.numbering.specs.Building.{building_of}
use Rattle.numbering.proofs.BuildingLaws.{answered-says}
use Rattle.numbering.specs.FromText.{list_from_text, building_from_text}

pub planning-wired : (tags : List ℕ) (groups limit : ℕ) {planned : ℕ} → planning_of tags groups limit ≡ answered planned
    → occurs unwired tags ≡ false
unfolding earlier_checks
planning-wired tags groups limit e =
    let checks = earlier_checks tags groups limit in
    let passes = (planning-says tags groups limit e).0 in
    wired-absent tags (ascending-of-check tags (passed checks passes 6)) (wired-of-check tags (passed checks passes 17))

pub writing-wired : (tags plan : List ℕ) (room : ℕ) {size : ℕ} → writing_of tags plan room ≡ answered size → occurs unwired tags ≡ false
writing-wired tags plan room e =
    let fit = (ready-of-pass tags plan room (writing-says tags plan room e).0).fit in
    wired-absent tags fit.ascending fit.wired

pub building-wired : (tags : List ℕ) (groups limit room : ℕ) {size : ℕ} → building_of tags groups limit room ≡ answered size
    → occurs unwired tags ≡ false
building-wired tags groups limit room e = planning-wired tags groups limit (answered-says tags groups limit room e).0

pub from-text-wired : (text : List ℕ) (room : ℕ) {size : ℕ} {listed : Listed} → list_from_text text ≡ answered listed
    → building_from_text text room ≡ answered size → occurs unwired listed.tags ≡ false
unfolding building_from_text
from-text-wired text room {size} {listed} read e =
    building-wired listed.tags listed.groups listed.limit room (sym (followed-answered _ read) ∙ e)
