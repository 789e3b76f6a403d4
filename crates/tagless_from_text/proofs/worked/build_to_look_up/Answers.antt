-- `tagless_from_text::worked::build_to_look_up` meets its contract, from the condition that `build_from_text` promises. Assumes nothing.
use Rattle.tagless_from_text.proofs.worked.build_to_look_up.Goals as goal

pub returns : goal.returns
returns c = record { checked = λ listed read size e. ((c.build_from_text.ensures.condition listed read).accepted size e).checked }
