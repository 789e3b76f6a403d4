-- The paper's number of each reason, and the outcome that a refusal is. Assumes nothing.
use Rattle.std.specs.Prelude.{ℕ}
use Rattle.refusal.specs.Outcome.{Outcome, refused}
use Rattle.refusal.specs.declared.Reason.{Reason}
use Rattle.refusal.specs.declared.Reason.TheVariants.{SizeOutOfRange, SeedOutOfRange, ChoiceOutOfRange, LimitOutOfRange}
use Rattle.refusal.specs.declared.Reason.TheVariants.{TooManyTags, NotAscending, NoSeed, GroupCountOutOfRange, BufferTooShort}
use Rattle.refusal.specs.declared.Reason.TheVariants.{GroupTooLarge, WrongLength, MalformedLine, FaultyGroup, WrongSlot}
use Rattle.refusal.specs.declared.Reason.TheVariants.{RepeatedTag, MalformedList, UnwiredTag, SeedDoesNotServe}
use Rattle.refusal.specs.declared.Reason.TheVariants.{NotAsBuilt}
use Rattle.refusal.specs.declared.Refusal.{Refusal}

-- "Refusal 1: n is not 1 to [32]. 2: seed above 65,535. …": document 01, "Operations and what stops each"; 17, 18 and 19:
-- document 02, §1, §3 and §7.
abbrev pub reason_number : Reason → ℕ
reason_number SizeOutOfRange = 1
reason_number SeedOutOfRange = 2
reason_number ChoiceOutOfRange = 3
reason_number LimitOutOfRange = 4
reason_number TooManyTags = 5
reason_number NotAscending = 6
reason_number NoSeed = 7
reason_number GroupCountOutOfRange = 8
reason_number BufferTooShort = 9
reason_number GroupTooLarge = 10
reason_number WrongLength = 11
reason_number MalformedLine = 12
reason_number FaultyGroup = 13
reason_number WrongSlot = 14
reason_number RepeatedTag = 15
reason_number MalformedList = 16
reason_number UnwiredTag = 17
reason_number SeedDoesNotServe = 18
reason_number NotAsBuilt = 19

-- A refused operation's outcome, whatever it would have answered.
abbrev pub refusal_of : {A : Type 0} → Refusal → Outcome A
refusal_of r = refused (reason_number r.reason) r.place
