-- A group that is placed is the case of as many places as tags. Assumes nothing.
use Rattle.std.specs.Prelude.{◌≡◌, refl, ℕ, List, length}
use Rattle.group.specs.Group.{least_seed, taken, word_under}
use Rattle.group_places.specs.Places.{least_seed_on, taken_on, word_on}

pub least_seed-case : (tags : List ℕ) (limit : ℕ) → least_seed tags limit ≡ least_seed_on (length tags) tags limit
unfolding least_seed least_seed_on
least_seed-case tags limit = refl

pub taken-case : (tags : List ℕ) (s : ℕ) → taken tags s ≡ taken_on (length tags) tags s
unfolding taken taken_on
taken-case tags s = refl

pub word_under-case : (tags : List ℕ) (s : ℕ) → word_under tags s ≡ word_on (length tags) tags s
unfolding word_under word_on
word_under-case tags s = refl
