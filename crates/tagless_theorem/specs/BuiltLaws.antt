-- An index without tags made from seeds and words that fill every group: checking accepts it, and lookup answers the tags' numbers.
-- Assumes nothing.
use Rattle.std.specs.Prelude.{◌≡◌, refl, ◌⊎◌, Bool, List, [], ◌∷◌, map, eqb, Option, Some, unwrap_or, option_map}
use Rattle.std.proofs.Common.{sym, ◌∙◌, inl, inr, arith}
use Rattle.std.proofs.Math.Path.{ap}
use Rattle.std.proofs.Math.Bool.{true, false, cond}
use Prim.Native.Nat.{ℕ, suc, ◌+◌, ◌-◌, ◌*◌, ◌≤◌, ◌<◌}
use Rattle.std.proofs.Math.Dec.{ltb}
use Rattle.std.proofs.Math.ListN.{length}
use borrow.Author.Tests.{eqb-false, eqb-true, ltb-true, ltb-false, le-ltb, eq-eqb}
use Rattle.refusal.specs.Limits.{tag_end, tags_max, groups_max, group_max, seed_max, unwired}
use Rattle.refusal.specs.Outcome.{answered}
use Rattle.lists.proofs.FirstLaws.{is_some-of-some}
use Rattle.lists.specs.Occurs.{occurs}
use Rattle.lists.proofs.OccursLaws.{occurs-cases}
use Rattle.refusal.proofs.ChecksLaws.{met-false, in_order-pass}
use Rattle.hash.specs.Formula.{group_of, place_of}
use Rattle.hash.proofs.FormulaLaws.{group-below}
use Rattle.filling.specs.Filling.{place_by}
use Rattle.filling.specs.Word.{choice_number}
use Rattle.group.specs.Group.{both_places}
use Rattle.text.specs.Line.{line_length}
use Rattle.word_line.specs.WordLine.{word_line_length, start_and_seed}
use Rattle.image.specs.View.{View, count_in, groups_in, start_in, seed_in, end_in, candidate_in}
use Rattle.image.specs.Lookup.{number, unknown}
use Rattle.image.specs.LinesRead.{own_group}
use Rattle.image.specs.Fair.{AllFair}
use Rattle.image.proofs.FaultLaws.{faulty-of-fair}
use Rattle.numbering.specs.Members.{members, start_of}
use Rattle.numbering.proofs.MembersLaws.{members-own, start-zero, start-all, start-suc, start-before}
use Rattle.numbering.specs.Number.{choice_of, place_in, number_of}
use Rattle.tagless_group.specs.Words.{choice_by, choices_by}
use Rattle.tagless_image.specs.Sheet.{TaglessSheet, tagless_bytes, tagless_length}
use Rattle.tagless_image.proofs.SheetLaws.{tagless-length, header-reads, group_reads}
use Rattle.tagless_image.specs.View.{stated_at, tagless_view, word_in}
use Rattle.tagless_image.specs.Checking.{tagless_opening, tagless_checks, tagless_checking_of}
use Rattle.tagless_image.specs.Lookup.{number_by, tagless_lookup_of}
use Rattle.tagless_image.proofs.CheckedLaws.{Sound, pass-of-sound, sound-unwired, sound_empty, sound-number}
use Rattle.tagless.specs.Number.{tagless_number}
use Rattle.tagless.specs.Building.{tagless_sheet_of}

-- The choice sequence of each group by its word.
abbrev pub word_choices : ℕ → List ℕ → (ℕ → ℕ) → (ℕ → ℕ) → ℕ → List Bool
word_choices groups tags seed word g = choices_by (word g) (seed g) (members groups g tags)

-- In a sequence made tag by tag, a tag's choice is its own.
choice-of-map : (f : ℕ → Bool) (us : List ℕ) (t : ℕ) → occurs t us ≡ true → choice_of us (map f us) t ≡ f t
unfolding choice_of occurs
choice-of-map f [] t m = cc
choice-of-map f (u ∷ us) t m = go (eqb t u) refl (occurs-cases t u us m) (choice-of-map f us t)
  where
    go : (b : Bool) → eqb t u ≡ b → (t ≡ u) ⊎ (occurs t us ≡ true) → (occurs t us ≡ true → choice_of us (map f us) t ≡ f t)
        → cond b (f u) (choice_of us (map f us) t) ≡ f t
    go true e o rest = ap f (sym (eqb-true t u e))
    go false e (inl same) rest = absurd (eqb-false t u e same)
    go false e (inr there) rest = rest there

-- The place that a choice takes, by the formula.
place-by-choice : (c : Bool) (n s t : ℕ) → place_by c (both_places n s t) ≡ place_of n s (choice_number c) t
unfolding place_by both_places choice_number
place-by-choice false n s t = refl
place-by-choice true n s t = refl

-- A listed tag's number by its group's word is its number by the word's choice sequence.
pub number-by-choices : (groups : ℕ) (tags : List ℕ) (seed word : ℕ → ℕ) (t : ℕ) → occurs t tags ≡ true
    → number_of groups tags seed (word_choices groups tags seed word) t ≡ tagless_number groups tags seed word t
unfolding number_of place_in tagless_number choices_by
number-by-choices groups tags seed word t m =
    let g = group_of groups t in
    let own = members groups g tags in
    rw (
      choice-of-map (choice_by (word g) (seed g)) own t (members-own groups tags t m),
      place-by-choice (choice_by (word g) (seed g) t) (length own) (seed g) t,
    )

-- The numbers of a list's sheet fit their fields.
pub record InRange (tags : List ℕ) (groups : ℕ) (seed word : ℕ → ℕ) : Type 0 where
  pub groups-legal : (1 ≤ groups) × (groups ≤ groups_max)
  pub count-legal : length tags ≤ tags_max
  pub seeds-legal : (g : ℕ) → g < groups → seed g ≤ seed_max
  pub words-legal : (g : ℕ) → g < groups → word g < tag_end
  pub groups-small : (g : ℕ) → g < groups → length (members groups g tags) ≤ group_max

module _ {tags : List ℕ} {groups : ℕ} {seed word : ℕ → ℕ} (range : InRange tags groups seed word) where
  abbrev sheet : TaglessSheet
  sheet = tagless_sheet_of groups tags seed word

  abbrev image : List ℕ
  image = tagless_bytes sheet

  abbrev v : View
  v = tagless_view image

  -- The lines read back.
  header_is : v.header ≡ Some (length tags, groups)
  unfolding tagless_view tagless_sheet_of
  header_is = header-reads sheet range.count-legal range.groups-legal.0 range.groups-legal.1

  stated-is : (g : ℕ) → g < groups → stated_at image (suc g) ≡ Some (start_of groups g tags, seed g, word g)
  unfolding tagless_sheet_of
  stated-is g lt =
      let before = start-before groups g groups tags (omega arith) in
      let all = start-all groups tags range.groups-legal.0 in
      group_reads sheet g lt (omega (arith, range.count-legal)) (range.seeds-legal g lt) (range.words-legal g lt)

  line-is : (g : ℕ) → g < groups → v.group_at (suc g) ≡ Some (start_of groups g tags, seed g)
  unfolding tagless_view
  line-is g lt = ap (option_map start_and_seed) (stated-is g lt)

  pub built-count : count_in v ≡ length tags
  unfolding count_in
  built-count = rw header_is

  groups-is : groups_in v ≡ groups
  unfolding groups_in
  groups-is = rw header_is

  start_is : (g : ℕ) → g < groups → start_in v g ≡ start_of groups g tags
  unfolding start_in
  start_is g lt = ap (λ (o : Option (ℕ × ℕ)). (unwrap_or o (0, 0)).0) (line-is g lt)

  seed-is : (g : ℕ) → g < groups → seed_in v g ≡ seed g
  unfolding seed_in
  seed-is g lt = ap (λ (o : Option (ℕ × ℕ)). (unwrap_or o (0, 0)).1) (line-is g lt)

  word-is : (g : ℕ) → g < groups → word_in image g ≡ word g
  unfolding word_in
  word-is g lt = ap (λ (o : Option (ℕ × ℕ × ℕ)). (unwrap_or o (0, 0, 0)).2) (stated-is g lt)

  end_is : (g : ℕ) → g < groups → end_in v g ≡ start_of groups (suc g) tags
  unfolding end_in
  end_is g lt = rw (groups-is, built-count) (go (ltb (suc g) groups) refl)
    where
      go : (b : Bool) → ltb (suc g) groups ≡ b → cond b (start_in v (suc g)) (length tags) ≡ start_of groups (suc g) tags
      go true e = start_is (suc g) (ltb-true (suc g) groups e)
      go false e =
          let last : suc g ≡ groups = omega (arith, ltb-false (suc g) groups e) in
          rw last (sym (start-all groups tags range.groups-legal.0))

  fair : AllFair v
  fair g lt =
      let below : g < groups = rw groups-is at lt in
      rw (start_is g below, end_is g below)
      (record {
        zero-first = λ e. rw e (start-zero groups tags);
        ascends = omega (arith, start-suc groups g tags);
        small = omega (arith, start-suc groups g tags, range.groups-small g below);
      })

  size_is : v.size ≡ line_length + word_line_length * groups
  unfolding tagless_view tagless_sheet_of tagless_length
  size_is = tagless-length sheet

  -- So checking accepts the image,
  sound : Sound v
  unfolding tagless_opening tagless_length
  sound = record {
    opens = (
      met-false (le-ltb v.size line_length (rw size_is (omega arith))),
      (
        met-false (rw (is_some-of-some header_is)),
        (met-false (rw (groups-is, eq-eqb v.size (line_length + word_line_length * groups) size_is)), tt),
      ),
    );
    group_lines = λ g lt. is_some-of-some (line-is g (rw groups-is at lt));
    not-faulty = λ g lt. faulty-of-fair g (start_in v g) (end_in v g) (fair g lt);
  }

  pub built-checked : tagless_checking_of image ≡ answered 0
  unfolding tagless_checking_of
  built-checked = in_order-pass (tagless_checks v) (answered 0) (pass-of-sound v sound)

  -- and lookup finds no number for tag 0 and in an empty group, and for any other tag its own.
  pub built-unwired : tagless_lookup_of image unwired ≡ answered unknown
  built-unwired = sound-unwired image sound

  many : 0 < groups_in v
  many = rw groups-is range.groups-legal.0

  own_below : (t : ℕ) → group_of groups t < groups
  own_below t = group-below groups t range.groups-legal.0

  own_is : (t : ℕ) → own_group v t ≡ group_of groups t
  own_is t = rw groups-is

  -- A group is empty exactly where it ends where it starts.
  pub built-empty : (t : ℕ) → (t ≡ unwired → ⊥) → length (members groups (group_of groups t) tags) ≡ 0
      → tagless_lookup_of image t ≡ answered unknown
  built-empty t wired none =
      sound_empty image sound many t wired
      (rw (own_is t, start_is (group_of groups t) (own_below t), end_is (group_of groups t) (own_below t))
      (omega (arith, start-suc groups (group_of groups t) tags)))

  pub built-number : (t : ℕ) → (t ≡ unwired → ⊥) → (length (members groups (group_of groups t) tags) ≡ 0 → ⊥)
      → tagless_lookup_of image t ≡ answered (number (tagless_number groups tags seed word t))
  unfolding number_by candidate_in tagless_number
  built-number t wired some-tags =
      let g = group_of groups t in
      let lt = own_below t in
      let size : start_of groups (suc g) tags - start_of groups g tags ≡ length (members groups g tags) =
      omega (arith, start-suc groups g tags) in
      sound-number image sound many t wired filled
      ∙ rw (own_is t, start_is g lt, end_is g lt, seed-is g lt, word-is g lt, size)
    where
      filled : start_in v (own_group v t) ≡ end_in v (own_group v t) → ⊥
      filled e =
          let g = group_of groups t in
          let same : start_of groups g tags ≡ start_of groups (suc g) tags =
          rw (own_is t, start_is g (own_below t), end_is g (own_below t)) at e in
          some-tags (omega (arith, start-suc groups g tags))
