-- The four ways in which an image opens, and what follows for what stands behind the opening checks. Assumes nothing.
use Rattle.std.specs.Prelude.{◌≡◌, not, ℕ, ◌≤◌, ◌<◌, eqb, None, Some}
use Rattle.std.proofs.Common.{sym, ◌∙◌, ap}
use borrow.Author.Tests.{le-ltb, lt-ltb, eq-eqb, ne_eqb, eqb-true, not-false}
use Rattle.refusal.specs.Outcome.{Outcome, answered, refused}
use Rattle.lists.specs.First.{met_at, is_some}
use Rattle.lists.proofs.FirstLaws.{some-of-is_some}
use Rattle.refusal.specs.Checks.{met, in_order}
use Rattle.refusal.proofs.ChecksLaws.{in_order-pass, in_order-answered, in_order-refused, refused-in_order, false-of-met}
use Rattle.text.specs.Line.{line_length}
use Rattle.image.specs.View.{View, count_in, groups_in}
use Rattle.image.specs.Checking.{opening_for}
use Rattle.opening.specs.Opened.{opened_for}

-- The numbers that a well-formed line 0 states.
pub counts-in : (v : View) {n b : ℕ} → v.header ≡ Some (n, b) → (count_in v ≡ n) × (groups_in v ≡ b)
unfolding count_in groups_in
counts-in v e = (rw e, rw e)

module _ (whole : ℕ) (v : View) where
  -- A refusal of the opening is a refusal of everything that begins with it.
  pub refused-for : {A : Type 0} {number place : ℕ} → opened_for whole v ≡ refused number place
      → (o : Outcome A) → in_order (opening_for whole v) o ≡ refused number place
  refused-for e o = refused-in_order (opening_for whole v) o (in_order-refused (opening_for whole v) _ e)

  -- Behind an image that opens, what follows decides.
  pub passes-for : {A : Type 0} {counts : ℕ × ℕ} → opened_for whole v ≡ answered counts → (o : Outcome A)
      → in_order (opening_for whole v) o ≡ o
  passes-for e o = in_order-pass (opening_for whole v) o (in_order-answered (opening_for whole v) _ e).0

  -- Its length is the one stated, and its line 0 states the counts.
  pub opens-for : {count groups : ℕ} → opened_for whole v ≡ answered (count, groups) → (v.size ≡ whole) × (v.header ≡ Some (count, groups))
  opens-for {count} {groups} e =
      let ((short, (well, (long, end))), answer) = in_order-answered (opening_for whole v) (answered (count_in v, groups_in v)) e in
      let (pair, reads) = some-of-is_some v.header (not-false (is_some v.header) (false-of-met (not (is_some v.header)) well)) in (
        eqb-true v.size whole (not-false (eqb v.size whole) (false-of-met (not (eqb v.size whole)) long)),
        go pair reads (cc),
      )
    where
      go : (pair : ℕ × ℕ) → v.header ≡ Some pair → ◌≡◌ {A = ℕ × ℕ} (count_in v, groups_in v) (count, groups)
          → v.header ≡ Some (count, groups)
      go (n, b) reads same =
          let counts = counts-in v reads in
          let n-is : n ≡ count = sym counts.0 ∙ ap (λ (c : ℕ × ℕ). c.0) same in
          let b-is : b ≡ groups = sym counts.1 ∙ ap (λ (c : ℕ × ℕ). c.1) same in
          rw (n-is, b-is) at reads

  -- The four ways.
  pub short-for : v.size < line_length → opened_for whole v ≡ refused 11 0
  unfolding in_order met met_at
  short-for short = rw (lt-ltb v.size line_length short)

  module _ (long : line_length ≤ v.size) where
    pub malformed-for : v.header ≡ None → opened_for whole v ≡ refused 12 0
    unfolding in_order met met_at is_some
    malformed-for header = rw (le-ltb v.size line_length long, header)

    module _ {n b : ℕ} (header : v.header ≡ Some (n, b)) where
      pub other-for : (v.size ≡ whole → ⊥) → opened_for whole v ≡ refused 11 0
      unfolding in_order met met_at is_some
      other-for other = rw (le-ltb v.size line_length long, header, ne_eqb v.size whole other)

      pub counts-for : v.size ≡ whole → opened_for whole v ≡ answered (n, b)
      unfolding in_order met met_at is_some count_in groups_in
      counts-for same = rw (le-ltb v.size line_length long, header, eq-eqb v.size whole same)
