-- Laws of leading columns: further columns, and the first. Assumes nothing.
use Rattle.std.specs.Prelude.{◌≡◌, refl, Bool, true, false, cond, ◌&&◌, List, [], ◌∷◌, ◌++◌, ℕ, ◌+◌, ◌*◌, ◌%◌, ◌<◌, eqb, ltb}
use Rattle.std.specs.Prelude.{Option, None, Some}
use Rattle.std.proofs.Common.{eqb-true, ltb-true}
use Rattle.lists.proofs.BoolLaws.{both-of-and, some-of-cond}
use Rattle.columns.specs.Columns.{column_of, leading_from}

-- What further columns make of the number before them.
unfoldable pub leading_behind : Option ℕ → List ℕ → Option ℕ
leading_behind None bytes = None
leading_behind (Some v) bytes = leading_from v bytes

pub leading-append : (v : ℕ) (xs ys : List ℕ) → leading_from v (xs ++ ys) ≡ leading_behind (leading_from v xs) ys
unfolding leading_from leading_behind
leading-append v [] ys = refl
leading-append v (x ∷ xs) ys =
    go (ltb (x % 16) 10 && eqb x (column_of (v * 10 + x % 16) (x % 16))) _ (leading-append (v * 10 + x % 16) xs ys)
  where
    go : (b : Bool) {o : Option ℕ} (p : Option ℕ) → o ≡ leading_behind p ys → cond b o None ≡ leading_behind (cond b p None) ys
    go true p e = e
    go false p e = refl

-- What reads as columns has a column first, with the digit that its byte says, and columns behind it.
pub record Column (v byte : ℕ) (bytes : List ℕ) (n : ℕ) : Type 0 where
  pub digit : byte % 16 < 10
  pub byte-is : byte ≡ column_of (v * 10 + byte % 16) (byte % 16)
  pub rest : leading_from (v * 10 + byte % 16) bytes ≡ Some n

pub leading-first : (v byte : ℕ) (bytes : List ℕ) {n : ℕ} → leading_from v (byte ∷ bytes) ≡ Some n → Column v byte bytes n
unfolding leading_from
leading-first v byte bytes e =
    let column = column_of (v * 10 + byte % 16) (byte % 16) in
    let (f, rest) = some-of-cond (ltb (byte % 16) 10 && eqb byte column) _ e in
    let (digit, same) = both-of-and (ltb (byte % 16) 10) (eqb byte column) f in
    record { digit = ltb-true (byte % 16) 10 digit; byte-is = eqb-true byte column same; rest = rest }
