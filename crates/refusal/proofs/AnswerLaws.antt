-- What the code's answers mean where a reason is passed up by `?`. Assumes nothing.
use Rattle.std.specs.Prelude.{◌≡◌, refl, ℕ, Option, Some, None, Result, Ok, Err, IsErr, IsErrAnd, ok_or}
use Rattle.std.proofs.Common.{ap, arith}
use Rattle.refusal.specs.Outcome.{refused}
use Rattle.refusal.specs.Reason.{reason_number, refusal_of}
use Rattle.refusal.specs.Answer.{outcome}
use Rattle.refusal.specs.declared.Reason.{Reason}
use Rattle.refusal.specs.declared.Refusal.{Refusal}

-- A reason that names no place is answered at place 0.
pub raised : {A : Type 0} (reason : Reason) (r : Result A Refusal)
    → IsErr r × IsErrAnd r (λ (e : Refusal). e ≡ record { reason = reason; place = 0 }) → outcome r ≡ refused (reason_number reason) 0
raised reason (Ok a) e = absurd e.1
raised reason (Err r) e = ap refusal_of e.1

-- The value where `ok_or` has one, and the reason where it has none.
pub ok_or-ok : {A E : Type 0} (e : E) (o : Option A) {a : A} → Ok a ≡ ok_or o e → o ≡ Some a
ok_or-ok e None same = absurd (let z : ◌≡◌ {A = ℕ} 0 1 = cc in omega arith)
ok_or-ok e (Some x) same = cc

pub ok_or-err : {A E : Type 0} (e : E) (o : Option A) {f : E} → Err f ≡ ok_or o e → (o ≡ None) × (f ≡ e)
ok_or-err e None same = (refl, cc)
ok_or-err e (Some x) same = absurd (let z : ◌≡◌ {A = ℕ} 0 1 = cc in omega arith)

-- A refusal that `?` passes up is answered as it is.
pub passed_up : {A : Type 0} (e : Refusal) (r : Result A Refusal) → IsErr r × IsErrAnd r (λ (f : Refusal). f ≡ e) → r ≡ Err e
passed_up e (Ok a) is = absurd is.1
passed_up e (Err f) is = ap Err is.1
