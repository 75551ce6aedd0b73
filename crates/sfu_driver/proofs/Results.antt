-- Results of which one variant is known.
use Rattle.std.proofs.Common.{◌≡◌, false, ap, Result, Ok, Err}
use Rattle.std.specs.Prelude.{IsErrAnd, OnErr, OnOk, is_err}

-- an error that was passed on
pub err_of : {T E : Type 0} (r : Result T E) (e : E) → IsErrAnd r (λ x. x ≡ e) → r ≡ Err e
err_of (Ok x) e is = absurd is
err_of (Err x) e is = ap Err is

pub on_err : {T E : Type 0} (r : Result T E) (P : Type 0) → P → OnErr r P
on_err (Ok x) P p = tt
on_err (Err e) P p = p

pub known_ok : {T E : Type 0} (r : Result T E) (P : Type 0) → false ≡ is_err r → OnOk r P → P
known_ok (Ok x) P is p = p
known_ok (Err e) P is p = absurd cc
