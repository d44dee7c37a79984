-- `?` passes a fault on unchanged.
use Rattle.std.proofs.Common.{◌≡◌, Ok, Err, Result, sym, subst, ap}
use Rattle.std.specs.Prelude.{IfErr}
use Rattle.std.specs.Result.{IsErrAnd}

pub same_fault : {T E : Type 0} (result : Result T E) (fault : E) → IsErrAnd result (λ e. e ≡ fault) → result ≡ Err fault
same_fault (Ok value) fault is = absurd is
same_fault (Err e) fault is = ap Err is

pub fault_passed : {T E : Type 0} (P : E → Type 0) (result : Result T E) (fault : E) → IsErrAnd result (λ e. e ≡ fault) → P fault → IfErr result P
fault_passed P (Ok value) fault is p = tt
fault_passed P (Err e) fault is p = subst P (sym is) p
