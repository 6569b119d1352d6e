-- Calls that are lent an output. Assumes nothing.
use mathlib.Core.Path.{◌≡◌, sym}
use mathlib.Core.Bool.{false, false≢true}
use Rattle.std.specs.Prelude.{Result, Ok, Err, IfOk, is_err}

-- What holds if there is a result holds where there is no error.
pub ok_holds : {T E : Type 0} (r : Result T E) (P : Type 0) → is_err r ≡ false → IfOk r (λ _. P) → P
ok_holds (Ok x) P e h = h
ok_holds (Err x) P e h = absurd (false≢true (sym e))
