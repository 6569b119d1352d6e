-- The number of an answer, whatever call it is of. Assumes nothing.
use Rattle.std.specs.Prelude.{ℕ, Result, Ok, Err}
use Rattle.output.specs.declared.CallError.{CallError}
use Rattle.output.specs.declared.CallError.TheVariants.{Refused, TooSmall}

-- 0 with a result, a refusal's own number, and 10 where the result needs more room. The calls' `number_of` are this, each by its
-- refusals.
abbrev pub answer_number : {T R S : Type 0} → (R → ℕ) → Result T (CallError R S) → ℕ
answer_number number (Ok result) = 0
answer_number number (Err (Refused refusal)) = number refusal
answer_number number (Err (TooSmall size)) = 10
