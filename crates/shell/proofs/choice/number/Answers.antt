-- Assumes nothing.
use Rattle.std.proofs.Common.{◌≡◌, ℕ, ◌+◌, ◌≤◌, ◌<◌, List, Option, Some, None, length, drop, get_or, sym, ◌∙◌, add-one}
use Rattle.std.proofs.Math.ListN.{drop_of_length-le}
use Rattle.std.proofs.Math.Seq.{drop-cons}
use Rattle.std.specs.Prelude.{option_and_then}
use Rattle.shell.specs.Words.{extended, spelled_from}
use Rattle.shell.proofs.choice.number.Goals as goal

-- A character, and those behind it.
spelled_from-next : (n : ℕ) (l : List ℕ) (i : ℕ) (t : Option ℕ) → i < length l → extended n (get_or l i 0) ≡ t → spelled_from n (drop i l) ≡ option_and_then (λ m. spelled_from m (drop (i + 1) l)) t
unfolding spelled_from
spelled_from-next n l i t h e = rw (add-one, drop-cons l i 0, e)

spelled_from-end : (n : ℕ) (l : List ℕ) (i : ℕ) → length l ≤ i → spelled_from n (drop i l) ≡ Some n
unfolding spelled_from
spelled_from-end n l i h = rw (drop_of_length-le l h)

pub returns-in_err-number : goal.returns-in_err-number
returns-in_err-number c =
    let stops = spelled_from-next c.loop-c.number c.args.word.now c.loop-c.c-index None c.loop-c-test.true (sym c.extend.ensures ∙ c.in_err-number.was) in
    cc

pub loop-c-preserved : goal.loop-c-preserved
loop-c-preserved c =
    c.loop-c.invariant
    ∙ spelled_from-next c.loop-c.number c.args.word.now c.loop-c.c-index (Some c.in_ok-number.number) c.loop-c-test.true (sym c.extend.ensures ∙ c.in_ok-number.was)

pub returns : goal.returns
returns c = sym (c.loop-c.invariant ∙ spelled_from-end c.loop-c.number c.args.word.now c.loop-c.c-index c.loop-c-test.false)
