-- Runs of alphabet characters, and of bytes that are none, as lists. Assumes nothing.
use mathlib.Core.Path.{◌≡◌, refl, sym, ap, ◌∙◌}
use mathlib.Core.Logic.{inl, inr}
use mathlib.Core.List.{List, [], ◌++◌}
use Prim.Native.Nat.{ℕ, zero, suc, ◌+◌, ◌≤◌, ◌<◌}
use native.Mathlib.Omega.{arith}
use lib.Dec.{T, ltb, ltb→lt}
use lib.ListN.{length, drop, take, get_or, length-drop, take-append-drop}
use lib.Seq.{drop-cons, drop-drop, length-take-le}
use Rattle.base_64.specs.Lists.{All}
use Rattle.base_64.specs.Alphabet.{radix, alphabet, place_in, value_of, AlphabetChar}
use Rattle.base_64.proofs.Tests.{run, run_at}
use Rattle.grammar.specs.Marks.{Blank}
use Rattle.grammar.specs.Message.{characters}
use Rattle.grammar.proofs.Counts.{characters_append, characters_alphabet}
use Rattle.runs.specs.Runs.{NoCharacter, Characters, Outside, Blanks, LfOrCrlf, lf, crlf}
use Rattle.runs.proofs.Runs.{run_one, run_then}

-- One test over bytes that follow each other.
inside_range : (first n : ℕ) → T (run (λ c. ltb (value_of c) radix) first n) → (c : ℕ) → first ≤ c → c < first + n → AlphabetChar c
inside_range first n t c low high = ltb→lt (value_of c) radix (run_at (λ c. ltb (value_of c) radix) first n t c low high)

-- The ranges of bytes that the alphabet has.
pub upper_case : (c : ℕ) → 65 ≤ c → c ≤ 90 → AlphabetChar c
unfolding value_of place_in alphabet
upper_case c low high = inside_range 65 26 tt c low (omega arith)

pub lower_case : (c : ℕ) → 97 ≤ c → c ≤ 122 → AlphabetChar c
unfolding value_of place_in alphabet
lower_case c low high = inside_range 97 26 tt c low (omega arith)

pub slash_or_digit : (c : ℕ) → 47 ≤ c → c ≤ 57 → AlphabetChar c
unfolding value_of place_in alphabet
slash_or_digit c low high = inside_range 47 11 tt c low (omega arith)

pub plus : (c : ℕ) → c ≡ 43 → AlphabetChar c
unfolding value_of place_in alphabet
plus c e = inside_range 43 1 tt c (omega arith) (omega arith)

pub ruleset ranges = (upper_case, lower_case, slash_or_digit, plus)

-- ---- runs of characters

run_alphabet : (m : ℕ) (text : List ℕ) (i : ℕ) → i + m ≤ length text → Characters text i (i + m) → All AlphabetChar (take m (drop i text))
run_alphabet zero text i h a = tt
run_alphabet (suc m) text i h a =
    rw (drop-cons text i 0 (omega arith)) (
      a.all i (omega arith) (omega arith),
      run_alphabet m text (suc i) (omega arith) (record { all = λ k low high. a.all k (omega arith) (omega arith) }),
    )

-- The characters from a run on are those of the run, then those behind it.
pub run_characters : (m : ℕ) (text : List ℕ) (i : ℕ) → i + m ≤ length text → Characters text i (i + m)
    → characters (drop i text) ≡ take m (drop i text) ++ characters (drop (i + m) text)
run_characters m text i h a =
    ap characters (sym (take-append-drop m (drop i text)))
    ∙ characters_append (take m (drop i text)) (drop m (drop i text))
    ∙ rw (characters_alphabet (take m (drop i text)) (run_alphabet m text i h a), drop-drop)

-- All of a run are characters.
pub characters_run : (m : ℕ) (text : List ℕ) (i : ℕ) → i + m ≤ length text → Characters text i (i + m) → characters (take m (drop i text)) ≡ take m (drop i text)
characters_run m text i h a = characters_alphabet (take m (drop i text)) (run_alphabet m text i h a)

pub run_length : (m : ℕ) (text : List ℕ) (i : ℕ) → i + m ≤ length text → length (take m (drop i text)) ≡ m
run_length m text i h = length-take-le m (drop i text) (simp length-drop (omega arith))

-- ---- bytes outside the alphabet

-- They have no characters.
pub outside_characters : (m : ℕ) (text : List ℕ) (i : ℕ) → i + m ≤ length text → Outside text i (i + m) → characters (take m (drop i text)) ≡ []
unfolding characters
outside_characters zero text i h o = refl
outside_characters (suc m) text i h o =
    rw (drop-cons text i 0 (omega arith), o.all i (omega arith) (omega arith))
    (outside_characters m text (suc i) (omega arith) (record { all = λ k low high. o.all k (omega arith) (omega arith) }))

blank_outside : (c : ℕ) → Blank c → NoCharacter c
unfolding value_of place_in alphabet
blank_outside c (inl e) = rw e
blank_outside c (inr e) = rw e

pub blanks_outside : {text : List ℕ} {i j : ℕ} → Blanks text i j → Outside text i j
blanks_outside {text} b = record { all = λ k low high. blank_outside (get_or text k 0) (b.all k low high) }

pub line_end_outside : {text : List ℕ} {i n : ℕ} → LfOrCrlf text i n → Outside text i (i + n)
unfolding value_of place_in alphabet
line_end_outside (lf h e) = run_one (rw e)
line_end_outside {text} {i} (crlf h e f) =
    let two : i + 1 + 1 ≡ i + 2 = omega arith in
    rw two at (run_then {Kind = NoCharacter} {text = text} (run_one (rw e)) (run_one {i = i + 1} (rw f)))
