-- The kinds of byte that the grammars tell apart. Assumes nothing.
use mathlib.Core.Bool.{cond}
use Prim.Native.Nat.{ℕ}
use lib.Dec.{eqb, ltb}
use Rattle.base_64.specs.Alphabet.{radix, pad, value_of}
use Rattle.grammar.specs.Marks.{HT, LF, VT, FF, CR, SP, hyphen}
use Rattle.machine.specs.declared.Kind.{Kind}
use Rattle.machine.specs.declared.Kind.TheVariants.{Tab, Space, Cr, Lf, Feed, Hyphen, Alphabet, Pad, Mark, Other}

-- A byte that is no blank, line end, VT, FF, hyphen or pad.
abbrev pub other_kind : ℕ → Kind
other_kind c = cond (ltb (value_of c) radix) Alphabet (cond (ltb c 33) Other (cond (ltb 126 c) Other Mark))

abbrev pub kind_of : ℕ → Kind
kind_of c =
    cond (eqb c HT) Tab
    (cond (eqb c LF) Lf
    (cond (eqb c VT) Feed
    (cond (eqb c FF) Feed
    (cond (eqb c CR) Cr
    (cond (eqb c SP) Space
    (cond (eqb c hyphen) Hyphen
    (cond (eqb c pad) Pad
    (other_kind c))))))))
