-- Where characters, pads and line ends lead, under each of the three grammars. Assumes nothing.
use mathlib.Core.Path.{◌≡◌, refl}
use mathlib.Core.Bool.{Bool, true, false}
use mathlib.Core.Logic.{◌≢◌}
use Prim.Native.Nat.{ℕ, suc, ◌-◌, ◌%◌, ◌≤◌, ◌<◌}
use native.Mathlib.Omega.{arith}
use lib.Dec.{eqb}
use borrow.Author.Tests.{eqb-true, eqb-false, ne_eqb}
use Rattle.std.proofs.Common.{Option, Some, None}
use Rattle.grammar.specs.declared.Grammar.{Grammar}
use Rattle.grammar.specs.declared.Grammar.TheVariants as grammar
use Rattle.machine.proofs.Machine.{part_of, lax_row, standard_row, strict_row}
use Rattle.machine.proofs.Runs.{Takes, row_takes}
use Rattle.machine.specs.declared.LaxPhase.TheVariants as lax
use Rattle.machine.specs.declared.StandardPhase.TheVariants as standard
use Rattle.machine.specs.declared.StrictPhase.TheVariants as strict
use Rattle.machine.specs.declared.Part.TheVariants as part
use Rattle.machine.specs.declared.Phase.{Phase}
use Rattle.machine.specs.declared.Phase.TheVariants.{Lax, Standard, Strict}
use Rattle.leaps.specs.Phases.{OnCharacter, OnLineEnd, OnPads, one_pad, two_pads, Lined, lax_phases, standard_phases, LinesFrom}

-- ---- Characters: phases of one kind

lax_way : (g : Grammar) → OnCharacter g (Lax lax.Data) (Lax lax.Data)
lax_way g = record { from = refl; to = refl; alive = refl; takes = row_takes (lax_row lax.Data) refl }

standard_way : (g : Grammar) → OnCharacter g (Standard standard.Data) (Standard standard.Data)
standard_way g = record { from = refl; to = refl; alive = refl; takes = row_takes (standard_row standard.Data) refl }

pub strict_way : (g : Grammar) (m : ℕ) → OnCharacter g (Strict (strict.Data (suc m))) (Strict (strict.Data m))
strict_way g m =
    let some : eqb (suc m) 0 ≡ false = ne_eqb (suc m) 0 (λ (e : suc m ≡ 0). omega arith) in
    let less : suc m - 1 ≡ m = omega arith in
    record { from = refl; to = refl; alive = refl; takes = row_takes (strict_row (strict.Data (suc m))) (rw (some, less)) }

-- ---- Lines

pub lax_lined : (g : Grammar) → Lined g (Lax lax.Data) lax_phases
lax_lined g = record {
  begins = lax_way g;
  goes_on = lax_way g;
  ends = record { from = refl; to = refl; alive = refl; lf = refl; cr = refl };
  again = lax_way g;
  pauses = record { from = refl; to = refl; alive = refl; ht = refl; sp = refl };
  stays = record { from = refl; to = refl; alive = refl; ht = refl; sp = refl };
  closes = record { from = refl; to = refl; alive = refl; lf = refl; cr = refl };
  resumed = λ e. lax_way g;
}

standard_begins : (g : Grammar) {p : Phase} → part_of p ≡ part.Body → Takes g p (Standard standard.Data) → OnCharacter g p (Standard standard.Data)
standard_begins g e f = record { from = e; to = refl; alive = refl; takes = f }

pub standard_lined : (g : Grammar) {p : Phase} → OnCharacter g p (Standard standard.Data) → Lined g p standard_phases
standard_lined g w = record {
  begins = w;
  goes_on = standard_way g;
  ends = record { from = refl; to = refl; alive = refl; lf = refl; cr = refl };
  again = standard_begins g refl (row_takes (standard_row standard.Line) refl);
  pauses = record { from = refl; to = refl; alive = refl; ht = refl; sp = refl };
  stays = record { from = refl; to = refl; alive = refl; ht = refl; sp = refl };
  closes = record { from = refl; to = refl; alive = refl; lf = refl; cr = refl };
  resumed = λ e. cc;
}

-- The grammar by which a line of the body begins in a phase.
abbrev pub line_grammar : Phase → Option Grammar
line_grammar (Lax lax.Data) = Some grammar.Lax
line_grammar (Standard standard.Leading) = Some grammar.Standard
line_grammar (Standard standard.BlankLine) = Some grammar.Standard
line_grammar (Standard standard.Line) = Some grammar.Standard
line_grammar (Strict strict.First) = Some grammar.Strict
line_grammar (Strict strict.Line) = Some grammar.Strict
line_grammar p = None

pub strict_line : (g : Grammar) → OnCharacter g (Strict strict.Line) (Strict (strict.Data 63))
strict_line g = record { from = refl; to = refl; alive = refl; takes = row_takes (strict_row strict.Line) refl }

pub lines_from : (p : Phase) → LinesFrom p (line_grammar p)
lines_from (Lax lax.Data) = lax_lined
lines_from (Standard standard.Leading) = λ g. standard_lined g (standard_begins g refl (row_takes (standard_row standard.Leading) refl))
lines_from (Standard standard.BlankLine) = λ g. standard_lined g (standard_begins g refl (row_takes (standard_row standard.BlankLine) refl))
lines_from (Standard standard.Line) = λ g. standard_lined g (standard_begins g refl (row_takes (standard_row standard.Line) refl))
lines_from (Strict strict.First) = λ g. record { from = refl; to = refl; alive = refl; takes = row_takes (strict_row strict.First) refl }
lines_from (Strict strict.Line) = strict_line
lines_from p = tt

-- A full line may end.
pub strict_ends : (g : Grammar) → OnLineEnd g (Strict (strict.Data 0)) (Strict strict.Line)
strict_ends g = record { from = refl; to = refl; alive = refl; lf = refl; cr = refl }

-- ---- Pads

-- One pad, and two.
pub lax_pads : (g : Grammar) → OnPads g (Lax lax.Data) 1 (Lax lax.OnePad) × OnPads g (Lax lax.Data) 2 (Lax lax.TwoPads)
lax_pads g = (
  one_pad (record { from = refl; to = refl; alive = refl; takes = refl }) (record { from = refl; to = refl; alive = refl; lf = refl; cr = refl }),
  two_pads {a = Lax lax.OnePad} (record { from = refl; to = refl; alive = refl; takes = refl }) (record { from = refl; to = refl; alive = refl; takes = refl })
      (record { from = refl; to = refl; alive = refl; lf = refl; cr = refl }),
)

pub standard_pads : (g : Grammar) → OnPads g (Standard standard.Data) 1 (Standard standard.PadLine) × OnPads g (Standard standard.Data) 2 (Standard standard.Final)
standard_pads g = (
  one_pad {a = Standard standard.OnePad} (record { from = refl; to = refl; alive = refl; takes = refl }) (record { from = refl; to = refl; alive = refl; lf = refl; cr = refl }),
  two_pads {a = Standard standard.OnePad} {b = Standard standard.Ending} (record { from = refl; to = refl; alive = refl; takes = refl }) (record { from = refl; to = refl; alive = refl; takes = refl })
      (record { from = refl; to = refl; alive = refl; lf = refl; cr = refl }),
)

strict_one_pad : (g : Grammar) (room : ℕ) → room % 4 ≡ 1 → OnPads g (Strict (strict.Data room)) 1 (Strict strict.Final)
strict_one_pad g room e =
    one_pad {p = Strict (strict.Data room)} {a = Strict strict.Padded} (record { from = refl; to = refl; alive = refl; takes = rw e }) (record { from = refl; to = refl; alive = refl; lf = refl; cr = refl })

strict_two_pads : (g : Grammar) (room : ℕ) → room % 4 ≡ 2 → OnPads g (Strict (strict.Data room)) 2 (Strict strict.Final)
strict_two_pads g room e =
    two_pads {p = Strict (strict.Data room)} {a = Strict strict.OnePad} {b = Strict strict.Padded} (record { from = refl; to = refl; alive = refl; takes = rw e }) (record { from = refl; to = refl; alive = refl; takes = refl })
    (record { from = refl; to = refl; alive = refl; lf = refl; cr = refl })

-- The pads fill the last group.
pub strict_pads : (g : Grammar) (room n : ℕ) → 0 < n → n ≤ 2 → room % 4 ≡ n → OnPads g (Strict (strict.Data room)) n (Strict strict.Final)
strict_pads g room n some few e = go (eqb n 1) refl
  where
    go : (b : Bool) → eqb n 1 ≡ b → OnPads g (Strict (strict.Data room)) n (Strict strict.Final)
    go true b = let one : n ≡ 1 = eqb-true n 1 b in rw one (strict_one_pad g room (omega arith))
    go false b = let other : n ≢ 1 = eqb-false n 1 b in let two : n ≡ 2 = omega arith in rw two (strict_two_pads g room (omega arith))
