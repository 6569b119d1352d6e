-- What the calls give for a text that passed the checks 1 to 9, and which texts are answered with 0. Assumes nothing.
use mathlib.Core.Path.{◌≡◌, sym, ap, ◌∙◌}
use mathlib.Core.List.{List, ◌++◌}
use Prim.Native.Nat.{ℕ, ◌-◌, ◌≤◌}
use lib.ListN.{length, replicate}
use native.Mathlib.Omega.{arith}
use Rattle.grammar.specs.Message.{Reading, data_of}
use Rattle.grammar.specs.LineEnds.{LineEnds, style_of}
use Rattle.grammar.specs.declared.LineEnding.{LineEnding}
use Rattle.grammar.specs.declared.Grammar.{Grammar}
use Rattle.reading.specs.Answers.{refusal_number, number_of, ReadAnswer}
use Rattle.reading.specs.Meaning as rows
use Rattle.reading.specs.Meaning.{Passed, found_of, Reads}
use Rattle.reading.specs.Read.{read_of, output_of, label_in, label_of}
use Rattle.std.specs.Prelude.{Ok}
use Rattle.reading.specs.declared.Refusal.{Refusal}
use Rattle.reading.specs.declared.Refusal.TheVariants.{UnknownGrammar, TextTooLong, BadOpening, BadBody, BadClosing, LabelTooLong, LabelsDiffer, BadCounts, SpareBits}
use Rattle.reading.proofs.Meaning.{read_means, reads_read, passed_judge, label_in_lem}

-- No refusal has the number 0.
pub refusal_some : (r : Refusal) → ¬ (refusal_number r ≡ 0)
refusal_some UnknownGrammar e = omega (arith, e)
refusal_some TextTooLong e = omega (arith, e)
refusal_some (BadOpening at) e = omega (arith, e)
refusal_some (BadBody at) e = omega (arith, e)
refusal_some (BadClosing at) e = omega (arith, e)
refusal_some (LabelTooLong at) e = omega (arith, e)
refusal_some (LabelsDiffer at) e = omega (arith, e)
refusal_some (BadCounts at) e = omega (arith, e)
refusal_some (SpareBits at) e = omega (arith, e)

-- Given room, the answer and the output of a text that passed, and its label.
pub passed_read : (text : List ℕ) (number room : ℕ) (g : Grammar) (r : Reading) → Passed text number g r → length (data_of r) ≤ room
    → (ss : List LineEnding) → LineEnds text ss
    → (read_of text number room ≡ Ok record { found = found_of r; style = style_of ss }) × (output_of text number room ≡ data_of r ++ replicate (room - length (data_of r)) 0)
passed_read text number room g r p h ss l =
    let same = reads_read text number room _ _ (rows.accepted g r p h ss l) in
    (sym same.0, sym same.1)

pub passed_label : (text : List ℕ) (number : ℕ) (g : Grammar) (r : Reading) → Passed text number g r → label_of text number ≡ r.opening_label
passed_label text number g r p = ap (λ j. label_in j text) (passed_judge text number g r p) ∙ label_in_lem text r p.parsed.joined

-- A text that is answered with 0 has passed, and its data has room.
pub record Received (text : List ℕ) (number room : ℕ) : Type 0 where
  pub grammar : Grammar
  pub reading : Reading
  pub passed : Passed text number grammar reading
  pub fits : length (data_of reading) ≤ room

pub zero_received : (text : List ℕ) (number room : ℕ) → number_of (read_of text number room) ≡ 0 → Received text number room
zero_received text number room z = go (read_of text number room) (output_of text number room) (read_means text number room) z
  where
    go : (a : ReadAnswer) (o : List ℕ) → Reads text number room a o → number_of a ≡ 0 → Received text number room
    go a o (rows.accepted g r p h ss l) z = record { grammar = g; reading = r; passed = p; fits = h }
    go a o (rows.refused {refusal} f) z = absurd (refusal_some refusal z)
    go a o (rows.output_too_small g r p h) z = absurd (omega (arith, z))
