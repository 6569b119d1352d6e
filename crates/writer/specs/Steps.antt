-- What is put behind what a text's writer has written. Assumes nothing.
use Rattle.std.specs.Prelude.{◌≡◌, List, ℕ, ◌+◌, ◌≤◌, length}
use Rattle.writing.proofs.Placed.{Put}
use Rattle.writing.proofs.Progress.{Lined}
use Rattle.writer.specs.declared.text.TextWriter.{TextWriter}

-- The bytes have room.
abbrev pub HasRoom : TextWriter → List ℕ → Type 0
HasRoom w l = w.at + length l ≤ length w.out.now

-- They stand in the output that was lent, the rest of it is as it was, and the line ends are of the same kind.
pub record Puts (old : TextWriter) (l : List ℕ) (new : TextWriter) : Type 0 where
  pub lent : new.out.ghost_name ≡ old.out.ghost_name
  pub ending : new.ending ≡ old.ending
  pub put : Put old.out.now old.at l new.out.now new.at

-- So do the lines of data, but for those of the bytes that are left.
pub record PutsLines (old : TextWriter) (content left : List ℕ) (new : TextWriter) : Type 0 where
  pub lent : new.out.ghost_name ≡ old.out.ghost_name
  pub ending : new.ending ≡ old.ending
  pub lined : Lined old.ending content old.out.now old.at new.out.now new.at new.room left
