-- A turn of the walk: it goes by the judgement of the next message, and it ends behind the text. Assumes nothing.
use mathlib.Core.Path.{◌≡◌, refl}
use mathlib.Core.List.{List, [], ◌∷◌, ◌++◌}
use Prim.Native.Nat.{ℕ, zero, suc, ◌+◌, ◌≤◌, ◌<◌}
use lib.ListN.{length}
use borrow.Author.Tests.{lt-ltb, le-ltb}
use Rattle.grammar.specs.declared.Grammar.{Grammar}
use Rattle.machine.proofs.Machine.{later}
use Rattle.machine.specs.declared.State.{State}
use Rattle.std.specs.Prelude.{Ok}
use Rattle.reading.specs.Read.{Judgement}
use Rattle.indexing.specs.Index.{scan_from, judged_message, onward, walk}
use Rattle.indexing.specs.declared.Entry.{Entry}

pub walk_on : (most : ℕ) (g : Grammar) (text : List ℕ) (at : ℕ) (first : State) (es : List Entry) → at < length text → (j : Judgement)
    → judged_message g text at (scan_from g text at first) ≡ j
    → walk (suc most) g text at first es
    ≡ onward j at (scan_from g text at first).length (λ e. walk most g text (at + (scan_from g text at first).length) later (es ++ (e ∷ [])))
walk_on most g text at first es h j e = rw (lt-ltb at (length text) h, e)

pub walk_end : (most : ℕ) (g : Grammar) (text : List ℕ) (at : ℕ) (first : State) (es : List Entry) → length text ≤ at → walk most g text at first es ≡ Ok es
walk_end zero g text at first es h = refl
walk_end (suc most) g text at first es h = rw (le-ltb at (length text) h)
