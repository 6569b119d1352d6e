-- A message is whole exactly where the machine stops behind it. Assumes nothing.
use mathlib.Core.Path.{◌≡◌, refl, sym, ap, ◌∙◌}
use mathlib.Core.Bool.{Bool, true, false}
use mathlib.Core.List.{List, [], ◌∷◌, ◌++◌}
use Prim.Native.Nat.{ℕ}
use Rattle.grammar.specs.Message.{Reading, text_of}
use Rattle.grammar.specs.Bundle.{joined_text, Shapes}
use Rattle.grammar.specs.declared.Grammar.{Grammar}
use Rattle.grammar.proofs.Bundle.{later_shapes}
use Rattle.machine.proofs.Machine.{step, run, start, dead}
use Rattle.machine.specs.declared.Phase.{Phase}
use Rattle.machine.specs.declared.Phase.TheVariants.{Dead}
use Rattle.machine.specs.declared.State.{State}
use Rattle.machine.proofs.Runs.{run_append}
use Rattle.machine.proofs.Starts.{lives_begins, begins_lives}
use Rattle.machine.proofs.Bundles.{Stops, Unextended, first_stops}
use Rattle.reading.proofs.Tallies.{dead_phase}
use Rattle.reading.proofs.Whole.{live_not_dead}
use Rattle.indexing.specs.Meaning.{Whole, AllWhole}

-- One byte more.
one_more : (g : Grammar) (l : List ℕ) (c : ℕ) → (run g (start g) (l ++ (c ∷ []))).phase ≡ (step g (run g (start g) l) c).phase
one_more g l c = ap (λ (s : State). s.phase) (run_append g (start g) l (c ∷ []))

pub whole_stops : (g : Grammar) (r : Reading) (x : List ℕ) → Whole g r x → Stops g (run g (start g) (text_of r)) x
whole_stops g r [] w = tt
whole_stops g r (c ∷ x) w = go (dead p) refl
  where
    p : Phase
    p = (step g (run g (start g) (text_of r)) c).phase

    go : (b : Bool) → dead p ≡ b → p ≡ Dead
    go true e = dead_phase p e
    go false e = absurd (w (lives_begins g (text_of r ++ (c ∷ [])) (λ q. live_not_dead p e (sym (one_more g (text_of r) c) ∙ q))))

pub stops_whole : (g : Grammar) (r : Reading) (x : List ℕ) → Stops g (run g (start g) (text_of r)) x → Whole g r x
stops_whole g r [] s = tt
stops_whole g r (c ∷ x) s = λ b. begins_lives g (text_of r ++ (c ∷ [])) b (one_more g (text_of r) c ∙ s)

-- The same of messages end to end: only the last of them can be extended.
pub all_whole_unextended : (g : Grammar) (rs : List Reading) (x : List ℕ) → AllWhole g rs x → Unextended g rs x
all_whole_unextended g [] x w = tt
all_whole_unextended g (r ∷ []) x w = whole_stops g r x w.0
all_whole_unextended g (r ∷ (s ∷ ss)) x w = all_whole_unextended g (s ∷ ss) x w.1

pub unextended_all_whole : (g : Grammar) (rs : List Reading) (x : List ℕ) → Shapes g rs → Unextended g rs x → AllWhole g rs x
unextended_all_whole g [] x m u = tt
unextended_all_whole g (r ∷ []) x m u = (stops_whole g r x (first_stops g r [] x m u), tt)
unextended_all_whole g (r ∷ (s ∷ ss)) x m u =
    (stops_whole g r (joined_text (s ∷ ss) ++ x) (first_stops g r (s ∷ ss) x m u), unextended_all_whole g (s ∷ ss) x (later_shapes g (s ∷ ss) m.1) u)

-- Messages that fill the text cannot be extended.
pub unextended_end : (g : Grammar) (rs : List Reading) → Unextended g rs []
unextended_end g [] = tt
unextended_end g (r ∷ []) = tt
unextended_end g (r ∷ (s ∷ ss)) = unextended_end g (s ∷ ss)
