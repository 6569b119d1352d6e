-- Each text has one list of line ends; the line ends of a text are those of its parts. Assumes nothing.
use mathlib.Core.Path.{◌≡◌, refl, sym, ap, ◌∙◌}
use mathlib.Core.Logic.{◌≢◌}
use mathlib.Core.Bool.{Bool, true, false, cond}
use mathlib.Core.List.{List, [], ◌∷◌, ◌++◌, cons≢nil, head-eq_of_cons-eq}
use Prim.Native.Nat.{ℕ}
use native.Mathlib.Omega.{arith}
use lib.Dec.{eqb}
use borrow.Author.Tests.{eqb-true, eqb-false, ne_eqb}
use Rattle.base_64.specs.Lists.{All}
use Rattle.grammar.specs.Marks.{CR, LF, NoLF, LineEnd, crlf, cr, lf}
use Rattle.grammar.specs.LineEnds.{line_end, LineEnds, none, other, ended, OneListOfLineEnds, line_ending_number, line_ending_of}
use Rattle.grammar.specs.declared.LineEnding.{LineEnding}
use Rattle.grammar.specs.declared.LineEnding.TheVariants.{Lf, CrLf, Cr}
use Rattle.std.specs.Prelude.{Some}

pub number_style : (s : LineEnding) → line_ending_of (line_ending_number s) ≡ Some s
number_style Lf = refl
number_style CrLf = refl
number_style Cr = refl

-- ---- one list

-- The list, computed from the left; with a CR before the text or none.
abbrev pub ends_behind : Bool → List ℕ → List LineEnding
ends_behind before [] = cond before (Cr ∷ []) []
ends_behind before (c ∷ l) =
    cond (eqb c LF) (cond before CrLf Lf ∷ ends_behind false l)
    (cond before (Cr ∷ ends_behind (eqb c CR) l) (ends_behind (eqb c CR) l))

pub no_lf_test : (c : ℕ) (l : List ℕ) → NoLF (c ∷ l) → eqb c LF ≡ false
no_lf_test c l n = go (eqb c LF) refl
  where
    go : (b : Bool) → eqb c LF ≡ b → b ≡ false
    go true e = absurd (n l (ap (λ x. x ∷ l) (eqb-true c LF e)))
    go false e = refl

-- A CR that no LF follows is a line end by itself.
pub cr_alone : (l : List ℕ) → NoLF l → ends_behind true l ≡ Cr ∷ ends_behind false l
cr_alone [] n = refl
cr_alone (c ∷ l) n = rw (no_lf_test c l n)

pub style_end : (s : LineEnding) {rest : List ℕ} → NoLF rest → LineEnd (line_end s) rest
style_end Lf n = lf
style_end CrLf n = crlf
style_end Cr n = cr n

pub end_alone : {e rest : List ℕ} → LineEnd e rest → e ≡ CR ∷ [] → NoLF rest
end_alone crlf e = absurd (cons≢nil (tail e))
  where
    tail : (CR ∷ LF ∷ []) ≡ (CR ∷ []) → (LF ∷ []) ≡ []
    tail p = cc
end_alone (cr n) e = n
end_alone lf e = let k : LF ≡ CR = head-eq_of_cons-eq e in absurd (omega arith)

pub ends_behind_lem : {l : List ℕ} {ss : List LineEnding} → LineEnds l ss → ends_behind false l ≡ ss
ends_behind_lem none = refl
ends_behind_lem (other {c} nc nl h) = rw (ne_eqb c LF nl, ne_eqb c CR nc) (ends_behind_lem h)
ends_behind_lem (ended Lf e h) = ap (λ x. Lf ∷ x) (ends_behind_lem h)
ends_behind_lem (ended CrLf e h) = ap (λ x. CrLf ∷ x) (ends_behind_lem h)
ends_behind_lem (ended {rest} Cr e h) = cr_alone rest (end_alone e refl) ∙ ap (λ x. Cr ∷ x) (ends_behind_lem h)

-- ---- some list

abbrev HasList : List ℕ → Type 0
HasList l = (ss : List LineEnding) × LineEnds l ss

starts_other : (c : ℕ) (l : List ℕ) → eqb c LF ≡ false → NoLF (c ∷ l)
starts_other c l e r q = eqb-false c LF e (head-eq_of_cons-eq q)

pub nothing_follows : NoLF []
nothing_follows r q = cons≢nil (sym q)

-- With a CR before the text, too, which the text's own first byte may make a CRLF.
record Either (l : List ℕ) : Type 0 where
  pub alone : HasList l
  pub behind : HasList (CR ∷ l)

either : (l : List ℕ) → Either l
either [] = record { alone = ([], none); behind = (Cr ∷ [], ended Cr (cr nothing_follows) none) }
either (c ∷ l) = go (eqb c LF) refl (eqb c CR) refl (either l)
  where
    go : (a : Bool) → eqb c LF ≡ a → (b : Bool) → eqb c CR ≡ b → Either l → Either (c ∷ l)
    go true e b f i =
        let same : c ≡ LF = eqb-true c LF e in
        rw same record {
          alone = (Lf ∷ i.alone.0, ended Lf lf i.alone.1);
          behind = (CrLf ∷ i.alone.0, ended CrLf crlf i.alone.1);
        }
    go false e true f i =
        let same : c ≡ CR = eqb-true c CR f in
        rw same record { alone = i.behind; behind = (Cr ∷ i.behind.0, ended Cr (cr (starts_other CR l refl)) i.behind.1) }
    go false e false f i =
        let it : LineEnds (c ∷ l) i.alone.0 = other (eqb-false c CR f) (eqb-false c LF e) i.alone.1 in
        record { alone = (i.alone.0, it); behind = (Cr ∷ i.alone.0, ended Cr (cr (starts_other c l e)) it) }

pub some_ends : (text : List ℕ) → (ss : List LineEnding) × LineEnds text ss
some_ends text = (either text).alone

pub one_list_of_line_ends : OneListOfLineEnds
one_list_of_line_ends = record { some = some_ends; one = λ text ss ts h k. sym (ends_behind_lem h) ∙ ends_behind_lem k }

-- ---- parts

-- Bytes that are neither CR nor LF, in front.
abbrev pub Plain : ℕ → Type 0
Plain c = (c ≢ CR) × (c ≢ LF)

pub no_ends_lem : (a : List ℕ) {l : List ℕ} {ss : List LineEnding} → All Plain a → LineEnds l ss → LineEnds (a ++ l) ss
no_ends_lem [] h k = k
no_ends_lem (c ∷ a) h k = other h.0.0 h.0.1 (no_ends_lem a h.1 k)

pub last_end : (s : LineEnding) → LineEnds (line_end s) (s ∷ [])
last_end Lf = ended Lf lf none
last_end CrLf = ended CrLf crlf none
last_end Cr = ended Cr (cr nothing_follows) none

-- ---- line ends of one kind

abbrev pub Alike : LineEnding → List ℕ → Type 0
Alike s l = All (λ t. t ≡ s) (ends_behind false l)

pub alike_skip : (s : LineEnding) (a x : List ℕ) → All Plain a → Alike s (a ++ x) → Alike s x
alike_skip s [] x h k = k
alike_skip s (c ∷ a) x h k = alike_skip s a x h.1 (rw (ne_eqb c LF h.0.1, ne_eqb c CR h.0.0) at k)

-- A line end of such a text is of that kind.
pub alike_end : (s : LineEnding) {e rest : List ℕ} → LineEnd e rest → (x : List ℕ) → (NoLF rest → NoLF x) → Alike s (e ++ x) → (e ≡ line_end s) × Alike s x
alike_end s crlf x f k = (ap line_end k.0, k.1)
alike_end s (cr n) x f k =
    let h : All (λ t. t ≡ s) (Cr ∷ ends_behind false x) = rw (cr_alone x (f n)) at k in
    (ap line_end h.0, h.1)
alike_end s lf x f k = (ap line_end k.0, k.1)

pub no_lf_more : (rest x : List ℕ) → rest ≢ [] → NoLF rest → NoLF (rest ++ x)
no_lf_more [] x some n = absurd (some refl)
no_lf_more (c ∷ r) x some n = λ y q. n r (ap (λ z. z ∷ r) (head-eq_of_cons-eq q))
