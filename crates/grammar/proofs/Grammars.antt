-- The bodies: a strict body is a standard body, a standard body is a lax body, and no body holds a hyphen. One line end is no
-- standard body, a final line may be empty, a strict body has a group at least, and no line of it is over 64 characters.
-- Assumes nothing.
use mathlib.Core.Path.{◌≡◌, refl, sym, ◌∙◌, subst, ap}
use mathlib.Core.Logic.{◌≢◌, ◌⊎◌, inl, inr}
use mathlib.Core.List.{List, [], ◌∷◌, ◌++◌, append_assoc, append-nil, head-eq_of_cons-eq, tail-eq_of_cons-eq, cons≢nil}
use Prim.Native.Nat.{ℕ, zero, suc, ◌*◌, ◌≤◌, ◌<◌}
use native.Mathlib.Omega.{arith}
use lib.ListN.{length, replicate, length-append}
use Rattle.base_64.specs.Lists.{All}
use Rattle.base_64.specs.Alphabet.{AlphabetChar, pad}
use Rattle.base_64.proofs.Lists.{all_append, all_imp}
use Rattle.grammar.specs.Marks.{LF, Blank, White, LineEnd, lf}
use Rattle.grammar.specs.Grammars.{Mixed, LaxPads, LaxBody, FinalLine, StandardLines, BlankLines, StandardBody, StandardAfter, line_chars, Groups, StrictLines, StrictBody}
use Rattle.grammar.proofs.Marks.{pad_no_alphabet, NoHyphen, white_no_hyphen, white_no_pad, alphabet_no_hyphen, pad_no_hyphen, blanks_white, end_white, end_some, end_head, end_lf, end_unique, end_no_alphabet, blank_no_end, pad_no_end}

-- ---- the shortest final line of standard is empty; one of strict has a group

pub empty_final_line : FinalLine (LF ∷ [])
empty_final_line = FinalLine.final [] 0 [] (LF ∷ []) tt (omega arith) tt lf

groups_long : {n : ℕ} {g : List ℕ} → Groups n g → 4 ≤ length g
groups_long (Groups.four ha hb hc hd) = omega arith
groups_long (Groups.three ha hb hc) = omega arith
groups_long (Groups.two ha hb) = omega arith
groups_long (Groups.more ha hb hc hd g) = omega arith

strict_lines_long : {l : List ℕ} → StrictLines l → 4 ≤ length l
strict_lines_long (StrictLines.final n g e hg hn he) = omega (arith, groups_long hg, length-append g e)
strict_lines_long (StrictLines.line a e rest ha full he l) = omega (arith, full, length-append a (e ++ rest))

pub strict_body_long : {b : List ℕ} → StrictBody b → 4 ≤ length b
strict_body_long (StrictBody.strict e rest he l) = omega (arith, strict_lines_long l, length-append e rest)

-- ---- pads on two lines

-- The second pad may stand on the next line, and nothing else may.
pub split_final_line : (a e : List ℕ) → All AlphabetChar a → LineEnd e (pad ∷ LF ∷ []) → FinalLine (a ++ (pad ∷ (e ++ (pad ∷ LF ∷ []))))
split_final_line a e ha he = FinalLine.split a [] e [] (LF ∷ []) ha tt he tt lf

pub behind_pad_line : {l e rest : List ℕ} → FinalLine l → LineEnd e rest → l ≡ pad ∷ (e ++ rest) → (rest ≡ []) ⊎ ((more : List ℕ) × (rest ≡ pad ∷ more))
behind_pad_line (FinalLine.final (c ∷ a) p b f ha hp hb hf) he q = absurd (pad_no_alphabet (subst AlphabetChar (head-eq_of_cons-eq q) ha.0))
behind_pad_line (FinalLine.final [] zero [] f ha hp hb hf) he q = absurd (pad_no_end (end_head hf [] (append-nil f ∙ q)))
behind_pad_line (FinalLine.final [] zero (c ∷ b) f ha hp hb hf) he q = absurd (white_no_pad c (inl hb.0) (head-eq_of_cons-eq q))
behind_pad_line (FinalLine.final [] (suc zero) [] f ha hp hb hf) he q = inl (sym (end_unique hf he (append-nil f ∙ tail-eq_of_cons-eq q)))
behind_pad_line {rest = rest} (FinalLine.final [] (suc zero) (c ∷ b) f ha hp hb hf) he q = absurd (blank_no_end hb.0 (end_head he rest (sym (tail-eq_of_cons-eq q))))
behind_pad_line {rest = rest} (FinalLine.final [] (suc (suc zero)) b f ha hp hb hf) he q = absurd (pad_no_end (end_head he rest (sym (tail-eq_of_cons-eq q))))
behind_pad_line (FinalLine.final [] (suc (suc (suc p))) b f ha hp hb hf) he q = absurd (omega arith)
behind_pad_line (FinalLine.split (d ∷ a) b e c f ha hb he hc hf) hend q = absurd (pad_no_alphabet (subst AlphabetChar (head-eq_of_cons-eq q) ha.0))
behind_pad_line (FinalLine.split [] [] e c f ha hb he hc hf) hend q = inr (c ++ f, sym (end_unique he hend (tail-eq_of_cons-eq q)))
behind_pad_line {rest = rest} (FinalLine.split [] (d ∷ b) e c f ha hb he hc hf) hend q = absurd (blank_no_end hb.0 (end_head hend rest (sym (tail-eq_of_cons-eq q))))

-- ---- no hyphen in a lax body

whites_no_hyphen : (w : List ℕ) → All White w → All NoHyphen w
whites_no_hyphen w h = all_imp White NoHyphen white_no_hyphen w h

mixed_no_hyphen : (c : ℕ) → Mixed c → NoHyphen c
mixed_no_hyphen c (inl h) = white_no_hyphen c h
mixed_no_hyphen c (inr h) = alphabet_no_hyphen c h

pads_no_hyphen : {p : List ℕ} → LaxPads p → All NoHyphen p
pads_no_hyphen LaxPads.none = tt
pads_no_hyphen (LaxPads.one w h) = (pad_no_hyphen, whites_no_hyphen w h)
pads_no_hyphen (LaxPads.two v w h k) =
    (pad_no_hyphen, all_append NoHyphen v (pad ∷ w) (whites_no_hyphen v h) (pad_no_hyphen, whites_no_hyphen w k))

pub lax_body_no_hyphen : {b : List ℕ} → LaxBody b → All NoHyphen b
lax_body_no_hyphen (LaxBody.lax m p hm hp) =
    all_append NoHyphen m p (all_imp Mixed NoHyphen mixed_no_hyphen m hm) (pads_no_hyphen hp)

-- ---- standard to lax

whites_mixed : (w : List ℕ) → All White w → All Mixed w
whites_mixed w h = all_imp White Mixed (λ c k. inl k) w h

alphabet_mixed : (a : List ℕ) → All AlphabetChar a → All Mixed a
alphabet_mixed a h = all_imp AlphabetChar Mixed (λ c k. inr k) a h

-- A mixture in front of a lax body is a lax body.
mixed_then : (m : List ℕ) {b : List ℕ} → All Mixed m → LaxBody b → LaxBody (m ++ b)
mixed_then m h (LaxBody.lax n p hn hp) = subst LaxBody (append_assoc m n p) (LaxBody.lax (m ++ n) p (all_append Mixed m n h hn) hp)

white_then : (w : List ℕ) {b : List ℕ} → All White w → LaxBody b → LaxBody (w ++ b)
white_then w h b = mixed_then w (whites_mixed w h) b

blanks_end_white : (b : List ℕ) {e rest : List ℕ} → All Blank b → LineEnd e rest → All White (b ++ e)
blanks_end_white b {e} hb he = all_append White b e (blanks_white b hb) (end_white he)

-- Up to two pads, white behind them.
pads_lax : (p : ℕ) (w : List ℕ) → p ≤ 2 → All White w → LaxBody (replicate p pad ++ w)
pads_lax zero w hp hw = subst LaxBody (append-nil w) (LaxBody.lax w [] (whites_mixed w hw) LaxPads.none)
pads_lax (suc zero) w hp hw = LaxBody.lax [] (pad ∷ w) tt (LaxPads.one w hw)
pads_lax (suc (suc zero)) w hp hw = LaxBody.lax [] (pad ∷ pad ∷ w) tt (LaxPads.two [] w tt hw)
pads_lax (suc (suc (suc p))) w hp hw = absurd (omega arith)

final_line_lax : {f : List ℕ} → FinalLine f → LaxBody f
final_line_lax (FinalLine.final a p b e ha hp hb he) =
    mixed_then a (alphabet_mixed a ha) (pads_lax p (b ++ e) hp (blanks_end_white b hb he))
final_line_lax (FinalLine.split a b e c f ha hb he hc hf) =
    let two : LaxPads (pad ∷ ((b ++ e) ++ (pad ∷ (c ++ f)))) = LaxPads.two (b ++ e) (c ++ f) (blanks_end_white b hb he) (blanks_end_white c hc hf) in
    mixed_then a (alphabet_mixed a ha) (LaxBody.lax [] _ tt (rw append_assoc at two))

lines_lax : {l : List ℕ} → StandardLines l → LaxBody l
lines_lax (StandardLines.final f) = final_line_lax f
lines_lax (StandardLines.line a b e rest some ha hb he l) =
    mixed_then a (alphabet_mixed a ha) (white_then b (blanks_white b hb) (white_then e (end_white he) (lines_lax l)))

blank_lines_lax : {l : List ℕ} → BlankLines l → LaxBody l
blank_lines_lax (BlankLines.lines l) = lines_lax l
blank_lines_lax (BlankLines.blank {c = c} h l) = white_then (c ∷ []) (inl h, tt) (blank_lines_lax l)
blank_lines_lax (BlankLines.line_end_lem e rest he l) = white_then e (end_white he) (blank_lines_lax l)

pub standard_body_lax : {b : List ℕ} → StandardBody b → LaxBody b
standard_body_lax (StandardBody.standard b e rest hb he l) =
    white_then b (blanks_white b hb) (white_then e (end_white he) (blank_lines_lax l))

pub standard_after_white : {a : List ℕ} → StandardAfter a → All White a
standard_after_white (StandardAfter.no_end {b = b} h) = blanks_white b h
standard_after_white (StandardAfter.one_end b e hb he) = blanks_end_white b hb he

-- ---- strict to standard

alphabet_then : (a : List ℕ) {f : List ℕ} → All AlphabetChar a → FinalLine f → FinalLine (a ++ f)
alphabet_then a h (FinalLine.final n p b e hn hp hb he) =
    subst FinalLine (append_assoc a n (replicate p pad ++ (b ++ e)))
    (FinalLine.final (a ++ n) p b e (all_append AlphabetChar a n h hn) hp hb he)
alphabet_then a h (FinalLine.split n b e c f hn hb he hc hf) =
    subst FinalLine (append_assoc a n (pad ∷ (b ++ (e ++ (pad ∷ (c ++ f))))))
    (FinalLine.split (a ++ n) b e c f (all_append AlphabetChar a n h hn) hb he hc hf)

groups_final_line : {n : ℕ} {g : List ℕ} (e : List ℕ) → Groups n g → LineEnd e [] → FinalLine (g ++ e)
groups_final_line e (Groups.four {a} {b} {c} {d} ha hb hc hd) he =
    FinalLine.final (a ∷ b ∷ c ∷ d ∷ []) 0 [] e (ha, (hb, (hc, (hd, tt)))) (omega arith) tt he
groups_final_line e (Groups.three {a} {b} {c} ha hb hc) he =
    FinalLine.final (a ∷ b ∷ c ∷ []) 1 [] e (ha, (hb, (hc, tt))) (omega arith) tt he
groups_final_line e (Groups.two {a} {b} ha hb) he = FinalLine.final (a ∷ b ∷ []) 2 [] e (ha, (hb, tt)) (omega arith) tt he
groups_final_line e (Groups.more {a} {b} {c} {d} ha hb hc hd g) he =
    alphabet_then (a ∷ b ∷ c ∷ d ∷ []) (ha, (hb, (hc, (hd, tt)))) (groups_final_line e g he)

full_line_some : (a : List ℕ) → length a ≡ line_chars → a ≢ []
full_line_some a h e = let k : length a ≡ 0 = ap length e in omega arith

lines_standard : {l : List ℕ} → StrictLines l → StandardLines l
lines_standard (StrictLines.final n g e hg hn he) = StandardLines.final (groups_final_line e hg he)
lines_standard (StrictLines.line a e rest ha full he l) =
    StandardLines.line a [] e rest (full_line_some a full) ha tt he (lines_standard l)

pub strict_body_standard : {b : List ℕ} → StrictBody b → StandardBody b
strict_body_standard (StrictBody.strict e rest he l) = StandardBody.standard [] e rest tt he (BlankLines.lines (lines_standard l))

-- ---- the CRLF rule: a standard body is more than one line end

append_none : (a b : List ℕ) → a ++ b ≡ [] → b ≡ []
append_none [] b e = e
append_none (x ∷ a) b e = absurd (cons≢nil e)

lines_some : {l : List ℕ} → StandardLines l → l ≢ []
lines_some (StandardLines.final (FinalLine.final a p b e ha hp hb he)) z =
    end_some he [] (append-nil e ∙ append_none b e (append_none (replicate p pad) (b ++ e) (append_none a (replicate p pad ++ (b ++ e)) z)))
lines_some (StandardLines.final (FinalLine.split a b e c f ha hb he hc hf)) z = cons≢nil (append_none a (pad ∷ (b ++ (e ++ (pad ∷ (c ++ f))))) z)
lines_some (StandardLines.line a b e rest some ha hb he l) z = end_some he rest (append_none b (e ++ rest) (append_none a (b ++ (e ++ rest)) z))

blank_lines_some : {l : List ℕ} → BlankLines l → l ≢ []
blank_lines_some (BlankLines.lines l) z = lines_some l z
blank_lines_some (BlankLines.blank h l) z = cons≢nil z
blank_lines_some (BlankLines.line_end_lem e rest he l) z = end_some he rest z

-- The line end of the opening takes the whole of it.
ends_once : {d e rest : List ℕ} → LineEnd d rest → BlankLines rest → LineEnd e [] → d ++ rest ≡ e → ⊥
ends_once {e = e} hd l he z = blank_lines_some l (end_unique hd he (z ∙ sym (append-nil e)))

pub one_end_no_body : {b e : List ℕ} → StandardBody b → LineEnd e [] → b ≡ e → ⊥
one_end_no_body (StandardBody.standard [] e rest hb he l) h z = ends_once he l h z
one_end_no_body {e = e} (StandardBody.standard (c ∷ b) d rest hb he l) h z = blank_no_end hb.0 (end_head h [] (append-nil e ∙ sym z))

-- ---- under strict no line is longer than 64 characters

-- What stands behind the shorter of two starts of one list begins inside the longer.
shorter_start : (P : ℕ → Type 0) (g x a y : List ℕ) → All P a → length g < length a → g ++ x ≡ a ++ y
    → (c : ℕ) × (z : List ℕ) × P c × (x ≡ c ∷ z)
shorter_start P g x [] y ha short e = absurd (omega arith)
shorter_start P [] x (c ∷ a) y ha short e = (c, a ++ y, ha.0, e)
shorter_start P (d ∷ g) x (c ∷ a) y ha short e = shorter_start P g x a y ha.1 (omega arith) (tail-eq_of_cons-eq e)

pub groups_length : {n : ℕ} {g : List ℕ} → Groups n g → length g ≡ 4 * n
groups_length (Groups.four ha hb hc hd) = refl
groups_length (Groups.three ha hb hc) = refl
groups_length (Groups.two ha hb) = refl
groups_length (Groups.more {n = n} {rest = rest} ha hb hc hd g) = let k : length rest ≡ 4 * n = groups_length g in omega arith

module _ (x a y : List ℕ) (ha : All AlphabetChar a) (long : 64 < length a) where
  ends_early : (g : List ℕ) {e rest : List ℕ} (z : List ℕ) → LineEnd e rest → length g ≤ 64 → g ++ (e ++ z) ≡ a ++ y → ⊥
  ends_early g {e} z he short eq =
      let (c, r, hc, head) = shorter_start AlphabetChar g (e ++ z) a y ha (omega arith) eq in
      end_no_alphabet (end_head he z head) hc

  strict_lines_short : {l : List ℕ} → StrictLines l → l ++ x ≡ a ++ y → ⊥
  strict_lines_short (StrictLines.final n g e hg hn he) eq =
      let k : length g ≡ 4 * n = groups_length hg in
      ends_early g x he (omega arith) (sym (append_assoc g e x) ∙ eq)
  strict_lines_short (StrictLines.line n e rest hn full he l) eq = ends_early n (rest ++ x) he (omega arith) (simp append_assoc at eq)

  pub strict_body_short : {b : List ℕ} → StrictBody b → b ++ x ≡ 10 ∷ (a ++ y) → ⊥
  strict_body_short (StrictBody.strict e rest he l) eq = strict_lines_short l (end_lf he (rest ++ x) (sym (append_assoc e rest x) ∙ eq))
