-- Leaps put together from steps, and a run of alphabet characters in each of the three grammars. Assumes nothing.
use mathlib.Core.Path.{◌≡◌, refl, sym, ap, ◌∙◌}
use mathlib.Core.Bool.{Bool, true, false}
use mathlib.Core.Logic.{inl, inr}
use mathlib.Core.List.{List}
use Prim.Native.Nat.{ℕ, zero, suc, ◌+◌, ◌-◌, ◌≤◌, ◌<◌, ◌^◌}
use native.Mathlib.Omega.{arith}
use lib.Dec.{eqb, ltb}
use lib.ListN.{length, drop, get_or}
use lib.Seq.{drop-cons}
use borrow.Author.Tests.{ltb-true, ltb-false}
use Rattle.base_64.specs.Alphabet.{pad, AlphabetChar}
use Rattle.grammar.specs.Marks.{CR, LF, Blank}
use Rattle.grammar.specs.declared.Grammar.{Grammar}
use Rattle.machine.proofs.ByteKinds.{kind_of}
use Rattle.machine.proofs.Machine.{state, next, step, part_of, byte_part, dead}
use Rattle.machine.proofs.Bytes.{alphabet_seen}
use Rattle.machine.specs.declared.StrictPhase.TheVariants as strict
use Rattle.machine.specs.declared.Kind.{Kind}
use Rattle.machine.specs.declared.Part.{Part}
use Rattle.machine.specs.declared.Phase.{Phase}
use Rattle.machine.specs.declared.Phase.TheVariants.{Strict}
use Rattle.machine.specs.declared.State.{State}
use Rattle.reading.specs.declared.Tally.{Tally}
use Rattle.reading.specs.Ends.{ends, end_counted}
use Rattle.reading.specs.Scan.{character_tallied, tallied, with_ends, byte_tallied, stopped, scan_of}
use Rattle.reading.proofs.Scans.{Within, within_next}
use Rattle.reading.proofs.Tallies.{part_ends}
use Rattle.runs.proofs.Runs.{line_end_inside, line_end_width}
use Rattle.runs.specs.Runs.{Characters, Blanks, LfOrCrlf, lf, crlf, Pads}
use Rattle.scanner.specs.Advances.{place, in_phase, Advanced, Stopped, Countable, run_tallied, others_tallied, pads_tallied, width_tallied}
use Rattle.scanner.specs.declared.Position.{Position}
use Rattle.leaps.specs.Phases.{OnCharacter, OnLineEnd, OnBlank, OnPad, OnPads, one_pad, two_pads}
use Rattle.leaps.proofs.Phases.{strict_way, strict_line, strict_ends}
use Rattle.scanner.specs.Phases.{FullLine, FullLines}

module _ {g : Grammar} {text : List ℕ} where
  pub advanced_none : {p : Position} → p.at ≤ length text → Advanced g text p p
  advanced_none {p} h =
      let none : (n : ℕ) → n + (p.at - p.at) ≡ n = λ n. omega arith in
      record { forward = omega arith; inside = h; within = λ n w. rw (none n) w; ahead = λ n. rw (none n) }

  pub advanced_then : {p q r : Position} → Advanced g text p q → Advanced g text q r → Advanced g text p r
  advanced_then {p} {q} {r} a b =
      let sum : (n : ℕ) → n + (q.at - p.at) + (r.at - q.at) ≡ n + (r.at - p.at) = λ n. omega (arith, a.forward, b.forward) in
      record {
        forward = omega (arith, a.forward, b.forward);
        inside = b.inside;
        within = λ n w. rw (sum n) at (b.within (n + (q.at - p.at)) (a.within n w));
        ahead = λ n. a.ahead n ∙ (rw (sum n) at (b.ahead (n + (q.at - p.at))));
      }

  -- One byte that the machine lives through.
  pub advanced_byte : (s : State) (t : Tally) (i : ℕ) (s' : State) (t' : Tally) → i < length text → step g s (get_or text i 0) ≡ s' → dead s'.phase ≡ false
      → t' ≡ byte_tallied s.cr (get_or text i 0) (byte_part (part_of s.phase) (part_of s'.phase)) t → Advanced g text (place i s t) (place (i + 1) s' t')
  advanced_byte s t i s' t' h e alive counted =
      let one : (n : ℕ) → n + (i + 1 - i) ≡ suc n = λ n. omega arith in
      let next_byte : i + 1 ≡ suc i = omega arith in
      record {
        forward = omega arith;
        inside = omega arith;
        within = λ n w. rw (one n, counted) (within_next s.cr (get_or text i 0) (byte_part (part_of s.phase) (part_of s'.phase)) w);
        ahead = λ n. rw (one n, next_byte, counted, drop-cons text i 0 h, e, alive);
      }

  -- One that shows no line end.
  pub advanced_plain : (s : State) (t : Tally) (i : ℕ) (s' : State) (t' : Tally) → i < length text → step g s (get_or text i 0) ≡ s' → dead s'.phase ≡ false
      → eqb (get_or text i 0) LF ≡ false → eqb (get_or text i 0) CR ≡ false
      → t' ≡ tallied (byte_part (part_of s.phase) (part_of s'.phase)) (kind_of (get_or text i 0)) t → Advanced g text (place i s t) (place (i + 1) s' t')
  advanced_plain s t i s' t' h e alive no_lf no_cr counted =
      let p : Part = byte_part (part_of s.phase) (part_of s'.phase) in
      let k : Kind = kind_of (get_or text i 0) in
      let no_end : end_counted s.cr (get_or text i 0) t.ends ≡ t.ends = rw (no_lf, no_cr) in
      advanced_byte s t i s' t' h e alive (counted ∙ part_ends p k t t.ends ∙ sym (ap (with_ends (tallied p k t)) no_end))

-- What a position tells where the scan goes no further.
pub scanned : {g : Grammar} {text : List ℕ} {p q : Position} → Advanced g text p q → Stopped g text q
    → stopped q.state (q.at - p.at) q.tally ≡ scan_of g p.state 0 p.tally (drop p.at text)
scanned {p = p} {q = q} a z =
    let count : 0 + (q.at - p.at) ≡ q.at - p.at = omega arith in
    sym (rw count at (a.ahead 0 ∙ z.ends (0 + (q.at - p.at))))

-- The tally at a position that was come to from another.
pub within_there : {g : Grammar} {text : List ℕ} {p q : Position} → Advanced g text p q → Within p.tally p.at → Within q.tally q.at
within_there {p = p} {q = q} a w = let there : p.at + (q.at - p.at) ≡ q.at = omega (arith, a.forward) in rw there at (a.within p.at w)

-- A tally of no more bytes than stand before the position can be added to.
pub countable : (text : List ℕ) (p : Position) → p.at ≤ length text → length text < 2 ^ 64 → Within p.tally p.at → Countable text p
countable text p h fits w = omega (arith, w)

-- A byte that is no LF moves the machine, whether CR was read before it or not.
pub step_moves : (g : Grammar) (p : Phase) (cr : Bool) (c : ℕ) → eqb c LF ≡ false → step g (state p cr) c ≡ state (next g p c) (eqb c CR)
step_moves g p true c e = rw e
step_moves g p false c e = refl

pub run_one : (t : Tally) → run_tallied 1 t ≡ character_tallied t
run_one t = let e : t.body + 1 - 1 ≡ t.body = omega arith in rw e

run_more : (n : ℕ) (t : Tally) → run_tallied n (character_tallied t) ≡ run_tallied (suc n) t
run_more n t =
    let e : t.body + 1 + n ≡ t.body + suc n = omega arith in
    let f : t.characters + 1 + n ≡ t.characters + suc n = omega arith in
    rw (e, f)

module _ {g : Grammar} {text : List ℕ} where
  advanced_char : {p q : Phase} → OnCharacter g p q → (cr : Bool) (t : Tally) (i : ℕ) → i < length text → AlphabetChar (get_or text i 0)
      → Advanced g text (place i (state p cr) t) (in_phase (i + 1) q (character_tallied t))
  advanced_char {p} {q} w cr t i h a =
      let seen = alphabet_seen (get_or text i 0) a in
      advanced_plain (state p cr) t i (state q false) (character_tallied t) h
      (step_moves g p cr (get_or text i 0) seen.no_lf ∙ rw (w.takes (get_or text i 0) a, seen.no_cr))
      w.alive
      seen.no_lf
      seen.no_cr
      (rw (w.from, w.to, seen.kind))

  -- A run: behind its first character the machine counts down.
  pub advanced_run : (f : ℕ → Phase) → ((m : ℕ) → OnCharacter g (f (suc m)) (f m)) → (n more : ℕ) {p : Phase} → OnCharacter g p (f (n + more)) → (cr : Bool) (t : Tally) (i : ℕ)
      → i + suc n ≤ length text → Characters text i (i + suc n) → Advanced g text (place i (state p cr) t) (in_phase (i + suc n) (f more) (run_tallied (suc n) t))
  advanced_run f on zero more {p} w cr t i h a =
      let here : 0 + more ≡ more = omega arith in
      let w' : OnCharacter g p (f more) = rw here at w in
      rw (run_one t) (advanced_char w' cr t i (omega arith) (a.all i (omega arith) (omega arith)))
  advanced_run f on (suc n) more {p} w cr t i h a =
      let same : suc n + more ≡ suc (n + more) = omega arith in
      let w' : OnCharacter g p (f (suc (n + more))) = rw same at w in
      let next : i + 1 + suc n ≡ i + suc (suc n) = omega arith in
      advanced_then
      (advanced_char w' cr t i (omega arith) (a.all i (omega arith) (omega arith)))
      (rw (← run_more (suc n) t, ← next) (advanced_run f on n more (on (n + more)) false (character_tallied t) (i + 1) (omega arith) (record { all = λ k low high. a.all k (omega arith) (omega arith) })))

-- ---- Line ends

-- One byte of each kind.
abbrev lf_tallied : Tally → Tally
lf_tallied t = with_ends (others_tallied 1 t) (ends (t.ends.lf + 1) t.ends.crlf t.ends.cr)

abbrev cr_tallied : Tally → Tally
cr_tallied t = with_ends (others_tallied 1 t) (ends t.ends.lf t.ends.crlf (t.ends.cr + 1))

abbrev second_tallied : Tally → Tally
second_tallied t = with_ends (others_tallied 1 t) (ends t.ends.lf (t.ends.crlf + 1) t.ends.cr)

lf_told : (t : Tally) → lf_tallied t ≡ width_tallied 1 (others_tallied 1 t)
lf_told t =
    let pairs : t.ends.crlf + 0 ≡ t.ends.crlf = omega arith in
    let crs : t.ends.cr + 0 ≡ t.ends.cr = omega arith in
    rw (pairs, crs)

crlf_told : (t : Tally) → second_tallied (cr_tallied t) ≡ width_tallied 2 (others_tallied 2 t)
crlf_told t =
    let both : t.body + 1 + 1 ≡ t.body + 2 = omega arith in
    let lfs : t.ends.lf + 0 ≡ t.ends.lf = omega arith in
    rw (both, lfs)

module _ {g : Grammar} {text : List ℕ} {p q : Phase} (w : OnLineEnd g p q) (t : Tally) (i : ℕ) where
  advanced_lf : i < length text → get_or text i 0 ≡ LF → Advanced g text (in_phase i p t) (in_phase (i + 1) q (lf_tallied t))
  advanced_lf h e = advanced_byte (state p false) t i (state q false) (lf_tallied t) h (rw (e, w.lf)) w.alive (rw (w.from, w.to, e))

  advanced_cr : i < length text → get_or text i 0 ≡ CR → Advanced g text (in_phase i p t) (place (i + 1) (state q true) (cr_tallied t))
  advanced_cr h e = advanced_byte (state p false) t i (state q true) (cr_tallied t) h (rw (e, w.cr)) w.alive (rw (w.from, w.to, e))

  -- LF behind CR moves nothing.
  advanced_second : (u : Tally) (j : ℕ) → j < length text → get_or text j 0 ≡ LF → Advanced g text (place j (state q true) u) (in_phase (j + 1) q (second_tallied u))
  advanced_second u j h e = advanced_byte (state q true) u j (state q false) (second_tallied u) h (rw e) w.alive (rw (w.to, e))

  advanced_crlf : i + 1 < length text → get_or text i 0 ≡ CR → get_or text (i + 1) 0 ≡ LF → Advanced g text (in_phase i p t) (in_phase (i + 2) q (second_tallied (cr_tallied t)))
  advanced_crlf h e f =
      let two : i + 1 + 1 ≡ i + 2 = omega arith in
      rw (← two) (advanced_then (advanced_cr (omega arith) e) (advanced_second (cr_tallied t) (i + 1) h f))

  pub advanced_line_end : {n : ℕ} → LfOrCrlf text i n → Advanced g text (in_phase i p t) (in_phase (i + n) q (width_tallied n (others_tallied n t)))
  advanced_line_end (lf h e) = rw (← lf_told t) (advanced_lf h e)
  advanced_line_end (crlf h e f) = rw (← crlf_told t) (advanced_crlf h e f)

-- ---- Blanks

others_more : (m n : ℕ) (t : Tally) → others_tallied n (others_tallied m t) ≡ others_tallied (m + n) t
others_more m n t = let e : t.body + m + n ≡ t.body + (m + n) = omega arith in rw e

module _ {g : Grammar} {text : List ℕ} where
  advanced_blank : {p q : Phase} → OnBlank g p q → (t : Tally) (i : ℕ) → i < length text → Blank (get_or text i 0)
      → Advanced g text (in_phase i p t) (in_phase (i + 1) q (others_tallied 1 t))
  advanced_blank {p} {q} w t i h (inl e) = advanced_plain (state p false) t i (state q false) (others_tallied 1 t) h (rw (e, w.ht)) w.alive (rw e) (rw e) (rw (w.from, w.to, e))
  advanced_blank {p} {q} w t i h (inr e) = advanced_plain (state p false) t i (state q false) (others_tallied 1 t) h (rw (e, w.sp)) w.alive (rw e) (rw e) (rw (w.from, w.to, e))

  advanced_blanks : (n : ℕ) {p q : Phase} → OnBlank g p q → OnBlank g q q → (t : Tally) (i : ℕ) → i + suc n ≤ length text → Blanks text i (i + suc n)
      → Advanced g text (in_phase i p t) (in_phase (i + suc n) q (others_tallied (suc n) t))
  advanced_blanks zero w on t i h a = advanced_blank w t i (omega arith) (a.all i (omega arith) (omega arith))
  advanced_blanks (suc n) w on t i h a =
      let next : i + 1 + suc n ≡ i + suc (suc n) = omega arith in
      let count : 1 + suc n ≡ suc (suc n) = omega arith in
      let rest = advanced_blanks n on on (others_tallied 1 t) (i + 1) (omega arith) (record { all = λ k low high. a.all k (omega arith) (omega arith) }) in
      advanced_then (advanced_blank w t i (omega arith) (a.all i (omega arith) (omega arith))) (rw (next, others_more 1 (suc n) t, count) at rest)

  -- From a place to a later one.
  pub blanks_to : {p q : Phase} → OnBlank g p q → OnBlank g q q → (t : Tally) (i j : ℕ) → i < j → j ≤ length text → Blanks text i j
      → Advanced g text (in_phase i p t) (in_phase j q (others_tallied (j - i) t))
  blanks_to w on t i j h inside a =
      let count : suc (j - i - 1) ≡ j - i = omega arith in
      let end : i + (j - i) ≡ j = omega arith in
      let a' : Blanks text i (i + suc (j - i - 1)) = rw (count, end) a in
      rw end at (rw count at (advanced_blanks (j - i - 1) w on t i (omega arith) a'))

  -- Blanks, if any, and a line end.
  pub blanks_line_end : {within behind trailing : Phase} → OnBlank g within trailing → OnBlank g trailing trailing → OnLineEnd g within behind → OnLineEnd g trailing behind
      → (t : Tally) (j k n : ℕ) → j ≤ k → k ≤ length text → Blanks text j k → LfOrCrlf text k n
      → Advanced g text (in_phase j within t) (in_phase (k + n) behind (width_tallied n (others_tallied (k - j + n) t)))
  blanks_line_end {within} {behind} w on ends closes t j k n low inside a e = go (ltb j k) refl
    where
      go : (b : Bool) → ltb j k ≡ b → Advanced g text (in_phase j within t) (in_phase (k + n) behind (width_tallied n (others_tallied (k - j + n) t)))
      go true q = rw (ap (width_tallied n) (others_more (k - j) n t)) at (advanced_then (blanks_to w on t j k (ltb-true j k q) inside a) (advanced_line_end closes (others_tallied (k - j) t) k e))
      go false q =
          let same : j ≡ k = omega (arith, ltb-false j k q) in
          let here : k - j + n ≡ n = omega arith in
          rw (here, same) (advanced_line_end ends t k e)

-- ---- Pads

pads_more : (m n : ℕ) (t : Tally) → pads_tallied n (pads_tallied m t) ≡ pads_tallied (m + n) t
pads_more m n t =
    let e : t.body + m + n ≡ t.body + (m + n) = omega arith in
    let f : t.pads + m + n ≡ t.pads + (m + n) = omega arith in
    rw (e, f)

module _ {g : Grammar} {text : List ℕ} where
  advanced_pad : {p q : Phase} → OnPad g p q → (cr : Bool) (t : Tally) (i : ℕ) → i < length text → get_or text i 0 ≡ pad
      → Advanced g text (place i (state p cr) t) (in_phase (i + 1) q (pads_tallied 1 t))
  advanced_pad {p} {q} w cr t i h e =
      let no_lf : eqb (get_or text i 0) LF ≡ false = rw e in
      let no_cr : eqb (get_or text i 0) CR ≡ false = rw e in
      let leads : next g p (get_or text i 0) ≡ q = rw e w.takes in
      advanced_plain (state p cr) t i (state q false) (pads_tallied 1 t) h (step_moves g p cr (get_or text i 0) no_lf ∙ rw (leads, no_cr)) w.alive no_lf no_cr (rw (w.from, w.to, e))

  pub pads_line_end : {p q : Phase} {n : ℕ} → OnPads g p n q → (cr : Bool) (t : Tally) (i w : ℕ) → i + n ≤ length text → Pads text i (i + n) → LfOrCrlf text (i + n) w
      → Advanced g text (place i (state p cr) t) (in_phase (i + n + w) q (width_tallied w (others_tallied w (pads_tallied n t))))
  pads_line_end (one_pad first end) cr t i w h a e =
      advanced_then (advanced_pad first cr t i (omega arith) (a.all i (omega arith) (omega arith))) (advanced_line_end end (pads_tallied 1 t) (i + 1) e)
  pads_line_end (two_pads first second end) cr t i w h a e =
      let two : i + 1 + 1 ≡ i + 2 = omega arith in
      let later = rw (two, pads_more 1 1 t) at (advanced_pad second false (pads_tallied 1 t) (i + 1) (omega arith) (a.all (i + 1) (omega arith) (omega arith))) in
      advanced_then (advanced_pad first cr t i (omega arith) (a.all i (omega arith) (omega arith)))
      (advanced_then later (advanced_line_end end (pads_tallied 2 t) (i + 2) e))

-- From a place to a later one.
module _ {g : Grammar} {text : List ℕ} (cr : Bool) (t : Tally) (i j : ℕ) (h : i < j) (inside : j ≤ length text) (a : Characters text i j) where
  run_to : (f : ℕ → Phase) → ((m : ℕ) → OnCharacter g (f (suc m)) (f m)) → (more : ℕ) {p : Phase} → OnCharacter g p (f (j - i - 1 + more))
      → Advanced g text (place i (state p cr) t) (in_phase j (f more) (run_tallied (j - i) t))
  run_to f on more w =
      let count : suc (j - i - 1) ≡ j - i = omega arith in
      let end : i + (j - i) ≡ j = omega arith in
      let a' : Characters text i (i + suc (j - i - 1)) = rw (count, end) a in
      rw end at (rw count at (advanced_run f on (j - i - 1) more w cr t i (omega arith) a'))

  -- Phases that stay as they are: lax and standard.
  pub staying_run : {p q : Phase} → OnCharacter g p q → OnCharacter g q q → Advanced g text (place i (state p cr) t) (in_phase j q (run_tallied (j - i) t))
  staying_run {q = q} w on = run_to (λ m. q) (λ m. on) 0 w

  -- A strict line, from its start: as much room is left as the line lacks.
  pub strict_run : {p : Phase} → OnCharacter g p (Strict (strict.Data 63)) → j - i ≤ 64
      → Advanced g text (place i (state p cr) t) (in_phase j (Strict (strict.Data (64 - (j - i)))) (run_tallied (j - i) t))
  strict_run {p} w few =
      let room : 63 ≡ j - i - 1 + (64 - (j - i)) = omega arith in
      let w' : OnCharacter g p (Strict (strict.Data (j - i - 1 + (64 - (j - i))))) = rw room at w in
      run_to (λ m. Strict (strict.Data m)) (strict_way g) (64 - (j - i)) w'

-- ---- Full lines

strict_full : {g : Grammar} {p : Phase} → OnCharacter g p (Strict (strict.Data 63)) → FullLine g p (Strict strict.Line)
strict_full {g} w = record {
  full = Strict (strict.Data 0);
  run = λ text cr t i h a. let all : i + 64 - i ≡ 64 = omega arith in rw all at (strict_run cr t i (i + 64) (omega arith) h a w (omega arith));
  ends = strict_ends g;
}

pub strict_lines : {g : Grammar} {p : Phase} → OnCharacter g p (Strict (strict.Data 63)) → FullLines g p (Strict strict.Line)
strict_lines {g} w = record { first = strict_full w; again = strict_full (strict_line g) }

-- One full line of those that may stand here.
pub full_line : {g : Grammar} {text : List ℕ} {p q : Phase} → FullLine g p q → (cr : Bool) (t : Tally) (i n : ℕ) → i + 64 ≤ length text → Characters text i (i + 64) → LfOrCrlf text (i + 64) n
    → Advanced g text (place i (state p cr) t) (in_phase (i + 64 + n) q (width_tallied n (others_tallied n (run_tallied 64 t))))
full_line {text = text} l cr t i n h a e = advanced_then (l.run text cr t i h a) (advanced_line_end l.ends (run_tallied 64 t) (i + 64) e)

-- What the numbers of a line end are.
pub ruleset line_ends = (line_end_inside, line_end_width)
