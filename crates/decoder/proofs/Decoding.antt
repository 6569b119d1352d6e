-- Data that is written from the front of an output: groups at once, and byte by byte. Assumes nothing.
use mathlib.Core.Path.{◌≡◌, refl, sym, ap, ◌∙◌}
use mathlib.Core.Bool.{Bool, true, false}
use mathlib.Core.List.{List, [], ◌∷◌, ◌++◌, append_assoc, append-nil}
use Prim.Native.Nat.{ℕ, suc, ◌+◌, ◌-◌, ◌*◌, ◌/◌, ◌%◌, ◌≤◌, ◌<◌}
use native.Mathlib.Omega.{arith}
use native.Mathlib.Numerals.{add-one}
use Rattle.std.specs.Prelude.{Some, None}
use lib.ListN.{length, drop, take, get_or, set, length-drop, length-set, length-append, drop_of_length-le, take-append-drop}
use lib.Seq.{drop-cons, drop-drop, take-add, take_at, drop_at, take-take, take-set-le, take-suc, take-suc-set, take-length}
use Rattle.base_64.specs.Groups.{decode}
use Rattle.base_64.proofs.Groups.{decode_append, length_decode}
use Rattle.grammar.specs.Message.{characters}
use Rattle.grammar.proofs.Counts.{characters_append}
use Rattle.decoder.specs.declared.Open.{Open}
use Rattle.decoder.specs.declared.Open.TheVariants.{Start}
use Rattle.decoder.specs.declared.Fed.{Fed}
use Rattle.runs.specs.Runs.{Characters, Outside, Blanks, LfOrCrlf, no_lines, OfLength, FullLength, between}
use Rattle.runs.specs.declared.Lines.{Lines}
use Rattle.runs.proofs.Runs.{run_none, run_more, run_then, between_join, line_end_inside}
use Rattle.runs.proofs.Alphabet.{run_characters, characters_run, run_length, outside_characters, blanks_outside, line_end_outside}
use Rattle.runs.proofs.Lined.{lines_inside, line_more, full_more, full_lines, full_lengths, full_told}
use Rattle.decoder.specs.Feeding.{HoldsValue, fed_byte, ahead_body}
use Rattle.decoder.proofs.Feeding.{behind, ahead_next, ahead_none, rest_more, rest_next}
use Rattle.decoder.specs.Tables.{mark, group_at}
use Rattle.decoder.specs.Decoding.{Put, Decoding, Further, Decoded, DecodedLines}
use Rattle.decoder.proofs.Tables.{Inside, number_group}

-- ---- groups that are written

-- The four bytes at a place.
four_at : (text : List ℕ) (i : ℕ) → i + 4 ≤ length text
    → take 4 (drop i text) ≡ get_or text i 0 ∷ get_or text (i + 1) 0 ∷ get_or text (i + 2) 0 ∷ get_or text (i + 3) 0 ∷ []
four_at text i h =
    let e0 : suc i ≡ i + 1 = omega arith in
    let e1 : suc (i + 1) ≡ i + 2 = omega arith in
    let e2 : suc (i + 2) ≡ i + 3 = omega arith in
    let d0 = rw e0 at (drop-cons text i 0 (omega arith)) in
    let d1 = rw e1 at (drop-cons text (i + 1) 0 (omega arith)) in
    let d2 = rw e2 at (drop-cons text (i + 2) 0 (omega arith)) in
    let d3 = drop-cons text (i + 3) 0 (omega arith) in
    rw (d0, d1, d2, d3)

-- Three bytes that are stored in a row.
three_set : (out : List ℕ) (n x y z : ℕ) → n + 3 ≤ length out → take (n + 3) (set (set (set out n x) (n + 1) y) (n + 2) z) ≡ take n out ++ (x ∷ y ∷ z ∷ [])
three_set out n x y z h =
    let one : suc n ≡ n + 1 = omega arith in
    let two : suc (n + 1) ≡ n + 2 = omega arith in
    let three : suc (n + 2) ≡ n + 3 = omega arith in
    let l1 : length (set out n x) ≡ length out = simp length-set in
    let l2 : length (set (set out n x) (n + 1) y) ≡ length out = simp length-set in
    let t1 = rw one at (take-suc-set out n x (omega arith)) in
    let t2 = rw two at (take-suc-set (set out n x) (n + 1) y (omega arith)) in
    let t3 = rw three at (take-suc-set (set (set out n x) (n + 1) y) (n + 2) z (omega arith)) in
    t3 ∙ ap (λ (l : List ℕ). l ++ (z ∷ [])) (t2 ∙ ap (λ (l : List ℕ). l ++ (y ∷ [])) t1)
    ∙ ap (λ (l : List ℕ). l ++ (z ∷ [])) (append_assoc (take n out) (x ∷ []) (y ∷ []))
    ∙ append_assoc (take n out) (x ∷ y ∷ []) (z ∷ [])

group_inside : (text : List ℕ) (i : ℕ) → Inside (get_or text i 0) (get_or text (i + 1) 0) (get_or text (i + 2) 0) (get_or text (i + 3) 0) → Characters text i (i + 4)
group_inside text i k =
    let none : Characters text i i = run_none (omega arith) in
    let one = run_more none k.one (i + 1) refl in
    let two = run_more one k.two (i + 2) (omega arith) in
    let three = run_more two k.three (i + 3) (omega arith) in
    run_more three k.four (i + 4) (omega arith)

-- One group, from its number.
pub put_one : (text out : List ℕ) (n i s : ℕ) → i + 4 ≤ length text → n + 4 ≤ length out → s ≡ group_at text i
    → Put text out (set (set (set (set out n (s % 256)) (n + 1) (s / 256 % 256)) (n + 2) (s / 65536 % 256)) (n + 3) (s / 16777216)) n i 1 s
put_one text out n i s h room e = record {
  stands = h;
  room = omega arith;
  size = simp length-set;
  kept = take-set-le n _ (n + 3) (s / 16777216) (omega arith) ∙ take-set-le n _ (n + 2) (s / 65536 % 256) (omega arith)
      ∙ take-set-le n _ (n + 1) (s / 256 % 256) (omega arith) ∙ take-set-le n out n (s % 256) (omega arith);
  inside = λ small. group_inside text i (number_group (get_or text i 0) (get_or text (i + 1) 0) (get_or text (i + 2) 0) (get_or text (i + 3) 0) s e small).inside;
  written = λ small.
      let g = number_group (get_or text i 0) (get_or text (i + 1) 0) (get_or text (i + 2) 0) (get_or text (i + 3) 0) s e small in
      take-set-le (n + 3) _ (n + 3) (s / 16777216) (omega arith) ∙ three_set out n (s % 256) (s / 256 % 256) (s / 65536 % 256) (omega arith)
      ∙ rw (four_at text i h, g.first, g.second, g.third);
}

-- Groups, and then those behind them.
pub put_then : {text out mid out' : List ℕ} {n i k s : ℕ} → Put text out mid n i k s → (n' i' : ℕ) → n' ≡ n + 3 * k → i' ≡ i + 4 * k → {m t : ℕ} → Put text mid out' n' i' m t
    → (l u : ℕ) → l ≡ k + m → u ≡ s + t → Put text out out' n i l u
put_then {text} {out} {mid} {out'} {n} {i} {k} {s} p n' i' en ei {m} {t} q l u el eu =
    let bytes : n + 3 * k + 3 * m ≡ n + 3 * l = omega arith in
    let read : i + 4 * k + 4 * m ≡ i + 4 * l = omega arith in
    let chars : 4 * k + 4 * m ≡ 4 * l = omega arith in
    record {
      stands = omega (arith, q.stands);
      room = omega (arith, q.room, p.size);
      size = q.size ∙ p.size;
      kept = sym (take-take n n' out' (omega arith)) ∙ ap (take n) q.kept ∙ take-take n n' mid (omega arith) ∙ p.kept;
      inside = λ small. run_then (p.inside (omega arith)) (rw (ei, read) at (q.inside (omega arith)));
      written = λ small.
          let first = p.written (omega arith) in
          let second : take (n + 3 * k + 3 * m) out' ≡ take (n + 3 * k) mid ++ decode (take (4 * m) (drop (i + 4 * k) text)) = rw (en, ei) at (q.written (omega arith)) in
          let joined : decode (take (4 * k) (drop i text) ++ take (4 * m) (drop (i + 4 * k) text)) ≡ decode (take (4 * k) (drop i text)) ++ decode (take (4 * m) (drop (i + 4 * k) text)) =
          decode_append k (take (4 * k) (drop i text)) (take (4 * m) (drop (i + 4 * k) text)) (run_length (4 * k) text i p.stands) in
          let whole : take (4 * l) (drop i text) ≡ take (4 * k) (drop i text) ++ take (4 * m) (drop (i + 4 * k) text) =
          ap (λ (x : ℕ). take x (drop i text)) (sym chars) ∙ take-add (4 * k) (4 * m) (drop i text) ∙ ap (λ (x : List ℕ). take (4 * k) (drop i text) ++ take (4 * m) x) (drop-drop (4 * k) i text) in
          rw bytes at (second ∙ ap (λ (x : List ℕ). x ++ decode (take (4 * m) (drop (i + 4 * k) text))) first
          ∙ append_assoc (take n out) _ _ ∙ ap (λ (x : List ℕ). take n out ++ x) (sym joined ∙ ap decode (sym whole)));
    }

-- Groups that are known to be such.
pub put_known : {text out out' : List ℕ} {n i k s : ℕ} → Put text out out' n i k s → s < mark → Put text out out' n i k 0
put_known p small = record { stands = p.stands; room = p.room; size = p.size; kept = p.kept; inside = λ _. p.inside small; written = λ _. p.written small }

pub put_none : (text out : List ℕ) (n i : ℕ) → i ≤ length text → n ≤ length out → Put text out out n i 0 0
put_none text out n i h room = record {
  stands = omega arith;
  room = omega arith;
  size = refl;
  kept = refl;
  inside = λ _. run_none (omega arith);
  written = λ _. let here : n + 3 * 0 ≡ n = omega arith in rw (here, append-nil);
}

-- Others were written behind them in vain.
pub put_kept : {text out mid out' : List ℕ} {n i k : ℕ} → Put text out mid n i k 0 → {n' j m t : ℕ} → Put text mid out' n' j m t → n' ≡ n + 3 * k → Put text out out' n i k 0
put_kept {out' = out'} {n} {k = k} p {n'} q e = record {
  stands = p.stands;
  room = p.room;
  size = q.size ∙ p.size;
  kept = sym (take-take n n' out' (omega arith)) ∙ ap (take n) q.kept ∙ take-take n n' _ (omega arith) ∙ p.kept;
  inside = p.inside;
  written = λ small. rw e at q.kept ∙ p.written small;
}

-- ---- a body on its way

pub decoding_start : (body out : List ℕ) → length (decode (characters body)) ≤ length out → Decoding body out Start 0 0
decoding_start body out h = record { fits = h; holds = tt; some = omega arith; others = refl; written = refl }

module _ {body out : List ℕ} {g : Open} {n i : ℕ} (w : Decoding body out g n i) where
  -- Room for what is to come.
  pub decoding_room : n ≤ length out
  decoding_room = omega (arith, w.some, w.fits)

-- Groups give three bytes each.
decoding_put : {body out out' : List ℕ} {n i k s : ℕ} → Put body out out' n i k s → s < mark → Decoding body out Start n i
    → Decoding body out' Start (n + 3 * k) (i + 4 * k)
decoding_put {body} {out} {out'} {n} {i} {k} p small w =
    let few = p.stands in
    let d = decode (characters body) in
    let a = take (4 * k) (drop i body) in
    let ahead : drop n d ≡ decode a ++ decode (characters (drop (i + 4 * k) body)) =
    w.others ∙ ap decode (run_characters (4 * k) body i few (p.inside small)) ∙ decode_append k a _ (run_length (4 * k) body i few) in
    let size : length (decode a) ≡ 3 * k = length_decode a ∙ rw (run_length (4 * k) body i few) (omega arith) in
    let more : n + 3 * k ≤ length d = omega (arith, w.some, simp (length-drop, length-append) at (ap length ahead), size) in
    record {
      fits = rw p.size w.fits;
      holds = tt;
      some = more;
      others = sym (drop-drop (3 * k) n d) ∙ ap (drop (3 * k)) ahead ∙ drop_at (decode a) _ (3 * k) size;
      written = p.written small ∙ ap (λ (x : List ℕ). x ++ decode a) w.written
          ∙ ap (λ (x : List ℕ). take n d ++ x) (sym (ap (take (3 * k)) ahead ∙ take_at (decode a) _ (3 * k) size)) ∙ sym (take-add n (3 * k) d);
    }

-- ---- bytes outside the alphabet

-- Decoding passes over them.
decoding_skip : {body out : List ℕ} {n i j : ℕ} → Decoding body out Start n i → i ≤ j → j ≤ length body → Outside body i j → Decoding body out Start n j
decoding_skip {body} {out} {n} {i} {j} w low h o =
    let place : i + (j - i) ≡ j = omega arith in
    let passed : characters (drop i body) ≡ characters (drop j body) =
    ap characters (sym (take-append-drop (j - i) (drop i body))) ∙ characters_append (take (j - i) (drop i body)) (drop (j - i) (drop i body))
    ∙ rw (outside_characters (j - i) body i (omega arith) (rw place o), drop-drop, place) in
    record { fits = w.fits; holds = w.holds; some = w.some; others = w.others ∙ ap decode passed; written = w.written }

module _ {body out : List ℕ} {g : Open} {n i : ℕ} (w : Decoding body out g n i) where
  decoding_others : i < length body → drop n (decode (characters body)) ≡ ahead_body g (get_or body i 0 ∷ drop (i + 1) body)
  decoding_others h = w.others ∙ ap (ahead_body g) (rw (add-one, drop-cons body i 0))

  module _ {f : Fed} (h : i < length body) (e : fed_byte g (get_or body i 0) ≡ f) where
    decoding_step : HoldsValue f.group × (drop n (decode (characters body)) ≡ behind f.byte (ahead_body f.group (drop (i + 1) body)))
    decoding_step =
        let step = ahead_next g f (get_or body i 0) (drop (i + 1) body) w.holds e in
        (step.0, decoding_others h ∙ step.1)

    pub decoding_held : f.byte ≡ None → Decoding body out f.group n (i + 1)
    decoding_held none = record { fits = w.fits; holds = decoding_step.0; some = w.some; others = rw none at decoding_step.1; written = w.written }

  module _ {f : Fed} {b : ℕ} (h : i < length body) (e : fed_byte g (get_or body i 0) ≡ f) (some : f.byte ≡ Some b) where
    decoding_byte : drop n (decode (characters body)) ≡ b ∷ ahead_body f.group (drop (i + 1) body)
    decoding_byte = rw some at (decoding_step h e).1

    decoding_more : n < length (decode (characters body))
    decoding_more = rest_more (decode (characters body)) n b (ahead_body f.group (drop (i + 1) body)) decoding_byte

    pub decoding_below : n < length out
    decoding_below = omega (arith, w.fits, decoding_more)

    pub decoding_given : Decoding body (set out n b) f.group (n + 1) (i + 1)
    decoding_given =
        let next_byte = rest_next (decode (characters body)) n b (ahead_body f.group (drop (i + 1) body)) decoding_byte in
        record {
          fits = rw length-set w.fits;
          holds = (decoding_step h e).0;
          some = omega (arith, decoding_more);
          others = next_byte.1;
          written = rw (add-one, take-suc-set out n b decoding_below, take-suc (decode (characters body)) n 0 decoding_more, next_byte.0, w.written);
        }

  pub decoding_end : length body ≤ i → (n ≡ length (decode (characters body))) × (take n out ≡ decode (characters body))
  decoding_end h =
      let none : drop n (decode (characters body)) ≡ [] = w.others ∙ ap (ahead_body g) (drop_of_length-le body h) ∙ ahead_none g in
      let end : n ≡ length (decode (characters body)) = omega (arith, w.some, simp length-drop at (ap length none)) in
      (end, w.written ∙ rw (end, take-length))

-- ---- further and further

pub further_start : {body out : List ℕ} {n i : ℕ} → i ≤ length body → Decoding body out Start n i → Further body out out i n i
further_start h w = record { forward = omega arith; inside = h; size = refl; reached = w }

module _ {body out₀ out : List ℕ} {from n i : ℕ} (d : Further body out₀ out from n i) where
  pub further_skip : {j : ℕ} → i ≤ j → j ≤ length body → Outside body i j → Further body out₀ out from n j
  further_skip more h o = record { forward = omega (arith, d.forward); inside = h; size = d.size; reached = decoding_skip d.reached more h o }

  pub further_put : {out' : List ℕ} {k s : ℕ} → Put body out out' n i k s → s < mark → (n' i' : ℕ) → n' ≡ n + 3 * k → i' ≡ i + 4 * k → Further body out₀ out' from n' i'
  further_put p small n' i' en ei = record {
    forward = omega (arith, d.forward);
    inside = omega (arith, p.stands);
    size = p.size ∙ d.size;
    reached = rw (en, ei) (decoding_put p small d.reached);
  }

-- ---- lines that are decoded before their body is known

pub decoded_none : (text out : List ℕ) (i : ℕ) → Decoded (between text i i) out 0
unfolding characters
decoded_none text out i =
    let none : i - i ≡ 0 = omega arith in
    record { groups = 0; counted = rw none; size = omega arith; written = rw none }

-- The characters of a line more.
line_characters : (text : List ℕ) (i j m l : ℕ) → i ≤ j → j + m ≤ l → l ≤ length text → Characters text j (j + m) → Outside text (j + m) l
    → characters (between text i l) ≡ characters (between text i j) ++ take m (drop j text)
line_characters text i j m l h more inside a o =
    let place : j + m + (l - (j + m)) ≡ l = omega arith in
    let behind : characters (take (l - (j + m)) (drop (j + m) text)) ≡ [] = outside_characters (l - (j + m)) text (j + m) (omega arith) (rw place o) in
    let first : j + m - j ≡ m = omega arith in
    let line : between text j l ≡ take m (drop j text) ++ between text (j + m) l =
    between_join text j (j + m) l (omega arith) more ∙ ap (λ (n : ℕ). take n (drop j text) ++ between text (j + m) l) first in
    ap characters (between_join text i j l h (omega arith) ∙ ap (λ (x : List ℕ). between text i j ++ x) line)
    ∙ characters_append (between text i j) (take m (drop j text) ++ between text (j + m) l)
    ∙ ap (λ (x : List ℕ). characters (between text i j) ++ x) (characters_append (take m (drop j text)) (between text (j + m) l)
    ∙ rw (characters_run m text j (omega arith) a, behind, append-nil))

pub decoded_line : {text out out' : List ℕ} {i j n k s : ℕ} → i ≤ j → Decoded (between text i j) out n → Put text out out' n j k s → s < mark
    → (l : ℕ) → j + 4 * k ≤ l → l ≤ length text → Outside text (j + 4 * k) l → Decoded (between text i l) out' (n + 3 * k)
decoded_line {text} {out} {out'} {i} {j} {n} {k} h d p small l more inside o =
    let a = take (4 * k) (drop j text) in
    let size : length a ≡ 4 * k = run_length (4 * k) text j p.stands in
    let chars = line_characters text i j (4 * k) l h more inside (p.inside small) o in
    record {
      groups = d.groups + k;
      counted = ap length chars ∙ length-append (characters (between text i j)) a ∙ omega (arith, d.counted, size);
      size = omega (arith, d.size);
      written = p.written small ∙ ap (λ (x : List ℕ). x ++ decode a) d.written ∙ sym (decode_append d.groups (characters (between text i j)) a d.counted) ∙ ap decode (sym chars);
    }

-- ---- a part that was decoded before its body was known

pub decoded_kept : {text out out' part : List ℕ} {n i k s : ℕ} → Put text out out' n i k s → Decoded part out n → Decoded part out' n
decoded_kept p d = record { groups = d.groups; counted = d.counted; size = d.size; written = p.kept ∙ d.written }

-- Lines, and then others.
pub lines_none : (text : List ℕ) (full : Bool) (out : List ℕ) (i : ℕ) → DecodedLines text full out out i i 0 i 0 0
lines_none text full out i = record { size = refl; room = omega arith; lines = no_lines; written = decoded_none text out i }

-- Groups that were written in vain leave them as they were.
pub lines_kept : {text : List ℕ} {full : Bool} {old out out' : List ℕ} {from end groups last lf crlf : ℕ} → DecodedLines text full old out from end groups last lf crlf → {i k s : ℕ}
    → Put text out out' (3 * groups) i k s → DecodedLines text full old out' from end groups last lf crlf
lines_kept d p = record { size = p.size ∙ d.size; room = omega (arith, p.size, d.room); lines = d.lines; written = decoded_kept p d.written }

module _ {text : List ℕ} {old out out' : List ℕ} {from end groups last lf crlf : ℕ} (start : from ≤ length text) where
  -- A full line more.
  pub full_line_more : DecodedLines text true old out from end groups last lf crlf → {s : ℕ} → Put text out out' (3 * groups) end 16 s → s < mark → (w : ℕ) → LfOrCrlf text (end + 64) w
      → DecodedLines text true old out' from (end + 64 + w) (groups + 16) (end + 64) (lf + (2 - w)) (crlf + (w - 1))
  full_line_more d p small w ended =
      let bytes : 3 * groups + 3 * 16 ≡ 3 * (groups + 16) = omega arith in
      record {
        size = p.size ∙ d.size;
        room = omega (arith, p.room, p.size);
        lines = full_more d.lines w (p.inside small) p.stands ended;
        written = rw bytes at (decoded_line (lines_inside start d.lines).forward d.written p small _ (omega arith) (line_end_inside ended) (line_end_outside ended));
      }

  -- A line of any length more.
  pub any_line_more : DecodedLines text false old out from end groups last lf crlf → {n : ℕ} → Put text out out' (3 * groups) end n 0 → 0 < n
      → (b w : ℕ) → end + 4 * n ≤ b → b ≤ length text → Blanks text (end + 4 * n) b → LfOrCrlf text b w
      → DecodedLines text false old out' from (b + w) (groups + n) (end + 4 * n) (lf + (2 - w)) (crlf + (w - 1))
  any_line_more d {n} p some b w more inside blanks ended =
      let bytes : 3 * groups + 3 * n ≡ 3 * (groups + n) = omega arith in
      record {
        size = p.size ∙ d.size;
        room = omega (arith, p.room, p.size);
        lines = line_more d.lines n b w some (p.inside (omega arith)) more inside blanks ended;
        written = rw bytes at (decoded_line (lines_inside start d.lines).forward d.written p (omega arith) _ (omega arith) (line_end_inside ended) (run_then (blanks_outside blanks) (line_end_outside ended)));
      }

-- Full lines, whatever line ends they have: their length tells.
pub record FullDecoded (text old out : List ℕ) (from end groups last : ℕ) : Type 0 where
  pub lf : ℕ
  pub crlf : ℕ
  pub lines : DecodedLines text true old out from end groups last lf crlf

pub decoded_lengths : {text old out : List ℕ} {from end groups last : ℕ} → FullDecoded text old out from end groups last → FullLength from end groups
decoded_lengths d = full_lengths record { lf = d.lf; crlf = d.crlf; lines = d.lines.lines }

pub decoded_told : {text old out : List ℕ} {from end groups last : ℕ} → FullDecoded text old out from end groups last → (r : Lines)
    → (r.end ≡ end) × (r.groups ≡ groups) × (r.last ≡ last) × OfLength from end groups r.lf r.crlf
    → DecodedLines text true old out from r.end r.groups r.last r.lf r.crlf
decoded_told d r e = record {
  size = d.lines.size;
  room = rw e.1 d.lines.room;
  lines = full_told record { lf = d.lf; crlf = d.crlf; lines = d.lines.lines } r e;
  written = rw (e.0, e.1) d.lines.written;
}

-- Of the output that they were decoded into only the length counts.
pub lines_since : {text : List ℕ} {full : Bool} {old out : List ℕ} {from end groups last lf crlf : ℕ} → DecodedLines text full old out from end groups last lf crlf → (older : List ℕ)
    → length old ≡ length older → DecodedLines text full older out from end groups last lf crlf
lines_since d older same = record { size = d.size ∙ same; room = d.room; lines = d.lines; written = d.written }

-- Full lines are lines.
pub full_decoded : {text : List ℕ} {old out : List ℕ} {from end groups last lf crlf : ℕ} → DecodedLines text true old out from end groups last lf crlf
    → DecodedLines text false old out from end groups last lf crlf
full_decoded d = record { size = d.size; room = d.room; lines = full_lines d.lines; written = d.written }

-- The body goes on behind the part.
pub decoded_decoding : {body out : List ℕ} {n j : ℕ} → Decoded (take j body) out n → length (decode (characters body)) ≤ length out → Decoding body out Start n j
decoded_decoding {body} {out} {n} {j} d fits =
    let a = characters (take j body) in
    let split : decode (characters body) ≡ decode a ++ decode (characters (drop j body)) =
    ap (λ (l : List ℕ). decode (characters l)) (sym (take-append-drop j body)) ∙ ap decode (characters_append (take j body) (drop j body)) ∙ decode_append d.groups a _ d.counted in
    let size : length (decode a) ≡ n = length_decode a ∙ rw d.counted (omega (arith, d.size)) in
    record {
      fits = fits;
      holds = tt;
      some = omega (arith, simp length-append at (ap length split), size);
      others = ap (drop n) split ∙ drop_at (decode a) _ n size;
      written = d.written ∙ sym (ap (take n) split ∙ take_at (decode a) _ n size);
    }
