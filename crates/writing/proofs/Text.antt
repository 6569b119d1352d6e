-- What is written is the strict text with line ends of one kind of its label and data, and there is no other. Assumes nothing.
use mathlib.Core.Path.{◌≡◌, refl, sym, ap, subst, ◌∙◌}
use mathlib.Core.Logic.{◌≢◌, inl, inr}
use mathlib.Core.Bool.{Bool, true, false, cond, false≢true}
use mathlib.Core.List.{List, [], ◌∷◌, ◌++◌, append_assoc, append-nil, cons≢nil, head-eq_of_cons-eq}
use Prim.Native.Nat.{ℕ, zero, suc, ◌+◌, ◌*◌, ◌/◌, ◌≤◌}
use native.Mathlib.Omega.{arith}
use lib.Dec.{eqb}
use lib.ListN.{length, replicate, length-append, length-map, length-replicate}
use borrow.Author.Tests.{eqb-false}
use Rattle.base_64.specs.Lists.{All}
use Rattle.base_64.specs.Alphabet.{Octet, AlphabetChar, pad}
use Rattle.base_64.specs.Groups.{to_values, pads_for, chars_of, encode, decode}
use Rattle.base_64.proofs.Lists.{all_append, all_imp}
use Rattle.base_64.proofs.Groups.{chars_alphabet, values_spare, values_counts, counts_pads, values_chars, decode_chars, length_encode}
use Rattle.grammar.specs.Marks.{CR, LF, NoLF, hyphen, begin, end, hyphens, opening, closing, LabelChar, Separator, LabelChars, last, next, separated, Label, empty, chars}
use Rattle.grammar.specs.LineEnds.{line_end, LineEnds, ended, style_of}
use Rattle.grammar.specs.Grammars.{line_chars, StrictLines, StrictBody}
use Rattle.grammar.specs.Message.{Reading, text_of, Shape, characters, pad_count, Consistent, data_of, Message}
use Rattle.grammar.specs.Claims.{chars_then_pads}
use Rattle.grammar.specs.declared.Grammar.TheVariants.{Strict}
use Rattle.grammar.specs.declared.LineEnding.{LineEnding}
use Rattle.grammar.specs.declared.LineStyle.TheVariants.{Only}
use Rattle.grammar.proofs.LineEnds.{Plain, Alike, alike_skip, alike_end, no_lf_more, style_end, nothing_follows, no_ends_lem, last_end, ends_behind_lem}
use Rattle.grammar.proofs.Styles.{style_means}
use Rattle.grammar.proofs.Message.{strict_standard}
use Rattle.grammar.proofs.Claims.{encoded_again}
use Rattle.grammar.proofs.Counts.{characters_append, pads_append, characters_alphabet, pads_alphabet, characters_pads, pads_pads, end_counts}
use Rattle.writing.specs.Text.{in_lines, written_lines, written_text, second_bytes, written_size}
use Rattle.writing.specs.Meaning.{StrictText}
use Rattle.writing.proofs.Lines.{length_lines, line_count, second_add, end_length, characters_lines, pads_lines, char_plain, pad_plain, plain_no_lf, lines_strict, lines_any, lines_no_lf, end_front, strict_lines_written}

-- ---- the characters of data

pub some_length : {A : Type 0} (l : List A) → l ≢ [] → 1 ≤ length l
some_length [] h = absurd (h refl)
some_length (x ∷ l) h = omega arith

written_lines_lem : (s : LineEnding) (d : List ℕ) → d ≢ [] → All Octet d → StrictLines (written_lines s d)
written_lines_lem s d some h =
    let pads = counts_pads (length (to_values d)) (pads_for d) (values_counts d) in
    let count : length (chars_of d) + pads_for d ≡ 4 * ((length d + 2) / 3) = simp (length-append, length-replicate) at (length_encode d) in
    lines_strict s (chars_of d) (pads_for d) line_chars ((length d + 2) / 3) [] tt (chars_alphabet d h)
    pads.1 (omega arith) (omega arith) (omega (arith, some_length d some))

-- ---- the reading of what is written

abbrev pub written_reading : LineEnding → List ℕ → List ℕ → Reading
written_reading s label content =
    record { before = []; opening_label = label; body = line_end s ++ written_lines s content; closing_label = label; after = line_end s }

pub written_joined : (s : LineEnding) (label content : List ℕ) → written_text s label content ≡ text_of (written_reading s label content)
written_joined s label content = ap (λ (x : List ℕ). opening label ++ x) (sym (append_assoc (line_end s) (written_lines s content) (closing label ++ line_end s)))

module _ (s : LineEnding) (label content : List ℕ) (octets : All Octet content) where
  body_characters : characters (written_reading s label content).body ≡ chars_of content
  body_characters =
      characters_append (line_end s) (in_lines s line_chars (encode content))
      ∙ rw ((end_counts (style_end s nothing_follows)).0, characters_lines s (encode content) line_chars, characters_append (chars_of content) (replicate (pads_for content) pad), characters_alphabet (chars_of content) (chars_alphabet content octets), characters_pads (pads_for content), append-nil)

  body_pads : pad_count (written_reading s label content).body ≡ pads_for content
  body_pads =
      pads_append (line_end s) (in_lines s line_chars (encode content))
      ∙ rw ((end_counts (style_end s nothing_follows)).1, pads_lines s (encode content) line_chars, pads_append (chars_of content) (replicate (pads_for content) pad), pads_alphabet (chars_of content) (chars_alphabet content octets), pads_pads (pads_for content)) (omega arith)

  pub written_consistent : Consistent Strict (written_reading s label content)
  written_consistent = record {
    labels = refl;
    counts = rw (body_characters, body_pads, length-map) (values_counts content);
    spare = rw (body_characters, values_chars content octets) (values_spare content);
  }

  pub written_data : data_of (written_reading s label content) ≡ content
  written_data = ap decode body_characters ∙ decode_chars content octets

  module _ (is_label : Label label) (some : content ≢ []) where
    pub written_shape : Shape Strict (written_reading s label content)
    written_shape = record {
      before = refl;
      opening_label = is_label;
      body = StrictBody.strict (line_end s) (written_lines s content) (style_end s (lines_no_lf (written_lines_lem s content some octets))) (written_lines_lem s content some octets);
      closing_label = is_label;
      after = style_end s nothing_follows;
    }

    written_message : Message Strict (written_text s label content) label content
    written_message = record {
      reading = written_reading s label content;
      joined = written_joined s label content;
      shape = written_shape;
      consistent = written_consistent;
      has_label = refl;
      has_data = sym written_data;
    }

-- ---- its line ends are of one kind

label_char_plain : (c : ℕ) → LabelChar c → Plain c
label_char_plain c (inl h) = ((λ e. omega arith), (λ e. omega arith))
label_char_plain c (inr h) = ((λ e. omega arith), (λ e. omega arith))

separator_plain : (c : ℕ) → Separator c → Plain c
separator_plain c (inl h) = ((λ e. omega arith), (λ e. omega arith))
separator_plain c (inr h) = ((λ e. omega arith), (λ e. omega arith))

label_chars_plain : {l : List ℕ} → LabelChars l → All Plain l
label_chars_plain (last h) = (label_char_plain _ h, tt)
label_chars_plain (next h v) = (label_char_plain _ h, label_chars_plain v)
label_chars_plain (separated h s v) = (label_char_plain _ h, (separator_plain _ s, label_chars_plain v))

label_plain : {l : List ℕ} → Label l → All Plain l
label_plain empty = tt
label_plain (chars v) = label_chars_plain v

pads_plain : (p : ℕ) → All Plain (replicate p pad)
pads_plain zero = tt
pads_plain (suc p) = (pad_plain, pads_plain p)

-- The fixed bytes of the boundaries, by a test of each.
abbrev plain : List ℕ → Bool
plain [] = true
plain (c ∷ l) = cond (eqb c CR) false (cond (eqb c LF) false (plain l))

plain_tested : (l : List ℕ) → plain l ≡ true → All Plain l
plain_tested [] e = tt
plain_tested (c ∷ l) e = go (eqb c CR) refl (eqb c LF) refl (plain_tested l) e
  where
    go : (b : Bool) → eqb c CR ≡ b → (d : Bool) → eqb c LF ≡ d → (plain l ≡ true → All Plain l) → cond b false (cond d false (plain l)) ≡ true → All Plain (c ∷ l)
    go true h d g later k = absurd (false≢true k)
    go false h true g later k = absurd (false≢true k)
    go false h false g later k = ((eqb-false c CR h, eqb-false c LF g), later k)

boundary_plain : (word label : List ℕ) → plain word ≡ true → Label label → All Plain (word ++ (label ++ hyphens))
boundary_plain word label e h =
    all_append Plain word (label ++ hyphens) (plain_tested word e) (all_append Plain label hyphens (label_plain h) (plain_tested hyphens refl))

-- The line ends of a text, each of this kind.
record OneKind (s : LineEnding) (text : List ℕ) : Type 0 where
  pub list : List LineEnding
  pub line_ends : LineEnds text list
  pub alike : All (λ t. t ≡ s) list

-- Bytes of no line end, or a line end, in front of a text with line ends of one kind.
kind_skip : (s : LineEnding) (a x : List ℕ) → All Plain a → OneKind s x → OneKind s (a ++ x)
kind_skip s a x h o = record { list = o.list; line_ends = no_ends_lem a h o.line_ends; alike = o.alike }

kind_next : (s : LineEnding) (x : List ℕ) → NoLF x → OneKind s x → OneKind s (line_end s ++ x)
kind_next s x n o = record { list = s ∷ o.list; line_ends = ended s (style_end s n) o.line_ends; alike = (refl, o.alike) }

kind_last : (s : LineEnding) → OneKind s (line_end s)
kind_last s = record { list = s ∷ []; line_ends = last_end s; alike = (refl, tt) }

-- Lines in front of it.
kind_lines : (s : LineEnding) (l : List ℕ) (room : ℕ) (x : List ℕ) → All Plain l → NoLF x → OneKind s x → OneKind s (in_lines s room l ++ x)
unfolding in_lines
kind_lines s [] room x h n o = kind_next s x n o
kind_lines s (c ∷ l) zero x h n o =
    rw (append_assoc (line_end s) (c ∷ in_lines s 63 l) x)
    (kind_next s (c ∷ (in_lines s 63 l ++ x)) (plain_no_lf c _ h.0) (kind_skip s (c ∷ []) (in_lines s 63 l ++ x) (h.0, tt) (kind_lines s l 63 x h.1 n o)))
kind_lines s (c ∷ l) (suc room) x h n o = kind_skip s (c ∷ []) (in_lines s room l ++ x) (h.0, tt) (kind_lines s l room x h.1 n o)

-- Behind a body stands a hyphen.
closing_no_lf : (label x : List ℕ) → NoLF (closing label ++ x)
closing_no_lf label x r q = let k : hyphen ≡ LF = head-eq_of_cons-eq q in omega arith

pub written_strict : (s : LineEnding) (label content : List ℕ) → All Octet content → Label label → content ≢ [] → StrictText s (written_text s label content) label content
written_strict s label content octets is_label some =
    let body : All Plain (encode content) =
    all_append Plain (chars_of content) (replicate (pads_for content) pad)
    (all_imp AlphabetChar Plain char_plain (chars_of content) (chars_alphabet content octets)) (pads_plain (pads_for content)) in
    let strict = written_lines_lem s content some octets in
    let closed : List ℕ = closing label ++ line_end s in
    let behind : OneKind s closed = kind_skip s (closing label) (line_end s) (boundary_plain end label refl is_label) (kind_last s) in
    let lines = kind_lines s (encode content) line_chars closed body (closing_no_lf label (line_end s)) behind in
    record {
      message = written_message s label content octets is_label some;
      list = s ∷ lines.list;
      line_ends = no_ends_lem (opening label) (boundary_plain begin label refl is_label) (ended s (style_end s (no_lf_more (written_lines s content) closed (lines_any strict) (lines_no_lf strict))) lines.line_ends);
      style = style_means.alike s (s ∷ lines.list) cons≢nil (refl, lines.alike);
    }

-- ---- there is no other

-- A strict body with line ends of one kind is that of its characters and pads.
strict_body_written : (s : LineEnding) {b : List ℕ} → StrictBody b → (x : List ℕ) → NoLF x → Alike s (b ++ x)
    → (line_end s ++ in_lines s line_chars (chars_then_pads b) ≡ b) × Alike s x
strict_body_written s (StrictBody.strict e rest he l) x n h =
    let end = alike_end s he (rest ++ x) (no_lf_more rest x (lines_any l)) (rw (append_assoc e rest x) at h) in
    let lines = strict_lines_written s l x n end.1 in
    let same : in_lines s line_chars (chars_then_pads (e ++ rest)) ≡ rest = ap (in_lines s line_chars) (end_front rest he) ∙ lines.0 in
    ((λ i. sym end.0 i ++ same i), lines.1)

-- The line ends of a text of one style, as they are computed.
pub style_alike : (s : LineEnding) {text : List ℕ} {ss : List LineEnding} → LineEnds text ss → style_of ss ≡ Only s → Alike s text
style_alike s {ss = ss} h e = rw (ends_behind_lem h) (style_means.only s ss e)

pub reading_written : (e : LineEnding) (r : Reading) → Shape Strict r → Consistent Strict r → Alike e (text_of r) → r ≡ written_reading e r.opening_label (data_of r)
reading_written e r s c h =
    let closing_part : List ℕ = closing r.closing_label ++ r.after in
    let all : Alike e (opening r.opening_label ++ (r.body ++ closing_part)) = rw s.before at h in
    let from_body : Alike e (r.body ++ closing_part) = alike_skip e (opening r.opening_label) (r.body ++ closing_part) (boundary_plain begin r.opening_label refl s.opening_label) all in
    let written = strict_body_written e s.body closing_part (closing_no_lf r.closing_label r.after) from_body in
    let last : Alike e r.after = alike_skip e (closing r.closing_label) r.after (boundary_plain end r.closing_label refl s.closing_label) written.1 in
    let body : r.body ≡ line_end e ++ in_lines e line_chars (encode (data_of r)) =
    sym written.0 ∙ ap (λ (l : List ℕ). line_end e ++ in_lines e line_chars l) (encoded_again strict_standard r c) in
    let closed : r.closing_label ≡ r.opening_label = sym c.labels in
    let after : r.after ≡ line_end e = (alike_end e s.after [] (λ n. n) (rw (append-nil r.after) last)).0 in
    λ i. record { before = s.before i; opening_label = r.opening_label; body = body i; closing_label = closed i; after = after i }

pub strict_written : (s : LineEnding) (text label content : List ℕ) → StrictText s text label content → text ≡ written_text s label content
strict_written s text label content t =
    let m = t.message in
    let same = reading_written s m.reading m.shape m.consistent (subst (Alike s) m.joined (style_alike s t.line_ends t.style)) in
    let is_label : m.reading.opening_label ≡ label = sym m.has_label in
    let is_data : data_of m.reading ≡ content = sym m.has_data in
    m.joined ∙ ap text_of same ∙ sym (written_joined s m.reading.opening_label (data_of m.reading)) ∙ λ i. written_text s (is_label i) (is_data i)

-- ---- its length

pub length_written : (s : LineEnding) (label content : List ℕ) → content ≢ [] → length (written_text s label content) ≡ written_size s (length label) (length content)
length_written s label content some =
    let chars : length (encode content) ≡ 4 * ((length content + 2) / 3) = length_encode content in
    let count : line_count line_chars (length (encode content)) ≡ (length content + 47) / 48 = omega (arith, some_length content some) in
    let lines : length (in_lines s line_chars (encode content)) ≡ length (encode content) + ((length content + 47) / 48 + second_bytes s ((length content + 47) / 48)) = rw count at (length_lines s (encode content) line_chars (omega arith)) in
    let two : second_bytes s 2 ≡ second_bytes s 1 + second_bytes s 1 = second_add s 1 1 in
    let all : second_bytes s ((length content + 47) / 48 + 2) ≡ second_bytes s ((length content + 47) / 48) + second_bytes s 2 = second_add s ((length content + 47) / 48) 2 in
    simp length-append (omega (arith, end_length s, lines, chars, two, all))
