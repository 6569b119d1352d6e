-- What demands 2 and 3 say of the index call holds. Assumes nothing.
use mathlib.Core.Path.{◌≡◌, refl, sym, ap, ◌∙◌, subst}
use mathlib.Core.Bool.{Bool, true, false}
use mathlib.Core.List.{List, [], ◌∷◌, ◌++◌, map, append_assoc, append-nil}
use Prim.Native.Nat.{ℕ, ◌+◌, ◌-◌, ◌≤◌, ◌<◌}
use lib.Dec.{ltb}
use lib.ListN.{length, take, replicate}
use native.Mathlib.Omega.{arith}
use borrow.Author.Tests.{ltb-true, ltb-false}
use Rattle.base_64.specs.Lists.{All}
use Rattle.base_64.proofs.Lists.{all_front, all_imp, all_map}
use Rattle.grammar.specs.Grammars.{grammar_of}
use Rattle.grammar.specs.Message.{Reading, Consistent}
use Rattle.grammar.specs.Bundle.{joined_text, Shapes, Item, item_of, table_of}
use Rattle.grammar.specs.declared.Grammar.{Grammar}
use Rattle.std.specs.Prelude.{Some, Ok, Err}
use Rattle.grammar.proofs.Bundle.{front_shapes, readings_unique}
use Rattle.machine.proofs.Bundles.{joined_append}
use Rattle.reading.specs.Answers.{offset}
use Rattle.reading.specs.Limits.{text_limit, label_limit}
use Rattle.reading.specs.Meaning as rows
use Rattle.reading.specs.Meaning.{label_start, Sound}
use Rattle.reading.specs.declared.Refusal.TheVariants.{TextTooLong, LabelTooLong}
use Rattle.reading.specs.Claims.{GrammarRefusalNumber}
use Rattle.reading.proofs.Whole.{front_same}
use Rattle.reading.proofs.Judgements.{part_fails}
use Rattle.reading.proofs.Results.{refusal_some}
use Rattle.reading.proofs.Claims.{grammar_fails_lem, not_admitted_number, message_fails_number}
use Rattle.indexing.specs.Answers.{size_for, table_size, number_of, place_of, size_of, IndexAnswer}
use Rattle.indexing.specs.Meaning as meaning
use Rattle.indexing.specs.Meaning.{Whole, AllWhole, Broken, Passed, Indexes}
use Rattle.indexing.specs.Index.{index_of, lent_table}
use Rattle.indexing.specs.Claims.{BrokenBundle, BundlePlace, Alike, AnswersZero, Indexable, ZeroExactly}
use Rattle.output.specs.declared.CallError.TheVariants.{Refused, TooSmall}
use Rattle.indexing.proofs.Entries.{table_size_lem}
use Rattle.indexing.proofs.Whole.{unextended_end, unextended_all_whole}
use Rattle.indexing.proofs.Meaning.{broken_tells, index_means, indexes_index}

-- ---- The place of a grammar refusal

pub bundle_place : BundlePlace
bundle_place = record { only = λ text number room. only text number room _ _ (index_means text number room); always = always }
  where
    only : (text : List ℕ) (number room : ℕ) (a : IndexAnswer) (t : List ℕ) → Indexes text number room a t → GrammarRefusalNumber (number_of a) → BrokenBundle text number (place_of a)
    only text number room a t (meaning.accepted g rs p f) n = absurd (omega (arith, n))
    only text number room a t (meaning.refused {refusal} (meaning.not_admitted f)) n = absurd (not_admitted_number text number refusal f n)
    only text number room a t (meaning.refused {refusal} (meaning.grammar_fails g rs rest k b f)) n =
        subst (BrokenBundle text number) (sym (grammar_fails_lem g (take k rest) (length (joined_text rs) + k) refusal f).1)
        record { grammar = g; admitted = b.judged.admitted; none = b.none; longest = b.longest }
    only text number room a t (meaning.refused {refusal} (meaning.message_fails g rs r rest j s w f)) n = absurd (message_fails_number g (length (joined_text rs)) r refusal f n)
    only text number room a t (meaning.table_too_small g rs p f) n = absurd (omega (arith, n))

    always : (text : List ℕ) (number room : ℕ) (g : Grammar) (rs : List Reading) (rest : List ℕ) (k : ℕ) → Broken text number g rs rest k
        → GrammarRefusalNumber (number_of (index_of text number room))
    always text number room g rs rest k b =
        let (_, tells) = broken_tells text number g rs rest k b in
        let f = part_fails g (take k rest) (length (joined_text rs) + k) _ tells in
        let given = indexes_index text number room _ _ (meaning.refused (meaning.grammar_fails g rs rest k b f)) in
        subst (λ (a : IndexAnswer). GrammarRefusalNumber (number_of a)) given.0 (grammar_fails_lem g (take k rest) (length (joined_text rs) + k) _ f).0

-- ---- Alike

abbrev Short : Reading → Type 0
Short r = length r.opening_label ≤ label_limit

-- All labels are short, or there is a first that is not.
data Labels : List Reading → Type 0 where
  short : (rs : List Reading) → All Short rs → Labels rs
  long : (a : List Reading) (r : Reading) (c : List Reading) → All Short a → label_limit < length r.opening_label → Labels (a ++ (r ∷ c))

labels : (rs : List Reading) → Labels rs
labels [] = short [] tt
labels (r ∷ rs) = go (ltb label_limit (length r.opening_label)) refl rs (labels rs)
  where
    go : (b : Bool) → ltb label_limit (length r.opening_label) ≡ b → (rs : List Reading) → Labels rs → Labels (r ∷ rs)
    go true e rs l = long [] r rs tt (ltb-true _ _ e)
    go false e rs (short qs h) = short (r ∷ qs) (ltb-false _ _ e, h)
    go false e rs (long a s c h k) = long (r ∷ a) s c (ltb-false _ _ e, h) k

sounds : (g : Grammar) (rs : List Reading) → All Short rs → All (Consistent g) rs → All (Sound g) rs
sounds g [] h k = tt
sounds g (r ∷ rs) h k = (record { short_label = h.0; consistent = k.0 }, sounds g rs h.1 k.1)

-- The messages at the front of a bundle are whole, and so is the next.
whole_front : (g : Grammar) (a b : List Reading) (x : List ℕ) → AllWhole g (a ++ b) x → AllWhole g a (joined_text b ++ x)
whole_front g [] b x w = tt
whole_front g (r ∷ a) b x w =
    (subst (Whole g r) (ap (λ l. l ++ x) (joined_append a b) ∙ append_assoc (joined_text a) (joined_text b) x) w.0, whole_front g a b x w.1)

whole_back : (g : Grammar) (a b : List Reading) (x : List ℕ) → AllWhole g (a ++ b) x → AllWhole g b x
whole_back g [] b x w = w
whole_back g (r ∷ a) b x w = whole_back g a b x w.1

-- The one answer and table that a text of these messages gets, whatever grammar accepts them.
record One (text : List ℕ) (rs : List Reading) (room : ℕ) : Type 0 where
  reply : IndexAnswer
  table : List ℕ
  given : (number : ℕ) (g : Grammar) → grammar_of number ≡ Some g → text ≡ joined_text rs → Shapes g rs → All (Consistent g) rs
      → Indexes text number room reply table

one_long : (text : List ℕ) (rs : List Reading) (room : ℕ) → text_limit < length text → One text rs room
one_long text rs room h =
    record {
      reply = Err (Refused TextTooLong);
      table = replicate room 0;
      given = λ number g k e m c. meaning.refused (meaning.not_admitted (rows.text_too_long g k h));
    }

one_short : (text : List ℕ) (rs : List Reading) (room : ℕ) → length text ≤ text_limit → Labels rs → (b : Bool) → ltb room (size_for (length rs)) ≡ b
    → One text rs room
one_short text _ room h (short rs s) true e =
    record {
      reply = Err (TooSmall (table_size (size_for (length rs))));
      table = replicate room 0;
      given = λ number g k j m c. meaning.table_too_small g rs record { admitted = record { known = k; short = h }; joined = j; shapes = m; sound = sounds g rs s c } (ltb-true _ _ e);
    }
one_short text _ room h (short rs s) false e =
    record {
      reply = Ok (table_size (size_for (length rs)));
      table = table_of rs ++ replicate (room - size_for (length rs)) 0;
      given = λ number g k j m c. meaning.accepted g rs record { admitted = record { known = k; short = h }; joined = j; shapes = m; sound = sounds g rs s c } (ltb-false _ _ e);
    }
one_short text rs room h (long a r c s l) b e =
    record { reply = Err (Refused (LabelTooLong (offset (length (joined_text a) + label_start r)))); table = replicate room 0; given = given }
  where
    given : (number : ℕ) (g : Grammar) → grammar_of number ≡ Some g → text ≡ joined_text (a ++ (r ∷ c)) → Shapes g (a ++ (r ∷ c))
        → All (Consistent g) (a ++ (r ∷ c))
        → Indexes text number room (Err (Refused (LabelTooLong (offset (length (joined_text a) + label_start r))))) (replicate room 0)
    given number g k j m n =
        let whole : AllWhole g (a ++ (r ∷ c)) [] = unextended_all_whole g (a ++ (r ∷ c)) [] m (unextended_end g (a ++ (r ∷ c))) in
        meaning.refused
        (meaning.message_fails g a r (joined_text c)
        record {
          admitted = record { known = k; short = h };
          joined = j ∙ joined_append a (r ∷ c);
          shapes = front_shapes g a (r ∷ c) m;
          whole = subst (AllWhole g a) (append-nil (joined_text (r ∷ c))) (whole_front g a (r ∷ c) [] whole);
          sound = sounds g a s (all_front (Consistent g) a (r ∷ c) n);
        }
        (front_shapes g (a ++ (r ∷ [])) c (subst (Shapes g) (sym (append_assoc a (r ∷ []) c)) m))
        (subst (Whole g r) (append-nil (joined_text c)) (whole_back g a (r ∷ c) [] whole).0)
        (rows.label_too_long l))

one : (text : List ℕ) (rs : List Reading) (room : ℕ) → One text rs room
one text rs room = go (ltb text_limit (length text)) refl
  where
    go : (b : Bool) → ltb text_limit (length text) ≡ b → One text rs room
    go true e = one_long text rs room (ltb-true _ _ e)
    go false e = one_short text rs room (ltb-false _ _ e) (labels rs) (ltb room (size_for (length rs))) refl

pub alike : Alike
alike text m n room a b =
    let same : a.bundle.readings ≡ b.bundle.readings = readings_unique a.grammar b.grammar a.bundle.readings b.bundle.readings a.bundle.shapes b.bundle.shapes (sym a.bundle.joined ∙ b.bundle.joined) in
    let o : One text a.bundle.readings room = one text a.bundle.readings room in
    let x = indexes_index text m room o.reply o.table (o.given m a.grammar a.known a.bundle.joined a.bundle.shapes a.bundle.consistent) in
    let y = indexes_index text n room o.reply o.table
    (o.given n b.grammar b.known a.bundle.joined (subst (Shapes b.grammar) (sym same) b.bundle.shapes) (subst (All (Consistent b.grammar)) (sym same) b.bundle.consistent)) in
    (sym x.0 ∙ y.0, sym x.1 ∙ y.1)

-- ---- Zero exactly when

-- Labels of the messages and of their items.
labels_short : (rs : List Reading) → All (λ (i : Item). length i.label ≤ label_limit) (map item_of rs) → All Short rs
labels_short [] h = tt
labels_short (r ∷ rs) h = (h.0, labels_short rs h.1)

-- Messages that passed, with room, are indexed with their table,
passed_zero : (text : List ℕ) (number room : ℕ) (g : Grammar) (rs : List Reading) → Passed text number g rs → size_for (length rs) ≤ room
    → AnswersZero text number room (table_of rs)
passed_zero text number room g rs p h =
    let x = indexes_index text number room _ _ (meaning.accepted g rs p h) in
    record {
      zero = sym (ap number_of x.0);
      size = sym (ap size_of x.0) ∙ sym (table_size_lem rs);
      held = sym x.1 ∙ ap (λ n. table_of rs ++ replicate (room - n) 0) (sym (table_size_lem rs));
    }

-- and only they are.
record Indexed (text : List ℕ) (number room : ℕ) : Type 0 where
  grammar : Grammar
  readings : List Reading
  passed : Passed text number grammar readings
  fits : size_for (length readings) ≤ room

zero_indexed : (text : List ℕ) (number room : ℕ) → number_of (index_of text number room) ≡ 0 → Indexed text number room
zero_indexed text number room z = go (index_of text number room) (lent_table text number room) (index_means text number room) z
  where
    go : (a : IndexAnswer) (t : List ℕ) → Indexes text number room a t → number_of a ≡ 0 → Indexed text number room
    go a t (meaning.accepted g rs p h) z = record { grammar = g; readings = rs; passed = p; fits = h }
    go a t (meaning.refused {refusal} f) z = absurd (refusal_some refusal z)
    go a t (meaning.table_too_small g rs p h) z = absurd (omega (arith, z))

indexed_table : (text : List ℕ) (number room : ℕ) (table : List ℕ) → AnswersZero text number room table → (i : Indexed text number room)
    → table ≡ table_of i.readings
indexed_table text number room table z i =
    let q = passed_zero text number room i.grammar i.readings i.passed i.fits in
    front_same table _ (table_of i.readings) _ (sym z.held ∙ q.held) (sym z.size ∙ q.size)

pub zero_exactly : ZeroExactly
zero_exactly = record { only = only; always = always; some = some }
  where
    only : (text : List ℕ) (number room : ℕ) (table : List ℕ) → AnswersZero text number room table → Indexable text number room table
    only text number room table z =
        let i = zero_indexed text number room z.zero in
        let e : table ≡ table_of i.readings = indexed_table text number room table z i in
        record {
          grammar = i.grammar;
          known = i.passed.admitted.known;
          list = map item_of i.readings;
          bundle =
              record {
                readings = i.readings;
                joined = i.passed.joined;
                shapes = i.passed.shapes;
                consistent = all_imp (Sound i.grammar) (Consistent i.grammar) (λ r s. s.consistent) i.readings i.passed.sound;
                has_list = refl;
                has_table = e;
              };
          short_labels = all_map item_of (Sound i.grammar) (λ (j : Item). length j.label ≤ label_limit) (λ r s. s.short_label) i.readings i.passed.sound;
          short = i.passed.admitted.short;
          fits = omega (arith, ap length e ∙ table_size_lem i.readings, i.fits);
        }

    always : (text : List ℕ) (number room : ℕ) (table : List ℕ) → Indexable text number room table → AnswersZero text number room table
    always text number room table i =
        let rs : List Reading = i.bundle.readings in
        let p : Passed text number i.grammar rs = record {
          admitted = record { known = i.known; short = i.short };
          joined = i.bundle.joined;
          shapes = i.bundle.shapes;
          sound = sounds i.grammar rs (labels_short rs (subst (All (λ (j : Item). length j.label ≤ label_limit)) i.bundle.has_list i.short_labels)) i.bundle.consistent;
        } in
        subst (AnswersZero text number room) (sym i.bundle.has_table)
        (passed_zero text number room i.grammar rs p (omega (arith, i.fits, ap length i.bundle.has_table ∙ table_size_lem rs)))

    some : (text : List ℕ) (number room : ℕ) → number_of (index_of text number room) ≡ 0 → (table : List ℕ) × AnswersZero text number room table
    some text number room z =
        let i = zero_indexed text number room z in
        (table_of i.readings, passed_zero text number room i.grammar i.readings i.passed i.fits)
