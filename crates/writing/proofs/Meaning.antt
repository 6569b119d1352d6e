-- What the call's definition answers is what the requirements' rows say, and the rows leave one answer only. Assumes nothing.
use mathlib.Core.Path.{◌≡◌, refl, sym, ap, subst, ◌∙◌}
use mathlib.Core.Logic.{◌≢◌}
use mathlib.Core.Bool.{Bool, true, false, cond, true≢false, false≢true}
use mathlib.Core.List.{List, [], ◌∷◌, ◌++◌}
use Prim.Native.Nat.{ℕ, ◌-◌, ◌≤◌, ◌<◌}
use lib.Dec.{ltb}
use lib.ListN.{length, replicate}
use native.Mathlib.Omega.{arith}
use borrow.Author.Tests.{eqb-true, eqb-false, ltb-true, ltb-false, lt-ltb, le-ltb, ne_eqb}
use Rattle.base_64.specs.Lists.{All}
use Rattle.base_64.specs.Alphabet.{Octet}
use Rattle.grammar.specs.Marks.{Label}
use Rattle.grammar.specs.LineEnds.{line_ending_of}
use Rattle.grammar.specs.declared.LineEnding.{LineEnding}
use Rattle.std.specs.Prelude.{Option, Some, None, Ok, Err, is_err}
use Rattle.output.specs.declared.CallError.{CallError}
use Rattle.output.specs.declared.CallError.TheVariants.{TooSmall}
use Rattle.machine.proofs.Labels.{test_label, label_test}
use Rattle.reading.specs.Limits.{label_limit}
use Rattle.writing.specs.Limits.{data_limit}
use Rattle.writing.specs.Answers.{WriteAnswer, text_size}
use Rattle.writing.specs.Text.{written_text, written_size}
use Rattle.writing.specs.Meaning as rows
use Rattle.writing.specs.Meaning.{Refuses, Takes, Writes}
use Rattle.writing.specs.Write.{long_label, is_label, no_data, long_data, Judgement, styled, judge_of, too_small, answered, write_of, filled, write_output}
use Rattle.writing.specs.declared.Taken.{Taken}
use Rattle.writing.specs.declared.TextSize.{TextSize}
use Rattle.writing.specs.declared.WriteRefusal.{WriteRefusal}
use Rattle.writing.proofs.Text.{written_strict, strict_written, length_written}

-- ---- Checks 11 to 14 and 20

-- The judgement of a label and data that the writer takes.
abbrev pub taken : LineEnding → List ℕ → List ℕ → Taken
taken s label content = record { ending = s; size = text_size (written_size s (length label) (length content)) }

no_length : {A : Type 0} (l : List A) → length l ≡ 0 → l ≡ []
no_length [] e = refl
no_length (x ∷ l) e = absurd (omega arith)

pub data Judged (label content : List ℕ) (number : ℕ) : Judgement → Type 0 where
  takes : (s : LineEnding) → Takes label content → line_ending_of number ≡ Some s → Judged label content number (Ok (taken s label content))
  refuses : {refusal : WriteRefusal} → Refuses label content number refusal → Judged label content number (Err refusal)

-- What the tests tell.
long_label_lem : (label : List ℕ) → long_label label ≡ true → label_limit < length label
long_label_lem label e = omega (arith, ltb-true)

short_label : (label : List ℕ) → long_label label ≡ false → length label ≤ label_limit
short_label label e = omega (arith, ltb-false)

no_data_lem : (content : List ℕ) → no_data content ≡ true → content ≡ []
no_data_lem content e = no_length content (omega (arith, eqb-true))

some_data : (content : List ℕ) → no_data content ≡ false → content ≢ []
some_data content e n = eqb-false _ _ e (ap length n)

long_data_lem : (content : List ℕ) → long_data content ≡ true → data_limit < length content
long_data_lem content e = omega (arith, ltb-true)

short_data : (content : List ℕ) → long_data content ≡ false → length content ≤ data_limit
short_data content e = omega (arith, ltb-false)

too_small_lem : (room n : ℕ) → room < n → too_small room n ≡ true
too_small_lem room n h = go (too_small room n) refl
  where
    go : (b : Bool) → too_small room n ≡ b → b ≡ true
    go true e = refl
    go false e = absurd (omega (arith, ltb-false))

roomy : (room n : ℕ) → n ≤ room → too_small room n ≡ false
roomy room n h = go (too_small room n) refl
  where
    go : (b : Bool) → too_small room n ≡ b → b ≡ false
    go true e = absurd (omega (arith, ltb-true))
    go false e = refl

-- By a test: what holds of both answers holds of the one that it picks.
by_test : {A : Type 0} (P : A → Type 0) (b : Bool) (x y : A) → (b ≡ true → P x) → (b ≡ false → P y) → P (cond b x y)
by_test P true x y f g = f refl
by_test P false x y f g = g refl

pub judge_means : (label content : List ℕ) (number : ℕ) → Judged label content number (judge_of label content number)
judge_means label content number =
    by_test J _ _ _
    (λ long. refuses (rows.label_too_long (long_label_lem label long)))
    (λ short. by_test J _ _ _
    (λ is_label. by_test J _ _ _
    (λ none. refuses (rows.no_data (short_label label short) (test_label label is_label) (no_data_lem content none)))
    (λ some. by_test J _ _ _
    (λ long. refuses (rows.data_too_long (short_label label short) (test_label label is_label) (long_data_lem content long)))
    (λ few. by_style (line_ending_of number) refl record {
      short_label = short_label label short;
      is_label = test_label label is_label;
      some_data = some_data content some;
      short_data = short_data content few;
    })))
    (λ no. refuses (rows.not_aLabel (short_label label short) (λ h. true≢false (sym (label_test h) ∙ no)))))
  where
    J : Judgement → Type 0
    J = Judged label content number

    by_style : (n : Option LineEnding) → line_ending_of number ≡ n → Takes label content → J (styled n label content)
    by_style None e t = refuses (rows.unknown_style t e)
    by_style (Some s) e t = takes s t e

-- Each row leaves one judgement only.
taken_judge : (label content : List ℕ) (number : ℕ) → Takes label content → judge_of label content number ≡ styled (line_ending_of number) label content
taken_judge label content number t =
    let some : length content ≢ 0 = λ e. t.some_data (no_length content e) in
    rw (le-ltb label_limit (length label) t.short_label, label_test t.is_label, ne_eqb (length content) 0 some, le-ltb data_limit (length content) t.short_data)

pub takes_judge : (s : LineEnding) (label content : List ℕ) (number : ℕ) → Takes label content → line_ending_of number ≡ Some s
    → judge_of label content number ≡ Ok (taken s label content)
takes_judge s label content number t e = taken_judge label content number t ∙ ap (λ n. styled n label content) e

-- The size that was judged is the text's length.
pub taken_size : (label content : List ℕ) (number : ℕ) (t : Taken) → judge_of label content number ≡ Ok t
    → t.size.0 ≡ length (written_text t.ending label content)
taken_size label content number a e = go (judge_of label content number) (judge_means label content number) e
  where
    go : (j : Judgement) → Judged label content number j → j ≡ Ok a → a.size.0 ≡ length (written_text a.ending label content)
    go j (takes u t k) e =
        let same : taken u label content ≡ a = cc in
        subst (λ b. b.size.0 ≡ length (written_text b.ending label content)) same (sym (length_written u label content t.some_data))
    go j (refuses f) e =
        let z : ◌≡◌ {A = ℕ} 0 1 = cc in
        absurd (omega arith)

not_label : (label : List ℕ) (b : Bool) → is_label label ≡ b → ¬ Label label → b ≡ false
not_label label true e h = absurd (h (test_label label e))
not_label label false e h = refl

pub refuses_judge : (label content : List ℕ) (number : ℕ) (refusal : WriteRefusal) → Refuses label content number refusal
    → judge_of label content number ≡ Err refusal
refuses_judge label content number refusal (rows.label_too_long h) = rw (lt-ltb label_limit (length label) h)
refuses_judge label content number refusal (rows.not_aLabel s h) = rw (le-ltb label_limit (length label) s, not_label label (is_label label) refl h)
refuses_judge label content number refusal (rows.no_data s l e) = rw (le-ltb label_limit (length label) s, label_test l, e)
refuses_judge label content number refusal (rows.data_too_long s l h) =
    let some : length content ≢ 0 = λ e. omega arith in
    rw (le-ltb label_limit (length label) s, label_test l, ne_eqb (length content) 0 some, lt-ltb data_limit (length content) h)
refuses_judge label content number refusal (rows.unknown_style t e) = taken_judge label content number t ∙ ap (λ n. styled n label content) e

-- ---- The answer and the output

-- What a test picks.
picks_first : {A : Type 0} (b : Bool) (x y : A) → b ≡ true → cond b x y ≡ x
picks_first b x y e = rw e

picks_second : {A : Type 0} (b : Bool) (x y : A) → b ≡ false → cond b x y ≡ y
picks_second b x y e = rw e

-- With room and without, of a text of the size that was judged.
room_answer : (s : LineEnding) (label content : List ℕ) (n room : ℕ) → n ≡ length (written_text s label content) → length (written_text s label content) ≤ room
    → (answered (Ok record { ending = s; size = text_size n }) room ≡ Ok (text_size (length (written_text s label content))))
    × (filled (Ok record { ending = s; size = text_size n }) label content room ≡ written_text s label content ++ replicate (room - length (written_text s label content)) 0)
room_answer s label content n room e h =
    let some : too_small room (length (written_text s label content)) ≡ false = roomy room (length (written_text s label content)) h in
    rw e (picks_second _ _ _ some, picks_second _ _ _ some)

small_answer : (s : LineEnding) (label content : List ℕ) (n room : ℕ) → n ≡ length (written_text s label content) → room < length (written_text s label content)
    → (answered (Ok record { ending = s; size = text_size n }) room ≡ Err (TooSmall (text_size (length (written_text s label content)))))
    × (filled (Ok record { ending = s; size = text_size n }) label content room ≡ replicate room 0)
small_answer s label content n room e h =
    let none : too_small room (length (written_text s label content)) ≡ true = too_small_lem room (length (written_text s label content)) h in
    rw e (picks_first _ _ _ none, picks_first _ _ _ none)

-- What is written of a label and data that the writer takes.
pub takes_answer : (s : LineEnding) (label content : List ℕ) (number room : ℕ) → Takes label content → line_ending_of number ≡ Some s
    → length (written_text s label content) ≤ room
    → (write_of label content number room ≡ Ok (text_size (length (written_text s label content))))
    × (write_output label content number room ≡ written_text s label content ++ replicate (room - length (written_text s label content)) 0)
takes_answer s label content number room t k h =
    let w = room_answer s label content _ room (sym (length_written s label content t.some_data)) h in
    let j = takes_judge s label content number t k in
    (ap (λ x. answered x room) j ∙ w.0, ap (λ x. filled x label content room) j ∙ w.1)

takes_small : (s : LineEnding) (label content : List ℕ) (number room : ℕ) → Takes label content → line_ending_of number ≡ Some s
    → room < length (written_text s label content)
    → (write_of label content number room ≡ Err (TooSmall (text_size (length (written_text s label content)))))
    × (write_output label content number room ≡ replicate room 0)
takes_small s label content number room t k h =
    let w = small_answer s label content _ room (sym (length_written s label content t.some_data)) h in
    let j = takes_judge s label content number t k in
    (ap (λ x. answered x room) j ∙ w.0, ap (λ x. filled x label content room) j ∙ w.1)

-- What `write` is defined to answer and to write is what the rows say. The data that a call can be given are octets.
pub write_means : (label content : List ℕ) (number room : ℕ) → All Octet content
    → Writes label content number room (write_of label content number room) (write_output label content number room)
write_means label content number room octets = go (judge_of label content number) refl (judge_means label content number)
  where
    fits : (s : LineEnding) → Takes label content → line_ending_of number ≡ Some s → (b : Bool) → ltb room (length (written_text s label content)) ≡ b
        → Writes label content number room (write_of label content number room) (write_output label content number room)
    fits s t k true e =
        let w = takes_small s label content number room t k (ltb-true _ _ e) in
        rw (w.0, w.1) (rows.output_too_small s (written_text s label content) t k (written_strict s label content octets t.is_label t.some_data) (ltb-true _ _ e))
    fits s t k false e =
        let w = takes_answer s label content number room t k (ltb-false _ _ e) in
        rw (w.0, w.1) (rows.accepted s (written_text s label content) t k (written_strict s label content octets t.is_label t.some_data) (ltb-false _ _ e))

    go : (j : Judgement) → judge_of label content number ≡ j → Judged label content number j
        → Writes label content number room (write_of label content number room) (write_output label content number room)
    go j e (takes s t k) = fits s t k (ltb room (length (written_text s label content))) refl
    go j e (refuses f) = rw e (rows.refused f)

-- Any other answer than 0 leaves zeros.
pub err_zeros : (label content : List ℕ) (number room : ℕ) → is_err (write_of label content number room) ≡ true → write_output label content number room ≡ replicate room 0
err_zeros label content number room e = go (judge_of label content number) e
  where
    small : (b : Bool) (size : TextSize) (l : List ℕ) → is_err {T = TextSize} {E = CallError WriteRefusal TextSize} (cond b (Err (TooSmall size)) (Ok size)) ≡ true → cond b (replicate room 0) l ≡ replicate room 0
    small true size l e = refl
    small false size l e = absurd (false≢true e)

    go : (j : Judgement) → is_err (answered j room) ≡ true → filled j label content room ≡ replicate room 0
    go (Err r) e = refl
    go (Ok t) e = small (too_small room t.size.0) t.size _ e

-- The rows leave no other answer and no other output.
pub writes_write : (label content : List ℕ) (number room : ℕ) (a : WriteAnswer) (o : List ℕ) → Writes label content number room a o
    → (a ≡ write_of label content number room) × (o ≡ write_output label content number room)
writes_write label content number room a o (rows.accepted s text t k u h) =
    let same = strict_written s text label content u in
    let w = takes_answer s label content number room t k (rw same at h) in
    rw same (sym w.0, sym w.1)
writes_write label content number room a o (rows.refused {refusal} f) =
    let j = refuses_judge label content number refusal f in
    (sym (ap (λ x. answered x room) j), sym (ap (λ x. filled x label content room) j))
writes_write label content number room a o (rows.output_too_small s text t k u h) =
    let same = strict_written s text label content u in
    let w = takes_small s label content number room t k (rw same at h) in
    rw same (sym w.0, sym w.1)

pub writes_unique : (label content : List ℕ) (number room : ℕ) (a b : WriteAnswer) (o p : List ℕ) → Writes label content number room a o
    → Writes label content number room b p → (a ≡ b) × (o ≡ p)
writes_unique label content number room a b o p h k =
    let x = writes_write label content number room a o h in
    let y = writes_write label content number room b p k in
    (x.0 ∙ sym y.0, x.1 ∙ sym y.1)
