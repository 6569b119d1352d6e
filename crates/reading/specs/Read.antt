-- What `read` and `label` answer, as functions of the text, the grammar's number and the output's length alone, check by
-- check in the requirements' order. Assumes nothing. None of this has to be believed: see `Meaning`.
use Rattle.std.specs.Prelude.{Bool, true, false, cond, List, [], ◌++◌, ℕ, ◌*◌, ◌-◌, ◌/◌, ◌%◌, eqb, ltb, length, get_or, replicate, Option, Some, None, Result, Ok, Err}
use Rattle.base_64.specs.Lists.{same_bytes}
use Rattle.base_64.specs.Alphabet.{value_of}
use Rattle.base_64.specs.Groups.{decode}
use Rattle.grammar.specs.Grammars.{grammar_of}
use Rattle.grammar.specs.Families.{family_of}
use Rattle.grammar.specs.Message.{characters}
use Rattle.grammar.specs.declared.Grammar.{Grammar}
use Rattle.grammar.specs.declared.Grammar.TheVariants.{Lax, Standard, Strict}
use Rattle.output.specs.declared.CallError.TheVariants.{Refused, TooSmall}
use Rattle.machine.proofs.Machine.{start, part_of, accepting}
use Rattle.machine.specs.declared.Part.{Part}
use Rattle.machine.specs.declared.Part.TheVariants as part
use Rattle.reading.specs.Answers.{offset, byte_count, ReadAnswer}
use Rattle.reading.specs.Limits.{text_limit, label_limit}
use Rattle.reading.specs.Data.{spare_of}
use Rattle.reading.specs.Layouts.{spanned, layout_of, last_at}
use Rattle.reading.specs.Ends.{counted_style}
use Rattle.reading.specs.Scan.{no_tally, scan_of}
use Rattle.reading.specs.declared.Found.{Found}
use Rattle.reading.specs.declared.Layout.{Layout}
use Rattle.reading.specs.declared.Refusal.{Refusal}
use Rattle.reading.specs.declared.Refusal.TheVariants.{UnknownGrammar, TextTooLong, BadOpening, BadBody, BadClosing, LabelTooLong, LabelsDiffer, BadCounts, SpareBits}
use Rattle.reading.specs.declared.Scan.{Scan}
use Rattle.reading.specs.declared.Sound.{Sound}
use Rattle.reading.specs.declared.Tally.{Tally}

-- The outcome of checks: what is known of a message that passed them, or the first refusal.
abbrev pub Judgement : Type 0
Judgement = Result Sound Refusal

-- ---- Checks 3 to 5

abbrev pub grammar_refusal : Part → ℕ → Refusal
grammar_refusal part.Before n = BadOpening (offset n)
grammar_refusal part.Opening n = BadOpening (offset n)
grammar_refusal part.Body n = BadBody (offset n)
grammar_refusal part.Closing n = BadClosing (offset n)
grammar_refusal part.After n = BadClosing (offset n)

-- The scan has read the whole text, and it is one of the grammar.
abbrev pub is_whole : Scan → ℕ → Bool
is_whole s n = cond (eqb s.length n) (accepting s.phase) false

-- ---- Checks 6 to 9

abbrev pub labels_agree : List ℕ → Layout → Bool
labels_agree text l = same_bytes (spanned text l.opened) (spanned text l.closed)

abbrev pub counts_fit : ℕ → ℕ → Bool
counts_fit n p = cond (eqb (n % 4) 0) (eqb p 0) (cond (eqb (n % 4) 2) (eqb p 2) (cond (eqb (n % 4) 3) (eqb p 1) false))

abbrev pub spare_zero : List ℕ → Layout → Tally → Bool
spare_zero text l t = eqb (spare_of t.characters (value_of (get_or text (last_at l t) 0))) 0

-- What each grammar makes of whether the spare bits are zero: lax drops them.
abbrev pub spare_asked : Grammar → Bool → Bool
spare_asked Lax zero = true
spare_asked Standard zero = zero
spare_asked Strict zero = zero

abbrev pub spare_clear : Grammar → List ℕ → Layout → Tally → Bool
spare_clear g text l t = spare_asked g (spare_zero text l t)

abbrev pub found_in : List ℕ → Layout → Tally → Found
found_in text l t = record { size = byte_count (t.characters * 3 / 4); label = l.opened; family = family_of (spanned text l.opened) }

abbrev pub judged_parts : Grammar → List ℕ → Layout → Tally → Judgement
judged_parts g text l t =
    cond
    (ltb label_limit l.opened.length)
    (Err (LabelTooLong l.opened.at))
    (cond
    (labels_agree text l)
    (cond
    (counts_fit t.characters t.pads)
    (cond
    (spare_clear g text l t)
    (Ok record { layout = l; found = found_in text l t; style = counted_style t.ends })
    (Err (SpareBits (offset (last_at l t)))))
    (Err (BadCounts l.closing)))
    (Err (LabelsDiffer l.closed.at)))

-- ---- Checks 1 to 9

abbrev pub judged_scan : Grammar → List ℕ → Scan → Judgement
judged_scan g text s =
    cond
    (is_whole s (length text))
    (judged_parts g text (layout_of 0 s.tally) s.tally)
    (Err (grammar_refusal (part_of s.phase) s.length))

abbrev pub judged_by : Option Grammar → List ℕ → Judgement
judged_by None text = Err UnknownGrammar
judged_by (Some g) text = cond (ltb text_limit (length text)) (Err TextTooLong) (judged_scan g text (scan_of g (start g) 0 no_tally text))

abbrev pub judge_of : List ℕ → ℕ → Judgement
judge_of text number = judged_by (grammar_of number) text

-- ---- Check 10, the answer and the output

abbrev pub answered : Judgement → ℕ → ReadAnswer
answered (Err refusal) room = Err (Refused refusal)
answered (Ok sound) room =
    cond (ltb room sound.found.size.0) (Err (TooSmall sound.found)) (Ok record { found = sound.found; style = sound.style })

abbrev pub read_of : List ℕ → ℕ → ℕ → ReadAnswer
read_of text number room = answered (judge_of text number) room

-- Data and then zeros, or zeros only.
abbrev pub written : Judgement → List ℕ → ℕ → List ℕ
written (Err refusal) text room = replicate room 0
written (Ok sound) text room =
    cond (ltb room sound.found.size.0) (replicate room 0) (decode (characters (spanned text sound.layout.body)) ++ replicate (room - sound.found.size.0) 0)

abbrev pub output_of : List ℕ → ℕ → ℕ → List ℕ
output_of text number room = written (judge_of text number) text room

-- The label's part of the text, empty where checks 1 to 9 refuse.
abbrev pub label_in : Judgement → List ℕ → List ℕ
label_in (Err refusal) text = []
label_in (Ok sound) text = spanned text sound.layout.opened

abbrev pub label_of : List ℕ → ℕ → List ℕ
label_of text number = label_in (judge_of text number) text
