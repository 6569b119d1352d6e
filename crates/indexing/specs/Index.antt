-- What `index` answers, as a function of the text, the grammar's number and the table's length alone, message by message from
-- the left. Assumes nothing. None of this has to be believed: see `Meaning`.
use Rattle.std.specs.Prelude.{◌≡◌, ◌⊎◌, cond, List, [], ◌∷◌, ◌++◌, ℕ, zero, suc, ◌+◌, ◌-◌, ◌^◌, ◌≤◌, ◌<◌, ltb, length, take, drop, replicate, Option, Some, None, Result, Ok, Err}
use Rattle.grammar.specs.Families.{family_told}
use Rattle.grammar.specs.Grammars.{grammar_of}
use Rattle.grammar.specs.declared.Grammar.{Grammar}
use Rattle.output.specs.declared.CallError.TheVariants.{Refused, TooSmall}
use Rattle.machine.proofs.Machine.{start, later, part_of, accepting}
use Rattle.machine.specs.declared.State.{State}
use Rattle.reading.specs.Answers.{span}
use Rattle.reading.specs.Limits.{text_limit}
use Rattle.reading.specs.Scan.{no_tally, scan_of}
use Rattle.reading.specs.Layouts.{layout_of}
use Rattle.reading.specs.Read.{Judgement, grammar_refusal, judged_parts}
use Rattle.reading.specs.declared.Found.{Found}
use Rattle.reading.specs.declared.Refusal.{Refusal}
use Rattle.reading.specs.declared.Refusal.TheVariants.{UnknownGrammar, TextTooLong}
use Rattle.reading.specs.declared.Scan.{Scan}
use Rattle.indexing.specs.Answers.{entry_numbers, size_for, table_size, IndexAnswer}
use Rattle.indexing.specs.declared.Entry.{Entry}

-- ---- The numbers of messages

-- The numbers of a message: start, length, label offset, label length, data size and family.
abbrev pub numbers_of : Entry → List ℕ
numbers_of e =
    e.message.at.0
    ∷ e.message.length
    ∷ e.found.label.at.0
    ∷ e.found.label.length
    ∷ e.found.size.0
    ∷ family_told e.found.family
    ∷ []

abbrev pub numbers_of_all : List Entry → List ℕ
numbers_of_all [] = []
numbers_of_all (e ∷ es) = numbers_of e ++ numbers_of_all es

-- Numbers that a table can hold.
abbrev pub Holdable : Entry → Type 0
Holdable e =
    (e.message.at.0 < 2 ^ 32)
    × (e.message.length < 2 ^ 32)
    × (e.found.label.at.0 < 2 ^ 32)
    × (e.found.label.length < 2 ^ 32)
    × (e.found.size.0 < 2 ^ 32)
    × (family_told e.found.family < 2 ^ 32)

-- A table with the numbers of one message more behind those of `count` others, where it has room for them.
abbrev pub entered : List ℕ → ℕ → Entry → List ℕ
entered table count e =
    cond
    (ltb (length table) (size_for count + entry_numbers))
    table
    (take (size_for count) table ++ (numbers_of e ++ drop (size_for count + entry_numbers) table))

-- ---- Checks 3 to 9

abbrev pub entry_in : ℕ → ℕ → Found → Entry
entry_in from n found = record { message = span from n; found = found }

-- The scan of a text from an offset on.
abbrev pub scan_from : Grammar → List ℕ → ℕ → State → Scan
scan_from g text from first = scan_of g first 0 no_tally (drop from text)

-- The message that a scan has read from an offset on.
abbrev pub judged_message : Grammar → List ℕ → ℕ → Scan → Judgement
judged_message g text from s =
    cond
    (accepting s.phase)
    (judged_parts g text (layout_of from s.tally) s.tally)
    (Err (grammar_refusal (part_of s.phase) (from + s.length)))

-- The state in which a message starts: the first one, or a later one.
abbrev pub StartState : Grammar → State → Type 0
StartState g s = (s ≡ start g) ⊎ (s ≡ later)

-- The messages of a text: all of them, or the refusal of the first that fails.
abbrev pub Walk : Type 0
Walk = Result (List Entry) Refusal

abbrev pub onward : Judgement → ℕ → ℕ → (Entry → Walk) → Walk
onward (Err refusal) from n next = Err refusal
onward (Ok sound) from n next = next (entry_in from n sound.found)

-- From an offset on, behind the messages that were found before. A message has a byte at least, so a text has at most as
-- many messages as bytes.
abbrev pub walk : (most : ℕ) → Grammar → List ℕ → (from : ℕ) → State → List Entry → Walk
walk zero g text from first es = Ok es
walk (suc most) g text from first es =
    cond
    (ltb from (length text))
    (onward (judged_message g text from (scan_from g text from first)) from (scan_from g text from first).length
    (λ e. walk most g text (from + (scan_from g text from first).length) later (es ++ (e ∷ []))))
    (Ok es)

abbrev pub walk_of : Grammar → List ℕ → Walk
walk_of g text = walk (length text) g text 0 (start g) []

-- ---- Checks 1 to 9

abbrev pub walk_by : Option Grammar → List ℕ → Walk
walk_by None text = Err UnknownGrammar
walk_by (Some g) text = cond (ltb text_limit (length text)) (Err TextTooLong) (walk_of g text)

abbrev pub surveyed : Walk → Result ℕ Refusal
surveyed (Ok es) = Ok (length es)
surveyed (Err refusal) = Err refusal

-- The table that code has filled on its way, where it has room for all messages: the count is not yet in its place.
abbrev pub Filled : Walk → List ℕ → Type 0
Filled (Err refusal) table = Unit {0}
Filled (Ok es) table =
    size_for (length es) ≤ length table → table ≡ 0 ∷ (numbers_of_all es ++ replicate (length table - size_for (length es)) 0)

-- ---- Check 10, the answer and the table

abbrev pub answered : Walk → ℕ → IndexAnswer
answered (Err refusal) room = Err (Refused refusal)
answered (Ok es) room =
    cond
    (ltb room (size_for (length es)))
    (Err (TooSmall (table_size (size_for (length es)))))
    (Ok (table_size (size_for (length es))))

-- The count, the numbers of each message and then zeros, or zeros only.
abbrev pub tabled : Walk → ℕ → List ℕ
tabled (Err refusal) room = replicate room 0
tabled (Ok es) room =
    cond
    (ltb room (size_for (length es)))
    (replicate room 0)
    (length es ∷ (numbers_of_all es ++ replicate (room - size_for (length es)) 0))

abbrev pub index_of : List ℕ → ℕ → ℕ → IndexAnswer
index_of text number room = answered (walk_by (grammar_of number) text) room

abbrev pub lent_table : List ℕ → ℕ → ℕ → List ℕ
lent_table text number room = tabled (walk_by (grammar_of number) text) room
