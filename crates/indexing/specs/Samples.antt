-- Samples of bundles: those of the requirements, and some for each rule of the index, as one list under one claim.
-- Assumes nothing.
use Rattle.std.specs.Prelude.{List, [], ◌∷◌, ◌++◌, ℕ, ◌-◌, length, replicate, Ok, Err}
use Rattle.output.specs.declared.CallError.TheVariants.{Refused, TooSmall}
use Rattle.base_64.specs.Lists.{All}
use Rattle.grammar.specs.Samples.{begin_a, end_b, around, M, unended_m, labelled}
use Rattle.reading.specs.Answers.{offset}
use Rattle.reading.specs.Rows.{Row, RowHolds, row}
use Rattle.reading.specs.declared.Refusal.{Refusal}
use Rattle.reading.specs.declared.Refusal.TheVariants.{BadOpening, BadClosing, LabelsDiffer, SpareBits}
use Rattle.indexing.specs.Answers.{table_size, IndexAnswer}
use Rattle.indexing.specs.Meaning.{Indexes}

-- What a row says of a text under a grammar: this whole table; a refusal; or that so many numbers are needed.
pub data Outcome : Type 0 where
  accepted : List ℕ → Outcome
  refused : Refusal → Outcome
  needs : ℕ → Outcome

-- The numbers of the lent table: two messages fit, and a zero behind them.
abbrev pub room : ℕ
room = 14

abbrev pub answer_for : Outcome → IndexAnswer
answer_for (accepted table) = Ok (table_size (length table))
answer_for (refused refusal) = Err (Refused refusal)
answer_for (needs n) = Err (TooSmall (table_size n))

abbrev pub table_for : Outcome → List ℕ
table_for (accepted table) = table ++ replicate (room - length table) 0
table_for (refused refusal) = replicate room 0
table_for (needs n) = replicate room 0

-- What the index call answers to a text.
abbrev pub Holds : ℕ → List ℕ → Outcome → Type 0
Holds number text o = Indexes text number room (answer_for o) (table_for o)

-- M with `Zh==`.
abbrev pub with_spare_bits : List ℕ
with_spare_bits = around (10 ∷ 90 ∷ 104 ∷ 61 ∷ 61 ∷ 10 ∷ [])

-- M closing with B.
abbrev pub closed_by_b : List ℕ
closed_by_b = begin_a ++ (10 ∷ 90 ∷ 103 ∷ 61 ∷ 61 ∷ 10 ∷ (end_b ++ (10 ∷ [])))

-- A certificate and a private key, of one byte each.
abbrev pub certificate : List ℕ
certificate = labelled "CERTIFICATE" "CERTIFICATE" "Zg=="

abbrev pub key : List ℕ
key = labelled "PRIVATE KEY" "PRIVATE KEY" "Zg=="

abbrev pub no3 : ℕ → Outcome
no3 n = refused (BadOpening (offset n))

abbrev pub no5 : ℕ → Outcome
no5 n = refused (BadClosing (offset n))

abbrev pub no7 : ℕ → Outcome
no7 n = refused (LabelsDiffer (offset n))

abbrev pub no9 : ℕ → Outcome
no9 n = refused (SpareBits (offset n))

abbrev pub twice : Outcome
twice = accepted (2 ∷ 0 ∷ 39 ∷ 11 ∷ 1 ∷ 1 ∷ 0 ∷ 39 ∷ 39 ∷ 50 ∷ 1 ∷ 1 ∷ 0 ∷ [])

abbrev pub unended : Outcome
unended = accepted (2 ∷ 0 ∷ 38 ∷ 11 ∷ 1 ∷ 1 ∷ 0 ∷ 38 ∷ 39 ∷ 49 ∷ 1 ∷ 1 ∷ 0 ∷ [])

abbrev pub with_key : Outcome
with_key = accepted (2 ∷ 0 ∷ 59 ∷ 11 ∷ 11 ∷ 1 ∷ 1 ∷ 59 ∷ 59 ∷ 70 ∷ 11 ∷ 1 ∷ 6 ∷ [])

abbrev pub with_m : Outcome
with_m = accepted (2 ∷ 0 ∷ 59 ∷ 11 ∷ 11 ∷ 1 ∷ 1 ∷ 59 ∷ 39 ∷ 70 ∷ 1 ∷ 1 ∷ 0 ∷ [])

abbrev pub rows : List (Row Outcome)
rows =
    -- M twice
    row (M ++ M) twice twice twice
    -- M without its LF, then M
    ∷ row (unended_m ++ M) unended unended (no5 38)
    -- empty text
    ∷ row [] (accepted (0 ∷ [])) (accepted (0 ∷ [])) (accepted (0 ∷ []))
    -- two spaces
    ∷ row (32 ∷ 32 ∷ []) (no3 2) (no3 0) (no3 0)
    -- SP between two messages: it belongs to the earlier, where it can
    ∷ row (M ++ (32 ∷ M)) (accepted (2 ∷ 0 ∷ 40 ∷ 11 ∷ 1 ∷ 1 ∷ 0 ∷ 40 ∷ 39 ∷ 51 ∷ 1 ∷ 1 ∷ 0 ∷ [])) (no3 39) (no3 39)
    -- SP before the first: it belongs to the first
    ∷ row (32 ∷ M) (accepted (1 ∷ 0 ∷ 40 ∷ 12 ∷ 1 ∷ 1 ∷ 0 ∷ [])) (no3 0) (no3 0)
    -- a byte that cannot extend a whole message
    ∷ row (M ++ (65 ∷ [])) (no3 39) (no3 39) (no3 39)
    -- labels that differ in the first, and a second cut short: the first is judged before the second
    ∷ row (closed_by_b ++ (45 ∷ [])) (no7 32) (no7 32) (no7 32)
    -- labels that differ in the second
    ∷ row (M ++ closed_by_b) (no7 71) (no7 71) (no7 71)
    -- spare bits in the second, and in the first before a second whose labels differ (K8)
    ∷ row (M ++ with_spare_bits) twice (no9 58) (no9 58)
    ∷ row (with_spare_bits ++ closed_by_b) (no7 71) (no9 19) (no9 19)
    -- a key behind a certificate, and M: each has its own family (K6)
    ∷ row (certificate ++ key) with_key with_key with_key
    ∷ row (certificate ++ M) with_m with_m with_m
    -- M three times: 19 numbers are needed
    ∷ row (M ++ (M ++ M)) (needs 19) (needs 19) (needs 19)
    ∷ []

-- The claim.
abbrev pub Samples : Type 0
Samples = All (RowHolds Holds) rows
