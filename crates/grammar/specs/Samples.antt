-- Texts of the requirements' samples, spelled out in bytes, and what the grammars by themselves make of labels, lines, pads and
-- bundles. The rows of the table stand with the reader, whose numbers and places they have. Assumes nothing.
use Rattle.std.specs.Prelude.{◌≡◌, ◌⊎◌, List, [], ◌∷◌, ◌++◌, ℕ, replicate}
use Prim.Native.String.{String}
use Rattle.base_64.specs.Lists.{ascii}
use Rattle.base_64.specs.Alphabet.{pad}
use Rattle.grammar.specs.Marks.{hyphens, begin, end, LineEnd}
use Rattle.grammar.specs.Grammars.{FinalLine, Body}
use Rattle.grammar.specs.Message.{Message}
use Rattle.grammar.specs.Bundle.{Item, Bundle}
use Rattle.grammar.specs.declared.Grammar.{Grammar}
use Rattle.grammar.specs.declared.Grammar.TheVariants.{Lax, Standard, Strict}

-- "-----BEGIN A-----", "-----END A-----" and "-----END B-----".
abbrev pub begin_a : List ℕ
begin_a = 45 ∷ 45 ∷ 45 ∷ 45 ∷ 45 ∷ 66 ∷ 69 ∷ 71 ∷ 73 ∷ 78 ∷ 32 ∷ 65 ∷ 45 ∷ 45 ∷ 45 ∷ 45 ∷ 45 ∷ []

abbrev pub end_a : List ℕ
end_a = 45 ∷ 45 ∷ 45 ∷ 45 ∷ 45 ∷ 69 ∷ 78 ∷ 68 ∷ 32 ∷ 65 ∷ 45 ∷ 45 ∷ 45 ∷ 45 ∷ 45 ∷ []

abbrev pub end_b : List ℕ
end_b = 45 ∷ 45 ∷ 45 ∷ 45 ∷ 45 ∷ 69 ∷ 78 ∷ 68 ∷ 32 ∷ 66 ∷ 45 ∷ 45 ∷ 45 ∷ 45 ∷ 45 ∷ []

-- "-----BEGIN A-B-----" and "-----END A-B-----".
abbrev pub begin_aB : List ℕ
begin_aB = 45 ∷ 45 ∷ 45 ∷ 45 ∷ 45 ∷ 66 ∷ 69 ∷ 71 ∷ 73 ∷ 78 ∷ 32 ∷ 65 ∷ 45 ∷ 66 ∷ 45 ∷ 45 ∷ 45 ∷ 45 ∷ 45 ∷ []

abbrev pub end_aB : List ℕ
end_aB = 45 ∷ 45 ∷ 45 ∷ 45 ∷ 45 ∷ 69 ∷ 78 ∷ 68 ∷ 32 ∷ 65 ∷ 45 ∷ 66 ∷ 45 ∷ 45 ∷ 45 ∷ 45 ∷ 45 ∷ []

-- "-----BEGIN -----" and "-----END -----".
abbrev pub begin_empty : List ℕ
begin_empty = 45 ∷ 45 ∷ 45 ∷ 45 ∷ 45 ∷ 66 ∷ 69 ∷ 71 ∷ 73 ∷ 78 ∷ 32 ∷ 45 ∷ 45 ∷ 45 ∷ 45 ∷ 45 ∷ []

abbrev pub end_empty : List ℕ
end_empty = 45 ∷ 45 ∷ 45 ∷ 45 ∷ 45 ∷ 69 ∷ 78 ∷ 68 ∷ 32 ∷ 45 ∷ 45 ∷ 45 ∷ 45 ∷ 45 ∷ []

-- M with something else between its boundaries.
abbrev pub around : List ℕ → List ℕ
around between = begin_a ++ (between ++ (end_a ++ (10 ∷ [])))

abbrev pub M : List ℕ
M = around (10 ∷ 90 ∷ 103 ∷ 61 ∷ 61 ∷ 10 ∷ [])

abbrev pub unended_m : List ℕ
unended_m = begin_a ++ (10 ∷ 90 ∷ 103 ∷ 61 ∷ 61 ∷ 10 ∷ end_a)

-- A message by the labels of its boundaries and the one line between them, with LF.
abbrev pub labelled : (opened closed line : String) → List ℕ
labelled opened closed line =
    begin ++ (ascii opened ++ (hyphens ++ (10 ∷ (ascii line ++ (10 ∷ (end ++ (ascii closed ++ (hyphens ++ (10 ∷ [])))))))))

-- An item: "A" with the one byte 66 hex.
abbrev pub item_a : Item
item_a = record { label = 65 ∷ []; content = 102 ∷ [] }

abbrev pub BundleRefused : Grammar → List ℕ → Type 0
BundleRefused g text = (list : List Item) (table : List ℕ) → ¬ Bundle g text list table

-- The claim.
pub record Samples : Type 0 where
  -- M with `Zh==`: its spare bits are not zero, as standard and strict ask; lax drops them, and its data is that of M
  pub spare_bits : (label content : List ℕ) → ¬ Message Standard (around (10 ∷ 90 ∷ 104 ∷ 61 ∷ 61 ∷ 10 ∷ [])) label content
  pub spare_bits_strict : (label content : List ℕ) → ¬ Message Strict (around (10 ∷ 90 ∷ 104 ∷ 61 ∷ 61 ∷ 10 ∷ [])) label content
  pub spare_bits_lax : Message Lax (around (10 ∷ 90 ∷ 104 ∷ 61 ∷ 61 ∷ 10 ∷ [])) (65 ∷ []) (102 ∷ [])
  -- M closing with B: the labels differ
  pub labels_differ : (label content : List ℕ) → ¬ Message Lax (begin_a ++ (10 ∷ 90 ∷ 103 ∷ 61 ∷ 61 ∷ 10 ∷ (end_b ++ (10 ∷ [])))) label content
  -- a label with a hyphen inside
  pub hyphen_label : Message Strict (begin_aB ++ (10 ∷ 90 ∷ 103 ∷ 61 ∷ 61 ∷ 10 ∷ (end_aB ++ (10 ∷ [])))) (65 ∷ 45 ∷ 66 ∷ []) (102 ∷ [])
  -- an empty label
  pub empty_label : Message Strict (begin_empty ++ (10 ∷ 90 ∷ 103 ∷ 61 ∷ 61 ∷ 10 ∷ (end_empty ++ (10 ∷ [])))) [] (102 ∷ [])
  -- an empty line alone: the final line of a standard message, whose data is empty; no strict one
  pub empty_line : Message Standard (around (10 ∷ 10 ∷ [])) (65 ∷ []) []
  pub empty_line_strict : (label content : List ℕ) → ¬ Message Strict (around (10 ∷ 10 ∷ [])) label content
  -- `Zg===`: three pads, even under lax
  pub third_pad : ¬ Body Lax (10 ∷ 90 ∷ 103 ∷ 61 ∷ 61 ∷ 61 ∷ 10 ∷ [])
  -- `Zg=`, LF, `=`: pads on two lines; behind a first pad and its line end nothing stands but the second
  pub split_pads : Message Standard (around (10 ∷ 90 ∷ 103 ∷ 61 ∷ 10 ∷ 61 ∷ 10 ∷ [])) (65 ∷ []) (102 ∷ [])
  pub second_pad : (e rest : List ℕ) → LineEnd e rest → FinalLine (pad ∷ (e ++ rest)) → (rest ≡ []) ⊎ ((more : List ℕ) × (rest ≡ pad ∷ more))
  -- a line of 64 characters before a last line, and as the last line
  pub full_line : Message Strict (around (10 ∷ (replicate 64 65 ++ (10 ∷ 90 ∷ 103 ∷ 61 ∷ 61 ∷ 10 ∷ [])))) (65 ∷ []) (replicate 48 0 ++ (102 ∷ []))
  pub full_last_line : Message Strict (around (10 ∷ (replicate 64 65 ++ (10 ∷ [])))) (65 ∷ []) (replicate 48 0)
  -- a first line of 65 characters, whatever follows it
  pub long_line : (rest label content : List ℕ) → ¬ Message Strict (begin_a ++ (10 ∷ (replicate 65 65 ++ rest))) label content
  -- M once and twice, under every grammar (K6; before it, five numbers for each message)
  pub once : (g : Grammar) → Bundle g M (item_a ∷ []) (1 ∷ 0 ∷ 39 ∷ 11 ∷ 1 ∷ 1 ∷ 0 ∷ [])
  pub twice : (g : Grammar) → Bundle g (M ++ M) (item_a ∷ item_a ∷ []) (2 ∷ 0 ∷ 39 ∷ 11 ∷ 1 ∷ 1 ∷ 0 ∷ 39 ∷ 39 ∷ 50 ∷ 1 ∷ 1 ∷ 0 ∷ [])
  -- M without its LF, then M: under standard, and so under lax, but not under strict
  pub unended : Bundle Standard (unended_m ++ M) (item_a ∷ item_a ∷ []) (2 ∷ 0 ∷ 38 ∷ 11 ∷ 1 ∷ 1 ∷ 0 ∷ 38 ∷ 39 ∷ 49 ∷ 1 ∷ 1 ∷ 0 ∷ [])
  pub unended_strict : BundleRefused Strict (unended_m ++ M)
  -- the empty text is a bundle, and a text of two spaces is none even under lax
  pub none : (g : Grammar) → Bundle g [] [] (0 ∷ [])
  pub spaces : BundleRefused Lax (32 ∷ 32 ∷ [])
