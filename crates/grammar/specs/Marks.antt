-- The marks: blanks, white, line ends, boundaries and labels. Assumes nothing.
-- The alphabet is that of base 64, `Rattle.base_64.specs.Alphabet`, and so is the pad.
use Rattle.std.specs.Prelude.{◌≡◌, ◌≢◌, ◌⊎◌, List, [], ◌∷◌, ◌++◌, ℕ, ◌≤◌}

abbrev pub HT : ℕ
HT = 9

abbrev pub LF : ℕ
LF = 10

abbrev pub VT : ℕ
VT = 11

abbrev pub FF : ℕ
FF = 12

abbrev pub CR : ℕ
CR = 13

abbrev pub SP : ℕ
SP = 32

abbrev pub hyphen : ℕ
hyphen = 45

-- A blank is HT or SP.
--     RFC 7468:  WSP
abbrev pub Blank : ℕ → Type 0
Blank c = (c ≡ HT) ⊎ (c ≡ SP)

-- White is a blank, CR, LF, VT or FF.
--     W = WSP / CR / LF / %x0B / %x0C
abbrev pub White : ℕ → Type 0
White c = Blank c ⊎ ((c ≡ CR) ⊎ ((c ≡ LF) ⊎ ((c ≡ VT) ⊎ (c ≡ FF))))

-- The list does not start with LF.
abbrev pub NoLF : List ℕ → Type 0
NoLF l = (r : List ℕ) → l ≢ LF ∷ r

-- A line end is CRLF, CR or LF; here e is one, with the rest of its part of the text right behind it. CR followed by LF is
-- always one line end, so CR alone is one only where LF does not follow. (The RFC's rule could read CRLF as two.)
--     eol = CRLF / CR / LF
pub data LineEnd : (e rest : List ℕ) → Type 0 where
  crlf : {rest : List ℕ} → LineEnd (CR ∷ LF ∷ []) rest
  cr : {rest : List ℕ} → NoLF rest → LineEnd (CR ∷ []) rest
  lf : {rest : List ℕ} → LineEnd (LF ∷ []) rest

-- "-----", "-----BEGIN " and "-----END ", in upper case only.
abbrev pub hyphens : List ℕ
hyphens = hyphen ∷ hyphen ∷ hyphen ∷ hyphen ∷ hyphen ∷ []

abbrev pub begin : List ℕ
begin = hyphens ++ (66 ∷ 69 ∷ 71 ∷ 73 ∷ 78 ∷ SP ∷ [])

abbrev pub end : List ℕ
end = hyphens ++ (69 ∷ 78 ∷ 68 ∷ SP ∷ [])

-- The opening and the closing boundary of a label.
--     preeb  = "-----BEGIN " label "-----"
--     posteb = "-----END " label "-----"
abbrev pub opening : List ℕ → List ℕ
opening label = begin ++ (label ++ hyphens)

abbrev pub closing : List ℕ → List ℕ
closing label = end ++ (label ++ hyphens)

-- The characters of a label: 33 to 44 and 46 to 126.
--     labelchar = %x21-2C / %x2E-7E
abbrev pub LabelChar : ℕ → Type 0
LabelChar c = ((33 ≤ c) × (c ≤ 44)) ⊎ ((46 ≤ c) × (c ≤ 126))

-- One hyphen or one space may stand between two of them.
abbrev pub Separator : ℕ → Type 0
Separator c = (c ≡ hyphen) ⊎ (c ≡ SP)

pub data LabelChars : List ℕ → Type 0 where
  last : {c : ℕ} → LabelChar c → LabelChars (c ∷ [])
  next : {c : ℕ} {l : List ℕ} → LabelChar c → LabelChars l → LabelChars (c ∷ l)
  separated : {c s : ℕ} {l : List ℕ} → LabelChar c → Separator s → LabelChars l → LabelChars (c ∷ s ∷ l)

-- A label is empty, or such characters: no hyphen or space stands at either end. Lower case is allowed and case counts.
--     label = [ labelchar *( ["-" / SP] labelchar ) ]
pub data Label : List ℕ → Type 0 where
  empty : Label []
  chars : {l : List ℕ} → LabelChars l → Label l
