-- The counter samples: the rows of the requirements marked *, those of pads on two lines, of spare bits, of line ends and of
-- families, as one list under one claim. Assumes nothing.
use Rattle.std.specs.Prelude.{List, [], ◌∷◌, ◌++◌, ℕ, Some, None}
use Rattle.base_64.specs.Lists.{All}
use Rattle.grammar.specs.Samples.{begin_a, end_a, end_b, around, M, unended_m, labelled}
use Rattle.grammar.specs.declared.Family.TheVariants.{CertificateRequest, Cms, PublicKey}
use Rattle.reading.specs.Rows.{Row, RowHolds, row, Outcome, too_small, Holds, no_line_end, lf, crlf, cr, mixed, in_family, no3, no4, no5, no7, no8, no9}

-- The rows of the requirements.
abbrev pub rows : List (Row Outcome)
rows =
    -- M
    row M (lf (102 ∷ [])) (lf (102 ∷ [])) (lf (102 ∷ []))
    -- M with `Zh==` (K8; before it, 66 hex under standard)
    ∷ row (around (10 ∷ 90 ∷ 104 ∷ 61 ∷ 61 ∷ 10 ∷ [])) (lf (102 ∷ [])) (no9 19) (no9 19)
    -- M without last LF
    ∷ row unended_m (lf (102 ∷ [])) (lf (102 ∷ [])) (no5 38)
    -- M without `Zg==` and its LF
    ∷ row (around (10 ∷ [])) (lf []) (no4 18) (no4 18)
    -- M with LF for `Zg==` and its LF
    ∷ row (around (10 ∷ 10 ∷ [])) (lf []) (lf []) (no4 18)
    -- fourth row, first LF now CRLF
    ∷ row (around (13 ∷ 10 ∷ [])) (mixed []) (no4 19) (no4 19)
    -- M with `Zg=`
    ∷ row (around (10 ∷ 90 ∷ 103 ∷ 61 ∷ 10 ∷ [])) (no8 22) (no8 22) (no4 21)
    -- M with `Zm 9v`
    ∷ row (around (10 ∷ 90 ∷ 109 ∷ 32 ∷ 57 ∷ 118 ∷ 10 ∷ [])) (lf (102 ∷ 111 ∷ 111 ∷ [])) (no4 21) (no4 20)
    -- M with `Zg=`, LF, `=` (K9; before it, 4 at 22 under standard)
    ∷ row (around (10 ∷ 90 ∷ 103 ∷ 61 ∷ 10 ∷ 61 ∷ 10 ∷ [])) (lf (102 ∷ [])) (lf (102 ∷ [])) (no4 21)
    -- M closing with B
    ∷ row (begin_a ++ (10 ∷ 90 ∷ 103 ∷ 61 ∷ 61 ∷ 10 ∷ (end_b ++ (10 ∷ [])))) (no7 32) (no7 32) (no7 32)
    -- M, sixth hyphen on opening
    ∷ row (around (45 ∷ 10 ∷ 90 ∷ 103 ∷ 61 ∷ 61 ∷ 10 ∷ [])) (no5 18) (no4 17) (no4 17)
    -- empty text
    ∷ row [] (no3 0) (no3 0) (no3 0)
    ∷ []

-- K9: pads on two lines, in place of M's `Zg==`.
abbrev pub split_pads : List (Row Outcome)
split_pads =
    -- `Zg=`, CRLF, `=`
    row (around (10 ∷ 90 ∷ 103 ∷ 61 ∷ 13 ∷ 10 ∷ 61 ∷ 10 ∷ [])) (mixed (102 ∷ [])) (mixed (102 ∷ [])) (no4 21)
    -- `Zg=`, CR, `=`
    ∷ row (around (10 ∷ 90 ∷ 103 ∷ 61 ∷ 13 ∷ 61 ∷ 10 ∷ [])) (mixed (102 ∷ [])) (mixed (102 ∷ [])) (no4 21)
    -- `Zg=`, SP, HT, LF, `=`, SP
    ∷ row (around (10 ∷ 90 ∷ 103 ∷ 61 ∷ 32 ∷ 9 ∷ 10 ∷ 61 ∷ 32 ∷ 10 ∷ [])) (lf (102 ∷ [])) (lf (102 ∷ [])) (no4 21)
    -- `Zg`, LF, `=`, LF, `=`: the final line has no characters
    ∷ row (around (10 ∷ 90 ∷ 103 ∷ 10 ∷ 61 ∷ 10 ∷ 61 ∷ 10 ∷ [])) (lf (102 ∷ [])) (lf (102 ∷ [])) (no4 20)
    -- `Zg=`, LF, SP, `=`: a blank before the second pad
    ∷ row (around (10 ∷ 90 ∷ 103 ∷ 61 ∷ 10 ∷ 32 ∷ 61 ∷ 10 ∷ [])) (lf (102 ∷ [])) (no4 22) (no4 21)
    -- `Zg=`, LF, LF, `=`: a line end before it
    ∷ row (around (10 ∷ 90 ∷ 103 ∷ 61 ∷ 10 ∷ 10 ∷ 61 ∷ 10 ∷ [])) (lf (102 ∷ [])) (no4 22) (no4 21)
    -- `Zg=`, CRLF, LF, `=`
    ∷ row (around (10 ∷ 90 ∷ 103 ∷ 61 ∷ 13 ∷ 10 ∷ 10 ∷ 61 ∷ 10 ∷ [])) (mixed (102 ∷ [])) (no4 23) (no4 21)
    -- `Zg=`, CR, SP, LF, `=`
    ∷ row (around (10 ∷ 90 ∷ 103 ∷ 61 ∷ 13 ∷ 32 ∷ 10 ∷ 61 ∷ 10 ∷ [])) (mixed (102 ∷ [])) (no4 22) (no4 21)
    -- `Zg=`, LF, VT, `=`
    ∷ row (around (10 ∷ 90 ∷ 103 ∷ 61 ∷ 10 ∷ 11 ∷ 61 ∷ 10 ∷ [])) (lf (102 ∷ [])) (no4 22) (no4 21)
    -- `Zg=`, LF, `=`, and no line end
    ∷ row (around (10 ∷ 90 ∷ 103 ∷ 61 ∷ 10 ∷ 61 ∷ [])) (lf (102 ∷ [])) (no4 23) (no4 21)
    -- `Zg=`, LF, `==`: a third pad
    ∷ row (around (10 ∷ 90 ∷ 103 ∷ 61 ∷ 10 ∷ 61 ∷ 61 ∷ 10 ∷ [])) (no4 23) (no4 23) (no4 21)
    -- `Zg=`, LF, `=`, LF, `=`
    ∷ row (around (10 ∷ 90 ∷ 103 ∷ 61 ∷ 10 ∷ 61 ∷ 10 ∷ 61 ∷ 10 ∷ [])) (no4 24) (no4 24) (no4 21)
    -- `Zg==`, LF, `=`
    ∷ row (around (10 ∷ 90 ∷ 103 ∷ 61 ∷ 61 ∷ 10 ∷ 61 ∷ 10 ∷ [])) (no4 23) (no4 23) (no4 23)
    -- `Zg=`, LF, `Zg==`: characters behind the first pad's line
    ∷ row (around (10 ∷ 90 ∷ 103 ∷ 61 ∷ 10 ∷ 90 ∷ 103 ∷ 61 ∷ 61 ∷ 10 ∷ [])) (no4 22) (no4 22) (no4 21)
    -- `Zm8=`: the line end behind one pad is that of the final line
    ∷ row (around (10 ∷ 90 ∷ 109 ∷ 56 ∷ 61 ∷ 10 ∷ [])) (lf (102 ∷ 111 ∷ [])) (lf (102 ∷ 111 ∷ [])) (lf (102 ∷ 111 ∷ []))
    -- `Zm8=`, LF, `=`: two pads that do not fit
    ∷ row (around (10 ∷ 90 ∷ 109 ∷ 56 ∷ 61 ∷ 10 ∷ 61 ∷ 10 ∷ [])) (no8 25) (no8 25) (no4 23)
    ∷ []

-- K8: spare bits, in place of M's `Zg==`. The last character has them, wherever the pads stand.
abbrev pub spare_bits : List (Row Outcome)
spare_bits =
    -- `Zo==`: the first of four
    row (around (10 ∷ 90 ∷ 111 ∷ 61 ∷ 61 ∷ 10 ∷ [])) (lf (102 ∷ [])) (no9 19) (no9 19)
    -- `Zm9=`: one of two
    ∷ row (around (10 ∷ 90 ∷ 109 ∷ 57 ∷ 61 ∷ 10 ∷ [])) (lf (102 ∷ 111 ∷ [])) (no9 20) (no9 20)
    -- `Zm9v`: a whole group has none
    ∷ row (around (10 ∷ 90 ∷ 109 ∷ 57 ∷ 118 ∷ 10 ∷ [])) (lf (102 ∷ 111 ∷ 111 ∷ [])) (lf (102 ∷ 111 ∷ 111 ∷ [])) (lf (102 ∷ 111 ∷ 111 ∷ []))
    -- `Zh=`: the counts are judged before
    ∷ row (around (10 ∷ 90 ∷ 104 ∷ 61 ∷ 10 ∷ [])) (no8 22) (no8 22) (no4 21)
    -- `Zh=`, LF, `=`
    ∷ row (around (10 ∷ 90 ∷ 104 ∷ 61 ∷ 10 ∷ 61 ∷ 10 ∷ [])) (lf (102 ∷ [])) (no9 19) (no4 21)
    -- `Zh`, LF, `==`
    ∷ row (around (10 ∷ 90 ∷ 104 ∷ 10 ∷ 61 ∷ 61 ∷ 10 ∷ [])) (lf (102 ∷ [])) (no9 19) (no4 20)
    -- `Zm9`, SP, CRLF, `=`
    ∷ row (around (10 ∷ 90 ∷ 109 ∷ 57 ∷ 32 ∷ 13 ∷ 10 ∷ 61 ∷ 10 ∷ [])) (mixed (102 ∷ 111 ∷ [])) (no9 20) (no4 21)
    -- `Z`, LF, `h`, LF, `=`, LF, `=`
    ∷ row (around (10 ∷ 90 ∷ 10 ∷ 104 ∷ 10 ∷ 61 ∷ 10 ∷ 61 ∷ 10 ∷ [])) (lf (102 ∷ [])) (no9 20) (no4 19)
    ∷ []

-- K7: M with these line ends in place of its three.
abbrev pub ended : List ℕ → List ℕ → List ℕ → List ℕ
ended a b c = begin_a ++ (a ++ (90 ∷ 103 ∷ 61 ∷ 61 ∷ (b ++ (end_a ++ c))))

abbrev pub line_ends : List (Row Outcome)
line_ends =
    -- CRLF, CR, and one of each
    row (ended (13 ∷ 10 ∷ []) (13 ∷ 10 ∷ []) (13 ∷ 10 ∷ [])) (crlf (102 ∷ [])) (crlf (102 ∷ [])) (crlf (102 ∷ []))
    ∷ row (ended (13 ∷ []) (13 ∷ []) (13 ∷ [])) (cr (102 ∷ [])) (cr (102 ∷ [])) (cr (102 ∷ []))
    ∷ row (ended (13 ∷ 10 ∷ []) (13 ∷ []) (10 ∷ [])) (mixed (102 ∷ [])) (mixed (102 ∷ [])) (mixed (102 ∷ []))
    -- the last alone is another
    ∷ row (ended (13 ∷ 10 ∷ []) (13 ∷ 10 ∷ []) (13 ∷ [])) (mixed (102 ∷ [])) (mixed (102 ∷ [])) (mixed (102 ∷ []))
    ∷ row (ended (10 ∷ []) (10 ∷ []) (13 ∷ [])) (mixed (102 ∷ [])) (mixed (102 ∷ [])) (mixed (102 ∷ []))
    -- CR LF CR is CRLF and CR; CR LF is one where white follows, and two where a blank stands between them; LF CR is two
    ∷ row (ended (13 ∷ 10 ∷ []) (13 ∷ 10 ∷ []) (13 ∷ 10 ∷ 13 ∷ [])) (mixed (102 ∷ [])) (no5 42) (no5 42)
    ∷ row (ended [] [] (13 ∷ 10 ∷ 32 ∷ [])) (crlf (102 ∷ [])) (no4 17) (no4 17)
    ∷ row (ended [] [] (13 ∷ 32 ∷ 10 ∷ [])) (mixed (102 ∷ [])) (no4 17) (no4 17)
    ∷ row (ended [] (10 ∷ 13 ∷ []) []) (mixed (102 ∷ [])) (no4 17) (no4 17)
    -- VT and FF are none
    ∷ row (ended (11 ∷ []) (12 ∷ []) []) (no_line_end (102 ∷ [])) (no4 17) (no4 17)
    ∷ []

-- K6: labels of families, and others.
abbrev pub families : List (Row Outcome)
families =
    row (labelled "CMS" "CMS" "Zg==") (in_family 3 (Some Cms)) (in_family 3 (Some Cms)) (in_family 3 (Some Cms))
    ∷ row (labelled "NEW CERTIFICATE REQUEST" "NEW CERTIFICATE REQUEST" "Zg==") (in_family 23 (Some CertificateRequest)) (in_family 23 (Some CertificateRequest)) (in_family 23 (Some CertificateRequest))
    ∷ row (labelled "CERTIFICATE CHAIN" "CERTIFICATE CHAIN" "Zg==") (in_family 17 None) (in_family 17 None) (in_family 17 None)
    ∷ row (labelled "Cms" "Cms" "Zg==") (in_family 3 None) (in_family 3 None) (in_family 3 None)
    -- five bytes, for which there is no room
    ∷ row (labelled "PUBLIC KEY" "PUBLIC KEY" "Zm9vYmE=") (too_small 10 (Some PublicKey) 5) (too_small 10 (Some PublicKey) 5) (too_small 10 (Some PublicKey) 5)
    -- labels that differ in bytes, if not in family, and counts that do not fit
    ∷ row (labelled "CERTIFICATE" "X509 CERTIFICATE" "Zg==") (no7 42) (no7 42) (no7 42)
    ∷ row (labelled "CMS" "CMS" "Zg=") (no8 24) (no8 24) (no4 23)
    ∷ []

-- The claim.
abbrev pub Samples : Type 0
Samples = All (RowHolds Holds) (rows ++ (split_pads ++ (spare_bits ++ (line_ends ++ families))))
