-- What stands in an output while a body is decoded. Assumes nothing.
use Rattle.std.specs.Prelude.{◌≡◌, Bool, List, ◌++◌, ℕ, ◌+◌, ◌*◌, ◌≤◌, ◌<◌, length, take, drop}
use Rattle.base_64.specs.Groups.{decode}
use Rattle.grammar.specs.Message.{characters}
use Rattle.runs.specs.Runs.{Characters, LinesTo, between}
use Rattle.decoder.specs.declared.Open.{Open}
use Rattle.decoder.specs.declared.Open.TheVariants.{Start}
use Rattle.decoder.specs.Feeding.{HoldsValue, ahead_body}
use Rattle.decoder.specs.Tables.{mark}

-- What stands at i was written from n on as k groups whose numbers have the sum s: if that is below the mark they are groups,
-- and their bytes stand there. What stands before n is kept in any case; behind them anything may stand.
pub record Put (text out out' : List ℕ) (n i k s : ℕ) : Type 0 where
  pub stands : i + 4 * k ≤ length text
  pub room : n + 3 * k ≤ length out
  pub size : length out' ≡ length out
  pub kept : take n out' ≡ take n out
  pub inside : s < mark → Characters text i (i + 4 * k)
  pub written : s < mark → take (n + 3 * k) out' ≡ take n out ++ decode (take (4 * k) (drop i text))

-- The first n bytes of a body's data are written, and the others are to come from the open group and from the body's bytes from
-- i on.
pub record Decoding (body out : List ℕ) (g : Open) (n i : ℕ) : Type 0 where
  pub fits : length (decode (characters body)) ≤ length out
  pub holds : HoldsValue g
  pub some : n ≤ length (decode (characters body))
  pub others : drop n (decode (characters body)) ≡ ahead_body g (drop i body)
  pub written : take n out ≡ take n (decode (characters body))

-- Decoded further, from a place on up to i: n bytes are written, and the output is as long as it was.
pub record Further (body out out' : List ℕ) (from n i : ℕ) : Type 0 where
  pub forward : from ≤ i
  pub inside : i ≤ length body
  pub size : length out' ≡ length out
  pub reached : Decoding body out' Start n i

-- The first n bytes of an output are the data of a part of a text, which has whole groups.
pub record Decoded (part out : List ℕ) (n : ℕ) : Type 0 where
  pub groups : ℕ
  pub counted : length (characters part) ≡ 4 * groups
  pub size : n ≡ 3 * groups
  pub written : take n out ≡ decode (characters part)

-- Lines from a place on were decoded into an output: where they end, how many groups they have, where the characters of the last
-- one end, how many end with LF and with CRLF, and whether all of them are full.
pub record DecodedLines (text : List ℕ) (full : Bool) (old out : List ℕ) (from end groups last lf crlf : ℕ) : Type 0 where
  pub size : length out ≡ length old
  pub room : 3 * groups ≤ length out
  pub lines : LinesTo text full from end groups last lf crlf
  pub written : Decoded (between text from end) out (3 * groups)
