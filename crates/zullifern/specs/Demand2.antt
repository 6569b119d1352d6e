-- Demand 2 of the requirements, as one claim. What it says of the calls is said of the definitions that their promises equal.
-- Assumes nothing.
use Rattle.reading.specs.Claims as reading
use Rattle.reading.specs.Claims.{LabelExactly, PlaceExactly}
use Rattle.indexing.specs.Claims.{BundlePlace}
use Rattle.writing.specs.Claims as writing
use Rattle.writing.specs.Claims.{WrittenLength, Largest, ReadsBack, Restores}

pub record Demand2 : Type 0 where
  -- Reading accepts exactly the lax, standard and strict texts of RFC 7468, as the requirements narrow them, with the label and bytes
  -- that the grammar gives.
  pub reads : reading.ZeroExactly
  -- The label call hands back that label.
  pub label : LabelExactly
  -- A grammar refusal names the first place from which no continuation could have been accepted by the grammar alone, labels, counts,
  -- spare bits and limits aside, or the end of a text cut short;
  pub place : PlaceExactly
  -- and in a bundle the first from which none could have been accepted as a bundle.
  pub bundle_place : BundlePlace
  -- Writing gives the strict text in the style asked (K7; before it, "with LF line ends"), for valid labels and data of 1 to 8,388,608
  -- bytes (K4; before it, "1 to 32,768 bytes");
  pub writes : writing.ZeroExactly
  -- it has this length,
  pub written_length : WrittenLength
  -- which is at most what a reader can take back.
  pub largest : Largest
  -- Reading what was written returns label and data,
  pub reads_back : ReadsBack
  -- and writing what was read restores every accepted strict text of any one style (K7; before it, "every accepted strict LF text")
  -- whose data is within that limit.
  pub restores : Restores
