-- Demand 2 holds. Assumes nothing.
use Rattle.reading.proofs.Claims as reading
use Rattle.reading.proofs.Claims.{label_exactly, place_exactly}
use Rattle.indexing.proofs.Claims.{bundle_place}
use Rattle.writing.proofs.Claims as writing
use Rattle.writing.proofs.Claims.{written_length, largest_text, reads_back, restores}
use Rattle.zullifern.specs.Demand2.{Demand2}

pub demand2 : Demand2
demand2 = record {
  reads = reading.zero_exactly;
  label = label_exactly;
  place = place_exactly;
  bundle_place = bundle_place;
  writes = writing.zero_exactly;
  written_length = written_length;
  largest = largest_text;
  reads_back = reads_back;
  restores = restores;
}
