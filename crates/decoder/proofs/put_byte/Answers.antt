-- A byte that completes none of the data leaves the output as it is, another is written. Assumes nothing.
use Rattle.std.proofs.Common.{◌+◌, refl, sym}
use Rattle.decoder.proofs.Decoding.{decoding_held, decoding_below, decoding_given}
use Rattle.decoder.specs.Decoding.{Decoding}
use Rattle.decoder.proofs.put_byte.Goals as goal
use Rattle.decoder.proofs.put_byte.Goals.{in-Some, in-None}

pub bounds-out-done : goal.bounds-out-done
bounds-out-done c = decoding_below c.requires.1 c.requires.0 (sym c.feed_byte-fed.ensures) c.in-Some.is

pub returns : goal.returns
returns c =
    let so_far = c.requires.1 in
    let fed = sym c.feed_byte-fed.ensures in
    let more : Decoding c.args.body.now c.match-fed.out c.feed_byte-fed.result.group c.match-fed.written (c.args.done.read + 1) =
    elim c.match-fed.branch [
      | in-Some w ↦ rw (w.out-is, w.written-is) (decoding_given so_far c.requires.0 fed w.in-Some.is)
      | in-None w ↦ rw (w.out-is, w.written-is) (decoding_held so_far c.requires.0 fed w.in-None.is)
    ] in
    (c.match-fed.auto.out, refl, more)
