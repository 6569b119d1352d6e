-- A group more, and all of them. Assumes nothing.
use Rattle.std.proofs.Common.{◌≡◌, ◌+◌, ◌*◌, ℕ, take, ap, ◌∙◌, arith, length-set}
use Rattle.base_64.specs.Groups.{to_values}
use Rattle.writing.proofs.Placed.{placed}
use Rattle.writer.proofs.Values.{values_more, values_all}
use Rattle.writer.proofs.line.put_values.Goals as goal

pub loop-q-preserved : goal.loop-q-preserved
loop-q-preserved c =
    let line = c.args.line.now in
    let q = c.loop-q.q in
    let inv = c.loop-q.invariant in
    rw c.put_number.ensures (
      simp length-set inv.0,
      values_more line c.args.out.now c.loop-q.out q c.number_of-number.result c.requires.0 c.requires.1 (omega arith) inv.0
          (omega (arith, c.type_inv.line (3 * q))) (omega (arith, c.type_inv.line (3 * q + 1))) (omega (arith, c.type_inv.line (3 * q + 2)))
          c.number_of-number.ensures inv.1,
    )

pub returns : goal.returns
returns c =
    let line = c.args.line.now in
    let out = c.args.out.now in
    let all : 3 * c.loop-q.q ≡ 48 = omega arith in
    values_all line out c.loop-q.out c.requires.0 c.requires.1 (c.loop-q.invariant.1 ∙ ap (λ (n : ℕ). placed out 0 (to_values (take n line))) all)
