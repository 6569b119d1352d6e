-- `leaps::padded` meets its contract. Assumes nothing.
use Rattle.std.proofs.Common.{◌≡◌, arith, rules}
use Rattle.machine.specs.declared.LaxPhase.TheVariants as lax
use Rattle.machine.specs.declared.StandardPhase.TheVariants as standard
use Rattle.machine.specs.declared.StrictPhase.TheVariants as strict
use Rattle.machine.specs.declared.Phase.TheVariants.{Lax, Standard, Strict}
use Rattle.leaps.proofs.Phases.{lax_pads, standard_pads, strict_pads}
use Rattle.leaps.proofs.padded.Goals as goal

pub returns-in-Lax-Data-eq1 : goal.returns-in-Lax-Data-eq1
returns-in-Lax-Data-eq1 c = let e : c.args.phase ≡ Lax lax.Data = search rules in λ g. rw (e, c.in-Lax-Data-eq1.is-1) (lax_pads g).0

pub returns-in-Lax-Data-eq2 : goal.returns-in-Lax-Data-eq2
returns-in-Lax-Data-eq2 c = let e : c.args.phase ≡ Lax lax.Data = search rules in λ g. rw (e, c.in-Lax-Data-eq2.is-1) (lax_pads g).1

pub returns-in-Standard-Data-eq1 : goal.returns-in-Standard-Data-eq1
returns-in-Standard-Data-eq1 c = let e : c.args.phase ≡ Standard standard.Data = search rules in λ g. rw (e, c.in-Standard-Data-eq1.is-1) (standard_pads g).0

pub returns-in-Standard-Data-eq2 : goal.returns-in-Standard-Data-eq2
returns-in-Standard-Data-eq2 c = let e : c.args.phase ≡ Standard standard.Data = search rules in λ g. rw (e, c.in-Standard-Data-eq2.is-1) (standard_pads g).1

pub returns-in-Strict-Data-eq1 : goal.returns-in-Strict-Data-eq1
returns-in-Strict-Data-eq1 c =
    let room = c.in-Strict-Data-eq1.room in
    let e : c.args.phase ≡ Strict (strict.Data room) = search rules in
    λ g. rw e (strict_pads g room c.args.pads (omega arith) (omega arith) (omega arith))
