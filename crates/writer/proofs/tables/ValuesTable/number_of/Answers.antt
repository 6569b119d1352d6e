-- The rule of the entries. Assumes nothing.
use Rattle.std.proofs.Common.{◌≡◌, ℕ, List, [], ◌∷◌, get_or, refl, ap, ◌∙◌, arith}
use Rattle.base_64.specs.Alphabet.{Octet}
use Rattle.writer.specs.Spread.{spread, entries_of}
use Rattle.writer.proofs.Spread.{table_rule, spread_bound}
use Rattle.writer.proofs.tables.ValuesTable.number_of.Goals as goal

abbrev table : List (List ℕ)
table = entries_of 0 ∷ entries_of 1 ∷ entries_of 2 ∷ []

entry : (p x i : ℕ) (entries : List (List ℕ)) → Octet x → i ≡ x → entries ≡ table → get_or table p [] ≡ entries_of p → get_or (get_or entries p []) i 0 ≡ spread p x
entry p x i entries h e rule row = (λ j. get_or (get_or (rule j) p []) (e j) 0) ∙ ap (λ (l : List ℕ). get_or l x 0) row ∙ table_rule p x h

pub overflow_add-result : goal.overflow_add-result
overflow_add-result c =
    let rule = c.args.self.now.rule in
    omega (
      arith,
      entry 0 c.args.x _ _ (omega arith) c.from.ensures rule refl,
      entry 1 c.args.y _ _ (omega arith) c.from-2.ensures rule refl,
      spread_bound 0 c.args.x (omega arith),
      spread_bound 1 c.args.y (omega arith),
    )

pub overflow_add-result-2 : goal.overflow_add-result-2
overflow_add-result-2 c =
    let rule = c.args.self.now.rule in
    omega (
      arith,
      entry 0 c.args.x _ _ (omega arith) c.from.ensures rule refl,
      entry 1 c.args.y _ _ (omega arith) c.from-2.ensures rule refl,
      entry 2 c.args.z _ _ (omega arith) c.from-3.ensures rule refl,
      spread_bound 0 c.args.x (omega arith),
      spread_bound 1 c.args.y (omega arith),
      spread_bound 2 c.args.z (omega arith),
    )

pub returns : goal.returns
returns c =
    let rule = c.args.self.now.rule in
    rw (
      entry 0 c.args.x _ _ (omega arith) c.from.ensures rule refl,
      entry 1 c.args.y _ _ (omega arith) c.from-2.ensures rule refl,
      entry 2 c.args.z _ _ (omega arith) c.from-3.ensures rule refl,
    )
