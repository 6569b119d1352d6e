-- The rest of the text starts with the rest of the word. Assumes nothing.
use Rattle.std.proofs.Common.{sym, ◌∙◌}
use Rattle.std.proofs.lemmas.List.{take_rest}
use Rattle.runs.proofs.Standing.{word_stands}
use Rattle.runs.proofs.stands.Goals as goal

pub returns : goal.returns
returns c =
    let h = c.starts_with.ensures in
    λ e. word_stands _ _ _ _ c.requires.0 c.requires.1 (simp take_rest at (h.bound e)) (sym (simp take_rest at h.value) ∙ e)
