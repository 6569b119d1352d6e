-- Slots 3 and 4 name the label's part. Assumes nothing.
use Rattle.std.proofs.Common.{refl, ap, ◌∙◌}
use Rattle.zullifern.specs.Reports.{judged_report}
use Rattle.zullifern.proofs.Reports.{label_reported, report_hands_back}
use Rattle.zullifern.proofs.zullifern_label.Goals as goal

pub returns : goal.returns
returns c =
    let same = c.label_report.ensures ∙ ap judged_report c.judge.ensures in
    (refl, same, rw same (report_hands_back _ _), rw same (label_reported _ _))
