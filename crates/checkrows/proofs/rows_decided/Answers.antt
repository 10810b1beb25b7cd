use Rattle.checkrows.proofs.RowsPass.{rows_on_sheet, passed_plan, plan_rows, full_counts}
use Rattle.checkrows.proofs.rows_decided.Goals as goal

pub returns : goal.returns
returns c n lines rows = (
  (λ h g. (passed_plan n lines rows h g, rows_on_sheet n lines rows h)),
  (λ p o. (plan_rows n lines rows p o, full_counts lines rows p.full)),
)
