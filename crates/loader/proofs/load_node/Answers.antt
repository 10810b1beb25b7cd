use Rattle.std.proofs.Common.{◌∙◌, inr}
use Rattle.booklaw.specs.Calls.{as_returned}
use Rattle.loader.proofs.Loading.{left_returned, as_issued, is_loaded, never_refused}
use Rattle.loader.proofs.load_node.Goals as goal

-- the slip that was issued is known, so it is taken back
pub returns-in-Ok-hand_back_loaded : goal.returns-in-Ok-hand_back_loaded
returns-in-Ok-hand_back_loaded c =
    let issue = c.in_ok-slip.ensures in
    let read = c.in-Ok.ensures in
    is_loaded _ _ c.args.node issue.does c.in_ok-slip.slip issue.slip c.in-Ok.read read.answer.1 _ _ _ read.answer.0 read.rows _ _
    c.in-Ok-hand_back_loaded.ensures.does

pub returns-in-Ok-hand_back_returned : goal.returns-in-Ok-hand_back_returned
returns-in-Ok-hand_back_returned c =
    let issue = c.in_ok-slip.ensures in
    let read = c.in-Err.ensures in
    let back = as_issued _ _ c.args.node issue.does c.in-Err.unread (read.answer ∙ issue.slip) as_returned _ _ c.in-Ok-hand_back_returned.ensures.does in
    record { kept = read.rows; left = inr (left_returned _ _ c.args.node issue.does _ _ back) }
