use Rattle.booklaw.proofs.AllCalls.{every_list_is_lawful, rows_stay_while_out}
use Rattle.booklaw.proofs.every_list_is_lawful.Goals as goal

pub returns : goal.returns
returns c = record { law = every_list_is_lawful; rows = rows_stay_while_out }
