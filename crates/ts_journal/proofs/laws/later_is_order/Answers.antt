-- Each state follows itself, and what follows one that follows a third follows that.
use Rattle.ts_journal.proofs.Later.{later_refl, later_trans}
use Rattle.ts_journal.proofs.laws.later_is_order.Goals as goal

pub returns : goal.returns
returns c = record { itself = later_refl; on = later_trans }
