use Rattle.ts_request.proofs.OneUpload.{one_shown}
use Rattle.ts_request.proofs.laws.one_shown.Goals as goal

pub returns : goal.returns
returns c = one_shown
