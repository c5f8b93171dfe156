use Rattle.ts_request.proofs.OneUpload.{one_upload}
use Rattle.ts_request.proofs.laws.one_upload.Goals as goal

pub returns : goal.returns
returns c = one_upload
