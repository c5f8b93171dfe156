-- The request is one, and that of the block.
use Rattle.std.specs.Prelude.{◌≡◌, true}
use Rattle.ts_block.proofs.BlockRequest.{block_request, request_one}
use Rattle.ts_block.proofs.block.one_sent_request.Goals as goal

pub returns-clause-one : goal.returns-clause-one
returns-clause-one c = λ setup dialed client x y. request_one setup dialed client x y

pub returns-clause-block : goal.returns-clause-block
returns-clause-block c = λ setup dialed refuses o client b. block_request setup dialed (refuses ≡ true) o client b
