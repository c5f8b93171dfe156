-- The three heads and the block are sent as one each.
use Rattle.ts_block.proofs.SentOnce.{request_stays_one, answer_stays_one, response_stays_one}
use Rattle.ts_block.proofs.SentOnce.{blocks_send_one_each}
use Rattle.ts_block.proofs.laws.sends_one_each.Goals as goal

pub returns-clause-requests : goal.returns-clause-requests
returns-clause-requests c = λ setup plain. request_stays_one setup plain

pub returns-clause-answers : goal.returns-clause-answers
returns-clause-answers c = λ setup plain. answer_stays_one setup plain

pub returns-clause-responses : goal.returns-clause-responses
returns-clause-responses c = λ setup plain. response_stays_one setup plain

pub returns-clause-blocks : goal.returns-clause-blocks
returns-clause-blocks c = λ setup plain. blocks_send_one_each setup plain
