-- The laws are proved as lemmas.
use Rattle.ts_tap.proofs.PrintedHeads.{printed_heads}
use Rattle.ts_tap.proofs.SentBodies.{one_sent_body, sent_body_front, sent_body_whole}
use Rattle.ts_tap.proofs.laws.sent_bodies.Goals as goal

pub returns-clause-one : goal.returns-clause-one
returns-clause-one c = one_sent_body

pub returns-clause-front : goal.returns-clause-front
returns-clause-front c = sent_body_front

pub returns-clause-whole : goal.returns-clause-whole
returns-clause-whole c = sent_body_whole

pub returns-clause-heads : goal.returns-clause-heads
returns-clause-heads c = printed_heads
