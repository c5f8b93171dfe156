-- The reader was fed with a block, and what of it is body came to the chain.
use Rattle.std.proofs.Common.{refl}
use Rattle.ts_passing.proofs.Fed.{feeds_part}
use Rattle.ts_request.proofs.passage.Passage.feed.Goals as goal

pub returns-in-Ok-clause-ok : goal.returns-in-Ok-clause-ok
returns-in-Ok-clause-ok g c = record {
  feeds = feeds_part c.args.self.now.body c.feed-fed.new.self c.args.self.now.chain c.give_part.new.chain
      c.args.inbox.now c.take.new.self c.in-Some.block.now c.feed-fed.result c.in-Some.ensures.0
      c.in-Some.ensures.2
      c.feed-fed.ensures.takes c.feed-fed.ensures.goes_on c.take.ensures c.in-Ok.ensures.ok;
  lost = refl;
  mode = refl;
  ended = refl;
}
