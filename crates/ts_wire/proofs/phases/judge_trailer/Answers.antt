use Rattle.std.proofs.Common.{refl, ap, Err}
use Rattle.ts_wire.proofs.TrailerLemmas.{many_fields_of}
use Rattle.ts_wire.proofs.phases.judge_trailer.Goals as goal

pub returns-in-TooManyHeaders : goal.returns-in-TooManyHeaders
returns-in-TooManyHeaders c = (
  refl,
  many_fields_of c.args.text.now c.in-Err.ensures.no_room
      (c.in-Err.ensures.too_many (ap Err c.in-TooManyHeaders.is)),
)
