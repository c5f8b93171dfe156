-- A new side did nothing that the recording does not say.
use Rattle.std.proofs.Common.{sym, ap, ◌∙◌}
use Rattle.std.specs.Option.{is_some}
use Rattle.ts_link.specs.MemLink.{LinkState}
use Rattle.ts_record.proofs.Links.{goes_as_made}
use Rattle.ts_record.proofs.link.RecordedLink.make.Goals as goal

pub invariant_of-result : goal.invariant_of-result
invariant_of-result c = (
  goes_as_made c.args.pieces.items c.args.leave c.of_pieces.result c.of_pieces.ensures.made,
  c.is_some.ensures ∙ sym (ap (λ (l : LinkState). is_some l.may_take) c.of_pieces.ensures.made),
)
