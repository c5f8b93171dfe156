use Rattle.std.proofs.Common.{◌∙◌, ◌++◌, ap, subst, sym}
use Rattle.ts_record.specs.Grammar.{contents}
use Rattle.ts_record.specs.Keywords.{keyword_text, header_of}
use Rattle.ts_record.specs.Offsets.{RefusesAt}
use Rattle.ts_record.proofs.Same.{one_recording}
use Rattle.ts_record.proofs.Whole.{no_header, header_behind}
use Rattle.ts_record.proofs.read.read_recording.Goals as goal

pub returns-in-Err-clause-refusal : goal.returns-in-Err-clause-refusal
returns-in-Err-clause-refusal c =
    subst (RefusesAt c.args.bytes.now) (sym c.refusal_of.ensures)
    (no_header c.args.bytes.now c.in-Err.left c.in-Err.ensures.refused)

pub returns-in-Ok-read_txns-clause-one : goal.returns-in-Ok-read_txns-clause-one
returns-in-Ok-read_txns-clause-one c =
    λ other is. one_recording c.args.bytes.now (contents c.in-Ok.cut.0 c.in-Ok-read_txns.txns.items) other
    (record {
      limits = c.in-Ok-read_txns.ensures.limits;
      text = c.in-Ok.ensures.text
          ∙ ap (λ t. keyword_text (header_of c.in-Ok.cut.0) ++ t) c.in-Ok-read_txns.ensures.text;
    }) is

pub returns-in-Err-read_txns-clause-refusal : goal.returns-in-Err-read_txns-clause-refusal
returns-in-Err-read_txns-clause-refusal c =
    subst (RefusesAt c.args.bytes.now) (sym c.refusal_of-in-Err-read_txns.ensures)
    (header_behind c.in-Ok.cut.0 c.args.bytes.now c.in-Ok.cut.1.now c.in-Err-read_txns.refusal
    c.in-Ok.ensures.version c.in-Ok.ensures.text c.in-Err-read_txns.ensures.refused)
