-- The blocks are one list, so the text that is made of them is one.
use Rattle.std.proofs.Common.{ap, sym, ◌∙◌}
use Rattle.ts_proxy.specs.Summary.{fixed_lines, summary_of, summary_text, txns_of}
use Rattle.ts_proxy.proofs.laws.one_summary.Goals as goal

pub returns : goal.returns
returns c = λ n a b h k.
    h.text_is
    ∙ ap (λ bs. summary_text (summary_of bs))
    (c.one_report.ensures.blocks fixed_lines (txns_of n) h.blocks k.blocks h.are k.are)
    ∙ sym k.text_is
