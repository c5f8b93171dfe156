-- Each text is held against one byte more.
use Rattle.std.proofs.Common.{[], arith, length, length-append, ◌∷◌}
use Rattle.ts_session.proofs.lines.LineFront.go_on.Goals as goal

pub returns : goal.returns
returns c line is = record {
  at_is = omega (arith, c.one_more.ensures (length line) is.at_is, length-append line (c.args.b ∷ []));
  no_content = c.goes_on.ensures line is.at_is is.no_content;
  not_modified = c.goes_on-2.ensures line is.at_is is.not_modified;
  sized = c.goes_on-3.ensures line is.at_is is.sized;
  chunked = c.goes_on-4.ensures line is.at_is is.chunked;
  closes = c.goes_on-5.ensures line is.at_is is.closes;
  empty = c.goes_on-6.ensures line is.at_is is.empty;
}
