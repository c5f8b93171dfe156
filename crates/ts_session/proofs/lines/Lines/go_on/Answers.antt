-- A byte of a line was written.
use Rattle.ts_session.proofs.LineFronts.{byte_over}
use Rattle.ts_session.proofs.lines.Lines.go_on.Goals as goal

pub returns : goal.returns
returns c =
    byte_over c.args.self c.args.b c.go_on.result c.requires.going c.requires.other c.go_on.ensures
