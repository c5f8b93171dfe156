use Rattle.std.specs.Prelude.{refl, true, false}
use Rattle.ts_txn.specs.Net.{raised_by_dial}
use Rattle.ts_txn.specs.declared.net.Dialed.TheVariants as dialed
use Rattle.ts_serve.proofs.Books.{keeps_books}
use Rattle.ts_serve.proofs.step.note_and_dial.Goals as goal

pub returns-in-Origin-clause-books : goal.returns-in-Origin-clause-books
returns-in-Origin-clause-books g c =
    keeps_books g.N.ClientSource.tells g.W.Handler.is_done g.W.Handler.is_note c.args.row.now.items
    c.add_connection.new.row.items c.args.k c.args.made c.args.noted true
    (raised_by_dial (dialed.Origin c.in-Origin.origin)) (g.N.ClientSource.seen c.args.net.now)
    (g.N.ClientSource.seen c.note.new.self) (g.N.ClientSource.seen c.dial.new.self) c.requires.row refl refl
    refl
    c.in_ok-note.ensures.ok c.in-Origin.ensures.nobody c.in-Origin.ensures.counts c.add_connection.ensures

pub returns-in-Failed-clause-books : goal.returns-in-Failed-clause-books
returns-in-Failed-clause-books g c =
    keeps_books g.N.ClientSource.tells g.W.Handler.is_done g.W.Handler.is_note c.args.row.now.items
    c.add_connection-in-Failed.new.row.items c.args.k c.args.made c.args.noted false
    (raised_by_dial {O = g.row.N-Origin.Denot} dialed.Failed) (g.N.ClientSource.seen c.args.net.now)
    (g.N.ClientSource.seen c.note.new.self) (g.N.ClientSource.seen c.dial.new.self) c.requires.row refl refl
    refl
    c.in_ok-note.ensures.ok c.in-Failed.ensures.nobody c.in-Failed.ensures.counts
    c.add_connection-in-Failed.ensures
