-- A client came, and an origin was dialed for it: the books stay right.
use Rattle.std.proofs.Common.{true, false}
use Rattle.ts_serve.proofs.Books.{books_dialed}
use Rattle.ts_serve.proofs.arrival.receive.Goals as goal

pub returns-in-Origin-clause-books : goal.returns-in-Origin-clause-books
returns-in-Origin-clause-books g c = λ telling terms any misdials.
    books_dialed (g.W.Handler.is_done terms) (g.W.Handler.is_note terms) misdials c.args.row.now.items
    c.add_connection.new.row.items c.args.k c.args.number c.args.made true c.first_of.result
    (g.N.ClientSource.seen c.args.net.now) (g.N.ClientSource.seen c.accept.new.self)
    (g.N.ClientSource.seen c.dial.new.self) c.requires.place c.requires.free c.requires.number
    c.in-Client.ensures.client.number c.in-Client.ensures.handed c.in-Client.ensures.counts.misdials
    c.in-Origin.ensures.nobody c.in-Origin.ensures.counts.misdials c.add_connection.ensures c.first_of.ensures

pub returns-in-Failed-dial-clause-books : goal.returns-in-Failed-dial-clause-books
returns-in-Failed-dial-clause-books g c = λ telling terms any misdials.
    books_dialed (g.W.Handler.is_done terms) (g.W.Handler.is_note terms) misdials c.args.row.now.items
    c.add_connection-in-Failed-dial.new.row.items c.args.k c.args.number c.args.made false c.first_of-in-Failed-dial.result
    (g.N.ClientSource.seen c.args.net.now) (g.N.ClientSource.seen c.accept.new.self)
    (g.N.ClientSource.seen c.dial.new.self) c.requires.place c.requires.free c.requires.number
    c.in-Client.ensures.client.number c.in-Client.ensures.handed c.in-Client.ensures.counts.misdials
    c.in-Failed-dial.ensures.nobody c.in-Failed-dial.ensures.counts.misdials c.add_connection-in-Failed-dial.ensures c.first_of-in-Failed-dial.ensures
