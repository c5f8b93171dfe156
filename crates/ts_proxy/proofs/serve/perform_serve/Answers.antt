-- The files are read, and the net is served.
use Rattle.std.proofs.Common.{[]}
use Rattle.ts_config.specs.Setup.{lines_of}
use Rattle.ts_words.specs.Serve.{words_of}
use Rattle.ts_proxy.specs.Outcome.{Serving}
use Rattle.ts_proxy.proofs.Serving.{net-served, net-unserved, performed-served}
use Rattle.ts_proxy.proofs.serve.perform_serve.Goals as goal

pub returns-in-Err-clause-net : goal.returns-in-Err-clause-net
returns-in-Err-clause-net g c =
    rw c.without.ensures.answer
    (net-unserved g.N.Client.Link g.N.Origin.Link g.N.Origin.Upstream
    (words_of c.args.task.now) g.S.Shelf.tells
    g.N.Net.tells (g.S.Shelf.seen c.args.shelf.now) (g.S.Shelf.seen c.set_up.new.shelf) c.in-Err.answer
    (g.N.Net.seen c.args.net.now) c.requires.net (λ tells. c.in-Err.ensures.told tells []
    (λ lines. Serving lines))
    c.in-Err.ensures.cause)

pub returns-clause-performed : goal.returns-clause-performed
returns-clause-performed g c = λ out_tells out.
    rw c.without-2.ensures.answer
    (performed-served (words_of c.args.task.now) g.S.Shelf.tells out_tells (g.S.Shelf.seen c.args.shelf.now)
    (g.S.Shelf.seen c.set_up.new.shelf) out c.serve_net-answer.result _ (lines_of c.in-Ok.setup)
    c.args.task.now.connections (g.N.Net.seen c.args.net.now) (g.N.Net.seen c.serve_net-answer.new.net)
    (λ tells. c.in-Ok.ensures.told tells [] (λ lines. Serving lines)) c.in-Ok.ensures.same
    c.serve_net-answer.ensures.left.ended
    c.without-2.ensures.none)

pub returns-clause-net : goal.returns-clause-net
returns-clause-net g c =
    rw c.without-2.ensures.answer
    (net-served g.N.Client.Link g.N.Origin.Link g.N.Origin.Upstream (words_of c.args.task.now) g.S.Shelf.tells
    g.N.Net.tells (g.S.Shelf.seen c.args.shelf.now) (g.S.Shelf.seen c.set_up.new.shelf)
    c.serve_net-answer.result
    c.in-Ok.setup (g.N.Net.seen c.args.net.now) (g.N.Net.seen c.serve_net-answer.new.net)
    (λ tells. c.in-Ok.ensures.told tells [] (λ lines. Serving lines)) c.serve_net-answer.ensures.retired
    c.serve_net-answer.ensures.sessions c.serve_net-answer.ensures.noted c.serve_net-answer.ensures.left)
