-- The client that was in the row for the place was handed over, and the balance, the notes and the sessions
-- stay right.
use Rattle.std.proofs.Common.{◌≡◌, ◌∙◌, ◌<◌, get_or, subst, sym, arith}
use Rattle.std.proofs.lemmas.List.{get_or_read, get_or-set_same}
use Rattle.ts_slot.specs.Limits.{last_turn}
use Rattle.ts_txn.specs.Net.{IsHanded}
use Rattle.ts_serve.specs.Notes.{notes_of}
use Rattle.ts_serve.specs.declared.connection.Connection.TheVariants.{Free, Accepted}
use Rattle.ts_serve.proofs.Balance.{balance_out, no_more_out}
use Rattle.ts_serve.proofs.Cleared.{goes_out, runs_on}
use Rattle.ts_serve.proofs.Closing.{made_over, session_over}
use Rattle.ts_serve.proofs.clear.clear_place.Goals as goal

pub returns-then-may_hand_over-clause-balance : goal.returns-then-may_hand_over-clause-balance
returns-then-may_hand_over-clause-balance g c = λ tells terms fits misdials balance.
    let row = c.args.row.now.items in
    let connected = c.in-Accepted in
    let old = g.N.ClientSource.seen c.args.net.now in
    let new = g.N.ClientSource.seen c.hand_over.new.net in
    let found : get_or row c.args.k Free ≡ Accepted connected.whose connected.started connected.made =
    sym (get_or_read row c.args.k c.index.result.now c.requires.place c.index.ensures Free) ∙ connected.is in
    let over = c.in_ok-hand_over.ensures.ok terms fits in
    balance_out (g.W.Handler.is_done terms) misdials row c.args.k connected.whose connected.started
    connected.made
    over.retired old new c.requires.place found
    (subst (λ told. IsHanded told over.retired old new) tells over.handed) over.number_is over.origin_is
    over.done balance

pub returns-then-may_hand_over-clause-sessions : goal.returns-then-may_hand_over-clause-sessions
returns-then-may_hand_over-clause-sessions g c = λ tells terms fits misdials was.
    let row = c.args.row.now.items in
    let connected = c.in-Accepted in
    let old = g.N.ClientSource.seen c.args.net.now in
    let new = g.N.ClientSource.seen c.hand_over.new.net in
    let found : get_or row c.args.k Free ≡ Accepted connected.whose connected.started connected.made =
    sym (get_or_read row c.args.k c.index.result.now c.requires.place c.index.ensures Free) ∙ connected.is in
    let still = c.if-made-ge-LAST_TURN.false in
    let young : connected.made < last_turn = omega arith in
    let made = made_over g.W.World.sound g.W.Handler.whose_of g.W.Handler.is_ended g.W.Handler.may_wait
    connected.whose connected.made c.args.group (c.may_hand_over.ensures.0 c.if-may_hand_over.true) in
    let over = c.in_ok-hand_over.ensures.ok
    (g.W.Handler.behind terms (notes_of connected.whose.number old.noted))
    (fits connected.whose connected.started connected.made found made young) in
    session_over (g.W.Handler.is_note terms) (λ notes. g.W.Handler.is_done (g.W.Handler.behind terms notes))
    misdials row c.args.k connected.whose connected.started connected.made over.retired old new
    c.requires.place
    found (subst (λ told. IsHanded told over.retired old new) tells over.handed) over.number_is over.origin_is
    over.done was

pub returns-then-may_hand_over-clause-net : goal.returns-then-may_hand_over-clause-net
returns-then-may_hand_over-clause-net g c =
    let row = c.args.row.now.items in
    let connected = c.in-Accepted in
    let found : get_or row c.args.k Free ≡ Accepted connected.whose connected.started connected.made =
    sym (get_or_read row c.args.k c.index.result.now c.requires.place c.index.ensures Free) ∙ connected.is in
    let no_more = no_more_out row c.args.k connected.whose connected.started connected.made
    (g.N.ClientSource.seen c.args.net.now) (g.N.ClientSource.seen c.hand_over.new.net) c.requires.place found
    c.in_ok-hand_over.ensures.more c.hand_over.ensures.net.given in
    (c.hand_over.ensures.net, no_more)

pub returns-then-may_hand_over-clause-cleared : goal.returns-then-may_hand_over-clause-cleared
returns-then-may_hand_over-clause-cleared g c =
    goes_out g.W.Handler.whose_of g.W.Handler.is_ended g.W.Handler.may_wait c.args.k c.args.group
    c.args.row.now.items _ (get_or-set_same c.args.row.now.items c.args.k Free Free c.requires.place)

pub returns-clause-cleared : goal.returns-clause-cleared
returns-clause-cleared g c =
    let row = c.args.row.now.items in
    let connected = c.in-Accepted in
    let found : get_or row c.args.k Free ≡ Accepted connected.whose connected.started connected.made =
    sym (get_or_read row c.args.k c.index.result.now c.requires.place c.index.ensures Free) ∙ connected.is in
    runs_on g.W.Handler.whose_of g.W.Handler.is_ended g.W.Handler.may_wait c.args.k c.args.group row row
    connected.whose connected.started connected.made found
    (c.is_running.ensures.0 c.if-not-is_running.false)
