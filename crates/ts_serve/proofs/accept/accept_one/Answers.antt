-- Each place is a group of the server, and the server is served on: with the client that came, or as it was.
use Rattle.std.proofs.Common.{◌≡◌, ◌∙◌, [], ap, is_some, sym, subst, arith}
use Rattle.ts_lists.proofs.Places.{place_below}
use Rattle.ts_slot.specs.Words.{tags_of, view}
use Rattle.ts_serve.specs.Arrivals.{given_after}
use Rattle.ts_serve.specs.Balance.{row_after}
use Rattle.ts_serve.specs.Knowledge.{KnowsPlace}
use Rattle.ts_serve.specs.Tenants.{IsPlaceOf}
use Rattle.ts_serve.proofs.Accounts.{acceptor_more}
use Rattle.ts_serve.proofs.Follows.{nobody_row, same_terms, serves_came, serves_nobody}
use Rattle.ts_serve.proofs.accept.accept_one.Goals as goal

pub enter-requires-clause-group : goal.enter-requires-clause-group
enter-requires-clause-group g c =
    let server = c.requires.server.server in
    place_below (tags_of c.args.slots.now) c.in-Some.k _ (server.2 c.in-Some.k c.in-Some.ensures.0)

pub returns-in_default-empty_group-clause-keeps : goal.returns-in_default-empty_group-clause-keeps
returns-in_default-empty_group-clause-keeps g c =
    acceptor_more (view c.args.seat.now).known (view c.leave_found.new.seat).known c.args.acceptor.now
    (g.N.ClientSource.seen c.args.net.now)
    (c.in-Some-enter.ensures.keeps (view c.leave_found.new.seat) c.leave_found.ensures.leaves).known

pub returns-in_default-receive_at-clause-seat : goal.returns-in_default-receive_at-clause-seat
returns-in_default-receive_at-clause-seat g c = (
  c.leave_found-in_default-receive_at.ensures.seat,
  c.in-Some-enter.ensures.keeps (view c.leave_found-in_default-receive_at.new.seat)
      c.leave_found-in_default-receive_at.ensures.leaves,
)

pub returns-in_default-receive_at-clause-keeps : goal.returns-in_default-receive_at-clause-keeps
returns-in_default-receive_at-clause-keeps g c =
    let seat = view c.leave_found-in_default-receive_at.new.seat in
    record {
      account = c.receive_at.ensures.keeps.0;
      serving = λ telling terms are misdials was.
          serves_nobody g.W.Slotted.fits g.W.Tenant.keeps g.P.Slotted.fits g.W.Handler.behind g.W.Handler.is_done
          g.W.Handler.is_spent g.W.Handler.is_note terms misdials (view c.args.seat.now).known seat.known
          c.args.acceptor.now.row.items c.receive_at.new.acceptor.row.items
          (g.N.ClientSource.seen c.args.net.now) (g.N.ClientSource.seen c.receive_at.new.net)
          (c.receive_at.ensures.row.0 ∙ nobody_row c.in-Some.k c.receive_at.new.acceptor.came _
          c.receive_at.result c.args.acceptor.now.row.items c.in_default-receive_at.not-Came)
          c.receive_at.ensures.keeps.1
          (c.in-Some-enter.ensures.keeps seat c.leave_found-in_default-receive_at.ensures.leaves).known
          (c.receive_at.ensures.keeps.2 telling terms tt misdials was.books) was;
    }

pub put_next-requires-clause-lives : goal.put_next-requires-clause-lives
put_next-requires-clause-lives g c =
    let server = c.requires.server.server in
    let here : c.open_turn.new.turn.group ≡ c.in-Some.k =
    ap (λ t. t.group) c.open_turn.ensures.same ∙ c.in-Some-enter.ensures.group in
    record {
      terms = server.0;
      place = subst (λ k. IsPlaceOf (tags_of c.args.slots.now) k server.0) (sym here)
          (server.2 c.in-Some.k c.in-Some.ensures.0);
      lives = c.in-Ok-make.ensures.lives server.0 server.1;
    }

pub returns-in_err-put_next-in-Ok-make-clause-keeps : goal.returns-in_err-put_next-in-Ok-make-clause-keeps
returns-in_err-put_next-in-Ok-make-clause-keeps g c =
    let server = c.requires.server.server in
    let k = c.in-Some.k in
    let turn = c.open_turn.new.turn in
    let tags = tags_of c.args.slots.now in
    let seat = view c.put_next.new.seat in
    let here : turn.group ≡ k = ap (λ t. t.group) c.open_turn.ensures.same ∙ c.in-Some-enter.ensures.group in
    let made : turn.number ≡ c.number-2.result =
    ap (λ t. t.number) c.open_turn.ensures.same ∙ sym c.number-2.ensures in
    let row = c.args.acceptor.now.row.items in
    let is = subst (λ r. c.receive_at.new.acceptor.row.items
    ≡ row_after k c.receive_at.new.acceptor.came c.number-2.result r row) c.in-Came.is
    c.receive_at.ensures.row.0 in
    let came = subst (λ r. c.receive_at.new.acceptor.came ≡ given_after c.args.acceptor.now.came r) c.in-Came.is
    c.receive_at.ensures.row.1 in
    let before = c.requires.acceptor.came in
    let long = c.requires.acceptor.row in
    let low = c.in-Some.ensures.0 in
    record {
      account = c.receive_at.ensures.keeps.0;
      serving = λ telling terms are misdials was.
          let same = same_terms tags k server.0 terms (server.2 k low) (are k low) in
          serves_came g.W.Slotted.fits g.W.Tenant.keeps g.P.Slotted.fits g.W.Handler.behind g.W.Handler.is_done
          g.W.Handler.is_spent g.W.Handler.is_note terms misdials (view c.args.seat.now).known seat.known row
          c.receive_at.new.acceptor.row.items k c.receive_at.new.acceptor.came c.number-2.result
          (is_some c.in-Came.origin) (g.N.ClientSource.seen c.args.net.now)
          (g.N.ClientSource.seen c.receive_at.new.net) (omega (arith, low, long)) (omega (arith, came, before)) is
          c.receive_at.ensures.keeps.1 (c.in-Some-enter.ensures.keeps seat c.put_next.ensures.leaves).known
          (subst (λ i. KnowsPlace g.W.Slotted.fits g.W.Tenant.keeps g.P.Slotted.fits
          (g.W.Handler.behind terms []) seat.known i c.number-2.result) here
          (subst (λ n. KnowsPlace g.W.Slotted.fits g.W.Tenant.keeps g.P.Slotted.fits
          (g.W.Handler.behind terms []) seat.known turn.group n) made
          (c.put_next.ensures.left (g.W.Handler.behind terms []) (c.in-Ok-make.ensures.first terms (subst (g.W.Handler.are_terms c.args.setting.now) same server.1)))))
          (c.receive_at.ensures.keeps.2 telling terms tt misdials was.books) was;
    }

pub returns-in_ok-put_next-in-Ok-make-clause-keeps : goal.returns-in_ok-put_next-in-Ok-make-clause-keeps
returns-in_ok-put_next-in-Ok-make-clause-keeps g c =
    let server = c.requires.server.server in
    let k = c.in-Some.k in
    let turn = c.open_turn.new.turn in
    let tags = tags_of c.args.slots.now in
    let seat = view c.put_next.new.seat in
    let here : turn.group ≡ k = ap (λ t. t.group) c.open_turn.ensures.same ∙ c.in-Some-enter.ensures.group in
    let made : turn.number ≡ c.number-2.result =
    ap (λ t. t.number) c.open_turn.ensures.same ∙ sym c.number-2.ensures in
    let row = c.args.acceptor.now.row.items in
    let is = subst (λ r. c.receive_at.new.acceptor.row.items
    ≡ row_after k c.receive_at.new.acceptor.came c.number-2.result r row) c.in-Came.is
    c.receive_at.ensures.row.0 in
    let came = subst (λ r. c.receive_at.new.acceptor.came ≡ given_after c.args.acceptor.now.came r) c.in-Came.is
    c.receive_at.ensures.row.1 in
    let before = c.requires.acceptor.came in
    let long = c.requires.acceptor.row in
    let low = c.in-Some.ensures.0 in
    record {
      account = c.receive_at.ensures.keeps.0;
      serving = λ telling terms are misdials was.
          let same = same_terms tags k server.0 terms (server.2 k low) (are k low) in
          serves_came g.W.Slotted.fits g.W.Tenant.keeps g.P.Slotted.fits g.W.Handler.behind g.W.Handler.is_done
          g.W.Handler.is_spent g.W.Handler.is_note terms misdials (view c.args.seat.now).known seat.known row
          c.receive_at.new.acceptor.row.items k c.receive_at.new.acceptor.came c.number-2.result
          (is_some c.in-Came.origin) (g.N.ClientSource.seen c.args.net.now)
          (g.N.ClientSource.seen c.receive_at.new.net) (omega (arith, low, long)) (omega (arith, came, before)) is
          c.receive_at.ensures.keeps.1 (c.in-Some-enter.ensures.keeps seat c.put_next.ensures.leaves).known
          (subst (λ i. KnowsPlace g.W.Slotted.fits g.W.Tenant.keeps g.P.Slotted.fits
          (g.W.Handler.behind terms []) seat.known i c.number-2.result) here
          (subst (λ n. KnowsPlace g.W.Slotted.fits g.W.Tenant.keeps g.P.Slotted.fits
          (g.W.Handler.behind terms []) seat.known turn.group n) made
          (c.put_next.ensures.left (g.W.Handler.behind terms []) (c.in-Ok-make.ensures.first terms (subst (g.W.Handler.are_terms c.args.setting.now) same server.1)))))
          (c.receive_at.ensures.keeps.2 telling terms tt misdials was.books) was;
    }

pub returns-in_err-put_next-in-Err-clause-keeps : goal.returns-in_err-put_next-in-Err-clause-keeps
returns-in_err-put_next-in-Err-clause-keeps g c =
    let server = c.requires.server.server in
    let k = c.in-Some.k in
    let turn = c.open_turn.new.turn in
    let tags = tags_of c.args.slots.now in
    let seat = view c.put_next-in-Err.new.seat in
    let here : turn.group ≡ k = ap (λ t. t.group) c.open_turn.ensures.same ∙ c.in-Some-enter.ensures.group in
    let made : turn.number ≡ c.number-2.result =
    ap (λ t. t.number) c.open_turn.ensures.same ∙ sym c.number-2.ensures in
    let row = c.args.acceptor.now.row.items in
    let is = subst (λ r. c.receive_at.new.acceptor.row.items
    ≡ row_after k c.receive_at.new.acceptor.came c.number-2.result r row) c.in-Came.is
    c.receive_at.ensures.row.0 in
    let came = subst (λ r. c.receive_at.new.acceptor.came ≡ given_after c.args.acceptor.now.came r) c.in-Came.is
    c.receive_at.ensures.row.1 in
    let before = c.requires.acceptor.came in
    let long = c.requires.acceptor.row in
    let low = c.in-Some.ensures.0 in
    record {
      account = c.receive_at.ensures.keeps.0;
      serving = λ telling terms are misdials was.
          let same = same_terms tags k server.0 terms (server.2 k low) (are k low) in
          serves_came g.W.Slotted.fits g.W.Tenant.keeps g.P.Slotted.fits g.W.Handler.behind g.W.Handler.is_done
          g.W.Handler.is_spent g.W.Handler.is_note terms misdials (view c.args.seat.now).known seat.known row
          c.receive_at.new.acceptor.row.items k c.receive_at.new.acceptor.came c.number-2.result
          (is_some c.in-Came.origin) (g.N.ClientSource.seen c.args.net.now)
          (g.N.ClientSource.seen c.receive_at.new.net) (omega (arith, low, long)) (omega (arith, came, before)) is
          c.receive_at.ensures.keeps.1 (c.in-Some-enter.ensures.keeps seat c.put_next-in-Err.ensures.leaves).known
          (subst (λ i. KnowsPlace g.W.Slotted.fits g.W.Tenant.keeps g.P.Slotted.fits
          (g.W.Handler.behind terms []) seat.known i c.number-2.result) here
          (subst (λ n. KnowsPlace g.W.Slotted.fits g.W.Tenant.keeps g.P.Slotted.fits
          (g.W.Handler.behind terms []) seat.known turn.group n) made
          (c.put_next-in-Err.ensures.left (g.W.Handler.behind terms []) tt)))
          (c.receive_at.ensures.keeps.2 telling terms tt misdials was.books) was;
    }

pub returns-in_ok-put_next-in-Err-clause-keeps : goal.returns-in_ok-put_next-in-Err-clause-keeps
returns-in_ok-put_next-in-Err-clause-keeps g c =
    let server = c.requires.server.server in
    let k = c.in-Some.k in
    let turn = c.open_turn.new.turn in
    let tags = tags_of c.args.slots.now in
    let seat = view c.put_next-in-Err.new.seat in
    let here : turn.group ≡ k = ap (λ t. t.group) c.open_turn.ensures.same ∙ c.in-Some-enter.ensures.group in
    let made : turn.number ≡ c.number-2.result =
    ap (λ t. t.number) c.open_turn.ensures.same ∙ sym c.number-2.ensures in
    let row = c.args.acceptor.now.row.items in
    let is = subst (λ r. c.receive_at.new.acceptor.row.items
    ≡ row_after k c.receive_at.new.acceptor.came c.number-2.result r row) c.in-Came.is
    c.receive_at.ensures.row.0 in
    let came = subst (λ r. c.receive_at.new.acceptor.came ≡ given_after c.args.acceptor.now.came r) c.in-Came.is
    c.receive_at.ensures.row.1 in
    let before = c.requires.acceptor.came in
    let long = c.requires.acceptor.row in
    let low = c.in-Some.ensures.0 in
    record {
      account = c.receive_at.ensures.keeps.0;
      serving = λ telling terms are misdials was.
          let same = same_terms tags k server.0 terms (server.2 k low) (are k low) in
          serves_came g.W.Slotted.fits g.W.Tenant.keeps g.P.Slotted.fits g.W.Handler.behind g.W.Handler.is_done
          g.W.Handler.is_spent g.W.Handler.is_note terms misdials (view c.args.seat.now).known seat.known row
          c.receive_at.new.acceptor.row.items k c.receive_at.new.acceptor.came c.number-2.result
          (is_some c.in-Came.origin) (g.N.ClientSource.seen c.args.net.now)
          (g.N.ClientSource.seen c.receive_at.new.net) (omega (arith, low, long)) (omega (arith, came, before)) is
          c.receive_at.ensures.keeps.1 (c.in-Some-enter.ensures.keeps seat c.put_next-in-Err.ensures.leaves).known
          (subst (λ i. KnowsPlace g.W.Slotted.fits g.W.Tenant.keeps g.P.Slotted.fits
          (g.W.Handler.behind terms []) seat.known i c.number-2.result) here
          (subst (λ n. KnowsPlace g.W.Slotted.fits g.W.Tenant.keeps g.P.Slotted.fits
          (g.W.Handler.behind terms []) seat.known turn.group n) made
          (c.put_next-in-Err.ensures.left (g.W.Handler.behind terms []) tt)))
          (c.receive_at.ensures.keeps.2 telling terms tt misdials was.books) was;
    }
