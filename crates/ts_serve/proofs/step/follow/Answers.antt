-- What becomes of the client is said under each terms that its handler kept.
use Rattle.std.proofs.Common.{ap, inl, inr, refl, subst, sym}
use Rattle.std.specs.Prelude.{is_some}
use Rattle.ts_serve.specs.Notes.{AreBooks}
use Rattle.ts_serve.specs.Leaving.{BecomesOf, LeavesWhose}
use Rattle.ts_serve.specs.Tenants.{MayLive}
use Rattle.ts_serve.proofs.Follows.{books_retired, books_waiting, no_next, no_next_lives}
use Rattle.ts_serve.proofs.step.follow.Goals as goal

pub make_next-requires-clause-next : goal.make_next-requires-clause-next
make_next-requires-clause-next g c =
    let of = c.requires.becomes in
    let becomes = subst (BecomesOf (g.W.Handler.is_done of.1) (g.W.Handler.is_spent of.1) (g.W.Handler.is_note of.1)
    (g.W.Handler.is_next of.1) (MayLive g.W.Slotted.fits g.W.Tenant.keeps g.W.World.sound of.1)) c.in-GoesOn.is of.3 in
    (of.1, c.in-GoesOn.noted, of.2, becomes.1)

-- ---- the books

pub returns-in_ok-retire-in-Retires-clause-books : goal.returns-in_ok-retire-in-Retires-clause-books
returns-in_ok-retire-in-Retires-clause-books g c = λ telling terms becomes misdials.
    let leaves = subst (LeavesWhose g.W.Handler.whose_of c.args.whose) c.in-Retires.is c.requires.row.1 in
    let done = subst (BecomesOf (g.W.Handler.is_done terms) (g.W.Handler.is_spent terms) (g.W.Handler.is_note terms)
    (g.W.Handler.is_next terms) (MayLive g.W.Slotted.fits g.W.Tenant.keeps g.W.World.sound terms)) c.in-Retires.is becomes in
    books_retired c.args.row.now.items c.args.k c.args.whose c.requires.row.0 c.in-Retires.retired
    g.N.ClientSource.tells (g.N.ClientSource.seen c.args.net.now) (g.N.ClientSource.seen c.retire.new.self)
    c.in_ok-retire-in-Retires.ensures.ok (g.W.Handler.is_done terms) (g.W.Handler.is_note terms) misdials telling
    leaves.0 leaves.1 done.0

pub returns-in-Stays-clause-books : goal.returns-in-Stays-clause-books
returns-in-Stays-clause-books g c = λ telling terms becomes misdials books.
    subst (λ r. AreBooks (g.W.Handler.is_done terms) (g.W.Handler.is_note terms) misdials r
    (g.N.ClientSource.seen c.args.net.now)) (sym c.add_connection.ensures)
    (books_waiting c.args.row.now.items c.args.k c.args.whose c.requires.row.0 (g.W.Handler.is_done terms)
    (g.W.Handler.is_note terms) misdials c.args.made (g.N.ClientSource.seen c.args.net.now) books)

pub returns-in_err-handler-in-GoesOn-clause-books : goal.returns-in_err-handler-in-GoesOn-clause-books
returns-in_err-handler-in-GoesOn-clause-books g c = λ telling terms becomes.
    let goes = subst (BecomesOf (g.W.Handler.is_done terms) (g.W.Handler.is_spent terms) (g.W.Handler.is_note terms)
    (g.W.Handler.is_next terms) (MayLive g.W.Slotted.fits g.W.Tenant.keeps g.W.World.sound terms)) c.in-GoesOn.is becomes in
    c.in_ok-origin-in-GoesOn.ensures.books telling terms goes.0

pub returns-in_ok-handler-in-GoesOn-clause-books : goal.returns-in_ok-handler-in-GoesOn-clause-books
returns-in_ok-handler-in-GoesOn-clause-books g c = λ telling terms becomes.
    let goes = subst (BecomesOf (g.W.Handler.is_done terms) (g.W.Handler.is_spent terms) (g.W.Handler.is_note terms)
    (g.W.Handler.is_next terms) (MayLive g.W.Slotted.fits g.W.Tenant.keeps g.W.World.sound terms)) c.in-GoesOn.is becomes in
    c.in_ok-origin-in-GoesOn.ensures.books telling terms goes.0

-- ---- what comes of the client

pub returns-in_err-retire-in-Retires-clause-comes : goal.returns-in_err-retire-in-Retires-clause-comes
returns-in_err-retire-in-Retires-clause-comes g c =
    inl (record {
      nobody = no_next c.from_residual.result _ c.from_residual.ensures.1;
      row_is = refl;
      net_is = c.in_err-retire-in-Retires.ensures.err;
    })

pub returns-in_ok-retire-in-Retires-clause-comes : goal.returns-in_ok-retire-in-Retires-clause-comes
returns-in_ok-retire-in-Retires-clause-comes g c =
    let leaves = subst (LeavesWhose g.W.Handler.whose_of c.args.whose) c.in-Retires.is c.requires.row.1 in
    inr (inl (record {
      nobody = refl;
      retired = c.in-Retires.retired;
      handed = c.in_ok-retire-in-Retires.ensures.ok;
      number_is = leaves.0;
      done = λ terms becomes. subst (BecomesOf (g.W.Handler.is_done terms) (g.W.Handler.is_spent terms) (g.W.Handler.is_note terms)
          (g.W.Handler.is_next terms) (MayLive g.W.Slotted.fits g.W.Tenant.keeps g.W.World.sound terms)) c.in-Retires.is becomes;
      row_is = refl;
    }))

pub returns-in-Stays-clause-comes : goal.returns-in-Stays-clause-comes
returns-in-Stays-clause-comes g c =
    inr (inr (inl (record {
      net_is = refl;
      row_is = c.add_connection.ensures;
      lives = λ terms becomes. subst (BecomesOf (g.W.Handler.is_done terms) (g.W.Handler.is_spent terms) (g.W.Handler.is_note terms)
          (g.W.Handler.is_next terms) (MayLive g.W.Slotted.fits g.W.Tenant.keeps g.W.World.sound terms)) c.in-Stays.is becomes;
    })))

pub returns-in_err-origin-in-GoesOn-clause-comes : goal.returns-in_err-origin-in-GoesOn-clause-comes
returns-in_err-origin-in-GoesOn-clause-comes g c =
    let same = c.in_err-origin-in-GoesOn.ensures.err in
    inl (record {
      nobody = no_next c.from_residual-in_err-origin-in-GoesOn.result _
          c.from_residual-in_err-origin-in-GoesOn.ensures.1;
      row_is = ap (λ r. r.items) same.1;
      net_is = same.0;
    })

pub returns-in_err-handler-in-GoesOn-clause-comes : goal.returns-in_err-handler-in-GoesOn-clause-comes
returns-in_err-handler-in-GoesOn-clause-comes g c =
    let leaves = subst (LeavesWhose g.W.Handler.whose_of c.args.whose) c.in-GoesOn.is c.requires.row.1 in
    inr (inr (inr (record {
      noted = c.in-GoesOn.noted;
      reached = is_some c.in_ok-origin-in-GoesOn.origin;
      whose_is = leaves.0;
      dials = c.in_ok-origin-in-GoesOn.ensures.net;
      row_is = c.in_ok-origin-in-GoesOn.ensures.row;
      lives = no_next_lives c.from_residual-in_err-handler-in-GoesOn.result _ _
          c.from_residual-in_err-handler-in-GoesOn.ensures.1;
      follows = no_next_lives c.from_residual-in_err-handler-in-GoesOn.result _ _
          c.from_residual-in_err-handler-in-GoesOn.ensures.1;
    })))

pub returns-in_ok-handler-in-GoesOn-clause-comes : goal.returns-in_ok-handler-in-GoesOn-clause-comes
returns-in_ok-handler-in-GoesOn-clause-comes g c =
    let leaves = subst (LeavesWhose g.W.Handler.whose_of c.args.whose) c.in-GoesOn.is c.requires.row.1 in
    inr (inr (inr (record {
      noted = c.in-GoesOn.noted;
      reached = is_some c.in_ok-origin-in-GoesOn.origin;
      whose_is = leaves.0;
      dials = c.in_ok-origin-in-GoesOn.ensures.net;
      row_is = c.in_ok-origin-in-GoesOn.ensures.row;
      lives = λ terms are becomes.
          let goes = subst (BecomesOf (g.W.Handler.is_done terms) (g.W.Handler.is_spent terms) (g.W.Handler.is_note terms)
          (g.W.Handler.is_next terms) (MayLive g.W.Slotted.fits g.W.Tenant.keeps g.W.World.sound terms)) c.in-GoesOn.is becomes in
          c.in_ok-handler-in-GoesOn.ensures.lives terms c.in-GoesOn.noted are goes.1;
      follows = λ terms notes are becomes.
          let goes = subst (BecomesOf (g.W.Handler.is_done (g.W.Handler.behind terms notes)) (g.W.Handler.is_spent (g.W.Handler.behind terms notes)) (g.W.Handler.is_note (g.W.Handler.behind terms notes))
          (g.W.Handler.is_next (g.W.Handler.behind terms notes)) (MayLive g.W.Slotted.fits g.W.Tenant.keeps g.W.World.sound (g.W.Handler.behind terms notes))) c.in-GoesOn.is becomes in
          c.in_ok-handler-in-GoesOn.ensures.behind terms notes c.in-GoesOn.noted are goes.1;
    })))
