-- The client that is in the row for the place is the one whose handler is looked for there.
use Rattle.std.proofs.Common.{◌≡◌, ◌∙◌, ◌<◌, true, get_or, ap, subst, sym}
use Rattle.std.proofs.lemmas.List.{get_or_read}
use Rattle.ts_lists.proofs.Places.{place_below}
use Rattle.std.specs.Prelude.{MatchOption}
use Rattle.ts_slot.specs.Words.{tags_of, view}
use Rattle.ts_thread.specs.Seats.{KeepsSeat}
use Rattle.ts_serve.specs.TakingOut.{EntersEnded, IsLeftThere}
use Rattle.ts_serve.specs.declared.acceptor.TheConstants.{PLACES}
use Rattle.ts_serve.specs.declared.connection.Connection.TheVariants.{Accepted, Free}
use Rattle.ts_serve.specs.Stepping.{IsStartedIn}
use Rattle.ts_group.specs.Either.{EitherFits}
use Rattle.ts_serve.specs.Notes.{notes_of}
use Rattle.ts_serve.specs.Places.{PlaceFits}
use Rattle.ts_serve.specs.Tenants.{IsPlaceOf}
use Rattle.ts_serve.proofs.Follows.{serves_more}
use Rattle.ts_serve.proofs.Knowledge.{fits_behind}
use Rattle.ts_serve.proofs.Tenants.{fits_terms}
use Rattle.ts_serve.proofs.step.step_at.Goals as goal

pub enter_ended-requires-clause-place : goal.enter_ended-requires-clause-place
enter_ended-requires-clause-place g c =
    place_below (tags_of c.args.slots.now) c.args.k _ (c.requires.server.server.2 c.args.k c.requires.place.0)

pub advance-requires-clause-row : goal.advance-requires-clause-row
advance-requires-clause-row g c =
    let connected = c.in-Accepted in
    let row = c.args.row.now.items in
    let found : get_or row c.args.k Free ≡ Accepted connected.whose true connected.made =
    sym (get_or_read row c.args.k c.index.result.now c.requires.place.1 c.index.ensures Free) ∙ connected.is
    ∙ ap (λ s. Accepted connected.whose s connected.made) c.if-not-started.false in
    let entered = subst (λ found. MatchOption found
    (IsLeftThere g.W.World.sound g.W.Handler.whose_of g.W.Handler.is_ended g.W.Handler.is_lacking connected.whose
    connected.made c.args.k
    (view c.args.seat.now) (view c.enter_ended.new.seat)
    × KeepsSeat (view c.args.seat.now) (view c.enter_ended.new.seat) 1)
    (EntersEnded g.W.World.sound g.W.Handler.whose_of g.W.Handler.is_ended
    (EitherFits (PlaceFits g.W.Slotted.fits g.W.Tenant.keeps) g.P.Slotted.fits) (tags_of c.args.slots.now)
    connected.whose connected.made c.args.k (view c.args.seat.now) (view c.enter_ended.new.seat)))
    c.in-Some.is c.in_ok-turn.ensures.found in
    let here = sym entered.group in (
      subst (λ k. IsStartedIn k connected.whose row) here
          (record { below = c.requires.place.1; made = connected.made; accepted = found }),
      subst (λ k. k < PLACES) here c.requires.place.0,
    )

pub returns-clause-serving : goal.returns-clause-serving
returns-clause-serving g c = λ telling terms place misdials was.
    let connected = c.in-Accepted in
    let turn = c.in-Some.turn in
    let tags = tags_of c.args.slots.now in
    let row = c.args.row.now.items in
    let found : get_or row c.args.k Free ≡ Accepted connected.whose true connected.made =
    sym (get_or_read row c.args.k c.index.result.now c.requires.place.1 c.index.ensures Free) ∙ connected.is
    ∙ ap (λ s. Accepted connected.whose s connected.made) c.if-not-started.false in
    let entered = subst (λ found. MatchOption found
    (IsLeftThere g.W.World.sound g.W.Handler.whose_of g.W.Handler.is_ended g.W.Handler.is_lacking connected.whose
    connected.made c.args.k
    (view c.args.seat.now) (view c.enter_ended.new.seat)
    × KeepsSeat (view c.args.seat.now) (view c.enter_ended.new.seat) 1)
    (EntersEnded g.W.World.sound g.W.Handler.whose_of g.W.Handler.is_ended
    (EitherFits (PlaceFits g.W.Slotted.fits g.W.Tenant.keeps) g.P.Slotted.fits) (tags_of c.args.slots.now)
    connected.whose connected.made c.args.k (view c.args.seat.now) (view c.enter_ended.new.seat)))
    c.in-Some.is c.in_ok-turn.ensures.found in
    let at = subst (λ k. IsPlaceOf tags k terms) (sym entered.group) place in
    let notes = notes_of connected.whose.number (g.N.ClientSource.seen c.args.net.now).noted in
    let all = (entered.keeps (view c.advance.new.seat) c.advance.ensures.seat.1).known in
    c.advance.ensures.serving telling terms at
    (fits_behind g.W.Slotted.fits g.W.Tenant.keeps g.P.Slotted.fits g.W.Handler.behind terms g.W.World.sound
    g.P.World.sound g.P.World.only_asked g.P.World.is_first (view c.args.seat.now).known c.args.k turn.number
    connected.made notes turn.boxed.value
    (was.sessions.knows c.args.k connected.whose true connected.made found) entered.again entered.ended.1
    entered.lived entered.finds.later turn.bounded
    (fits_terms g.W.Slotted.fits g.W.Tenant.keeps g.W.World.sound g.P.Slotted.fits g.P.World.sound g.P.World.only_asked
    g.P.World.is_first tags turn.group terms turn.boxed.value entered.finds.fits at))
    misdials
    (serves_more g.W.Slotted.fits g.W.Tenant.keeps g.P.Slotted.fits g.W.Handler.behind g.W.Handler.is_done
    g.W.Handler.is_spent g.W.Handler.is_note terms misdials (view c.args.seat.now).known (view c.advance.new.seat).known row
    (g.N.ClientSource.seen c.args.net.now) all was)

pub returns-in_err-turn-clause-serving : goal.returns-in_err-turn-clause-serving
returns-in_err-turn-clause-serving g c = λ telling terms place misdials.
    serves_more g.W.Slotted.fits g.W.Tenant.keeps g.P.Slotted.fits g.W.Handler.behind g.W.Handler.is_done
    g.W.Handler.is_spent g.W.Handler.is_note terms misdials (view c.args.seat.now).known (view c.enter_ended.new.seat).known
    c.args.row.now.items (g.N.ClientSource.seen c.args.net.now) c.in_err-turn.ensures.err.0.known

pub returns-in_default-2-clause-serving : goal.returns-in_default-2-clause-serving
returns-in_default-2-clause-serving g c = λ telling terms place misdials.
    let connected = c.in-Accepted in
    let left = subst (λ found. MatchOption found
    (IsLeftThere g.W.World.sound g.W.Handler.whose_of g.W.Handler.is_ended g.W.Handler.is_lacking connected.whose
    connected.made c.args.k
    (view c.args.seat.now) (view c.enter_ended.new.seat)
    × KeepsSeat (view c.args.seat.now) (view c.enter_ended.new.seat) 1)
    (EntersEnded g.W.World.sound g.W.Handler.whose_of g.W.Handler.is_ended
    (EitherFits (PlaceFits g.W.Slotted.fits g.W.Tenant.keeps) g.P.Slotted.fits) (tags_of c.args.slots.now)
    connected.whose connected.made c.args.k (view c.args.seat.now) (view c.enter_ended.new.seat)))
    c.in_default-2.is c.in_ok-turn.ensures.found in
    serves_more g.W.Slotted.fits g.W.Tenant.keeps g.P.Slotted.fits g.W.Handler.behind g.W.Handler.is_done
    g.W.Handler.is_spent g.W.Handler.is_note terms misdials (view c.args.seat.now).known (view c.enter_ended.new.seat).known
    c.args.row.now.items (g.N.ClientSource.seen c.args.net.now) left.1.known
