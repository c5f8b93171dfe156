-- The handler has ended under the terms of its place, and whoever comes next stands there.
use Rattle.std.proofs.Common.{◌≡◌, ◌<◌, ◌∙◌, length, sym, subst}
use Rattle.std.proofs.lemmas.Result.{on_ok_weaker}
use Rattle.ts_slot.specs.Words.{tags_of, view}
use Rattle.ts_thread.specs.Entering.{Finds}
use Rattle.std.specs.Prelude.{None}
use Rattle.ts_serve.specs.Knowledge.{DoneAndSpent, KnowsPlace}
use Rattle.ts_serve.specs.Leaving.{BecomesOf}
use Rattle.ts_serve.specs.Notes.{notes_of}
use Rattle.ts_serve.specs.Stepping.{ComesTo, IsStartedIn}
use Rattle.ts_serve.specs.Tenants.{IsPlaceOf, MayLive}
use Rattle.ts_serve.proofs.Follows.{comes_to, lives_at, lives_followed, same_terms, serves_followed}
use Rattle.ts_serve.proofs.Tenants.{fits_terms}
use Rattle.ts_serve.proofs.step.advance.Goals as goal

pub leave_found-requires-clause-finds : goal.leave_found-requires-clause-finds
leave_found-requires-clause-finds g c =
    subst (Finds (tags_of c.args.slots.now) (view c.args.seat.now)) (sym c.in_default.ensures.err)
    c.requires.finds.1

pub follow-requires-clause-becomes : goal.follow-requires-clause-becomes
follow-requires-clause-becomes g c =
    let server = c.requires.server.server in (
      c.requires.server.makes,
      server.0,
      server.1,
      c.leave-leaving.ensures.becomes server.0 (c.in-Ok.ensures.ended server.0
          (fits_terms g.W.Slotted.fits g.W.Tenant.keeps g.W.World.sound g.P.Slotted.fits g.P.World.sound
          g.P.World.only_asked g.P.World.is_first (tags_of c.args.slots.now) c.args.turn.group server.0
          c.args.turn.boxed.value c.requires.finds.1.fits (server.2 c.args.turn.group c.requires.row.1))),
    )

pub put_next-requires-clause-lives : goal.put_next-requires-clause-lives
put_next-requires-clause-lives g c =
    let server = c.requires.server.server in
    let tags = tags_of c.args.slots.now in
    let place = server.2 c.args.turn.group c.requires.row.1 in
    let becomes = c.leave-leaving.ensures.becomes server.0 (c.in-Ok.ensures.ended server.0
    (fits_terms g.W.Slotted.fits g.W.Tenant.keeps g.W.World.sound g.P.Slotted.fits g.P.World.sound g.P.World.only_asked
    g.P.World.is_first tags c.args.turn.group server.0 c.args.turn.boxed.value c.requires.finds.1.fits place)) in
    lives_at g.W.Slotted.fits g.W.Tenant.keeps g.W.World.sound tags c.take_out.new.turn.group server.0
    c.in-Ok-follow.next
    (subst (λ k. IsPlaceOf tags k server.0) (sym c.in-Ok.ensures.turn.same.group) place)
    (lives_followed g.N.ClientSource.tells
    (λ t. BecomesOf (g.W.Handler.is_done t) (g.W.Handler.is_spent t) (g.W.Handler.is_note t)
    (g.W.Handler.is_next t) (MayLive g.W.Slotted.fits g.W.Tenant.keeps g.W.World.sound t) c.leave-leaving.result)
    (g.W.Handler.are_terms c.args.setting.now) (MayLive g.W.Slotted.fits g.W.Tenant.keeps g.W.World.sound)
    g.W.Handler.behind (DoneAndSpent g.W.Handler.is_done g.W.Handler.is_spent) c.group-k.result c.number.result
    c.args.whose c.args.row.now.items c.follow.new.row.items (g.N.ClientSource.seen c.args.net.now)
    (g.N.ClientSource.seen c.follow.new.net) c.in-Ok-follow.next server.0 server.1 becomes
    c.in-Ok-follow.ensures.comes)

pub returns-in-Ok-follow-clause-serving : goal.returns-in-Ok-follow-clause-serving
returns-in-Ok-follow-clause-serving g c = λ telling terms place fits misdials was.
    let server = c.requires.server.server in
    let tags = tags_of c.args.slots.now in
    let seat = view c.put_next.new.seat in
    let here : c.group-k.result ≡ c.args.turn.group = c.group-k.ensures ∙ c.in-Ok.ensures.turn.same.group in
    let are = subst (g.W.Handler.are_terms c.args.setting.now)
    (same_terms tags c.args.turn.group server.0 terms (server.2 c.args.turn.group c.requires.row.1) place)
    server.1 in
    let slot = c.leave-leaving.ensures.becomes terms (c.in-Ok.ensures.ended terms
    (fits_terms g.W.Slotted.fits g.W.Tenant.keeps g.W.World.sound g.P.Slotted.fits g.P.World.sound g.P.World.only_asked
    g.P.World.is_first tags c.args.turn.group terms c.args.turn.boxed.value c.requires.finds.1.fits place)) in
    let named = c.leave-leaving.ensures.becomes
    (g.W.Handler.behind terms (notes_of c.args.whose.number (g.N.ClientSource.seen c.args.net.now).noted))
    (c.in-Ok.ensures.ended
    (g.W.Handler.behind terms (notes_of c.args.whose.number (g.N.ClientSource.seen c.args.net.now).noted)) fits) in
    serves_followed g.W.Slotted.fits g.W.Tenant.keeps g.P.Slotted.fits g.W.Handler.behind g.W.Handler.is_done
    g.W.Handler.is_spent g.W.Handler.is_note terms misdials g.W.World.sound g.N.ClientSource.tells telling
    (λ t. BecomesOf (g.W.Handler.is_done t) (g.W.Handler.is_spent t) (g.W.Handler.is_note t)
    (g.W.Handler.is_next t) (MayLive g.W.Slotted.fits g.W.Tenant.keeps g.W.World.sound t) c.leave-leaving.result)
    (g.W.Handler.are_terms c.args.setting.now) c.group-k.result c.number.result c.args.whose
    c.args.row.now.items c.follow.new.row.items (g.N.ClientSource.seen c.args.net.now)
    (g.N.ClientSource.seen c.follow.new.net) c.in-Ok-follow.next seat.known are
    (subst (λ i. IsStartedIn i c.args.whose c.args.row.now.items) (sym here) c.requires.row.0) named
    (λ t lives. subst (λ i. KnowsPlace g.W.Slotted.fits g.W.Tenant.keeps g.P.Slotted.fits t seat.known i
    c.number.result) (sym c.group-k.ensures)
    (subst (λ n. KnowsPlace g.W.Slotted.fits g.W.Tenant.keeps g.P.Slotted.fits t seat.known
    c.take_out.new.turn.group n) (sym c.number.ensures) (c.put_next.ensures.left t lives)))
    (c.follow.ensures.books telling terms slot misdials was.books) was c.in-Ok-follow.ensures.comes

pub returns-in-Ok-follow-clause-all : goal.returns-in-Ok-follow-clause-all
returns-in-Ok-follow-clause-all g c =
    let here : c.group-k.result ≡ c.args.turn.group = c.group-k.ensures ∙ c.in-Ok.ensures.turn.same.group in
    let row = c.args.row.now.items in
    let below : c.group-k.result < length row =
    subst (λ k. k < length row) (sym here) c.requires.row.0.below in
    on_ok_weaker c.put_next.result
    (λ holds. (
      c.in-Ok-follow.ensures.all,
      subst (λ k. ComesTo g.W.Handler.whose_of k c.args.whose row c.follow.new.row.items
          (view c.put_next.new.seat).known) here
          (comes_to g.W.Handler.whose_of c.group-k.result c.take_out.new.turn.group
          c.take_out.new.turn.number c.number.result c.args.whose row c.follow.new.row.items
          (view c.put_next.new.seat).known c.in-Ok-follow.next below (sym c.group-k.ensures)
          (sym c.number.ensures) c.in-Ok-follow.ensures.next holds),
    ))
    c.put_next.ensures.holds

pub returns-in_err-put_next-in-Err-clause-serving : goal.returns-in_err-put_next-in-Err-clause-serving
returns-in_err-put_next-in-Err-clause-serving g c = λ telling terms place fits misdials was.
    let server = c.requires.server.server in
    let tags = tags_of c.args.slots.now in
    let seat = view c.put_next-in-Err.new.seat in
    let here : c.group-k.result ≡ c.args.turn.group = c.group-k.ensures ∙ c.in-Ok.ensures.turn.same.group in
    let are = subst (g.W.Handler.are_terms c.args.setting.now)
    (same_terms tags c.args.turn.group server.0 terms (server.2 c.args.turn.group c.requires.row.1) place)
    server.1 in
    let slot = c.leave-leaving.ensures.becomes terms (c.in-Ok.ensures.ended terms
    (fits_terms g.W.Slotted.fits g.W.Tenant.keeps g.W.World.sound g.P.Slotted.fits g.P.World.sound g.P.World.only_asked
    g.P.World.is_first tags c.args.turn.group terms c.args.turn.boxed.value c.requires.finds.1.fits place)) in
    let named = c.leave-leaving.ensures.becomes
    (g.W.Handler.behind terms (notes_of c.args.whose.number (g.N.ClientSource.seen c.args.net.now).noted))
    (c.in-Ok.ensures.ended
    (g.W.Handler.behind terms (notes_of c.args.whose.number (g.N.ClientSource.seen c.args.net.now).noted)) fits) in
    serves_followed g.W.Slotted.fits g.W.Tenant.keeps g.P.Slotted.fits g.W.Handler.behind g.W.Handler.is_done
    g.W.Handler.is_spent g.W.Handler.is_note terms misdials g.W.World.sound g.N.ClientSource.tells telling
    (λ t. BecomesOf (g.W.Handler.is_done t) (g.W.Handler.is_spent t) (g.W.Handler.is_note t)
    (g.W.Handler.is_next t) (MayLive g.W.Slotted.fits g.W.Tenant.keeps g.W.World.sound t) c.leave-leaving.result)
    (g.W.Handler.are_terms c.args.setting.now) c.group-k.result c.number.result c.args.whose
    c.args.row.now.items c.follow.new.row.items (g.N.ClientSource.seen c.args.net.now)
    (g.N.ClientSource.seen c.follow.new.net) None seat.known are
    (subst (λ i. IsStartedIn i c.args.whose c.args.row.now.items) (sym here) c.requires.row.0) named
    (λ t lives. subst (λ i. KnowsPlace g.W.Slotted.fits g.W.Tenant.keeps g.P.Slotted.fits t seat.known i
    c.number.result) (sym c.group-k.ensures)
    (subst (λ n. KnowsPlace g.W.Slotted.fits g.W.Tenant.keeps g.P.Slotted.fits t seat.known
    c.take_out.new.turn.group n) (sym c.number.ensures) (c.put_next-in-Err.ensures.left t tt)))
    (c.follow.ensures.books telling terms slot misdials was.books) was c.in-Err.ensures.comes

pub returns-in_ok-put_next-in-Err-clause-serving : goal.returns-in_ok-put_next-in-Err-clause-serving
returns-in_ok-put_next-in-Err-clause-serving g c = λ telling terms place fits misdials was.
    let server = c.requires.server.server in
    let tags = tags_of c.args.slots.now in
    let seat = view c.put_next-in-Err.new.seat in
    let here : c.group-k.result ≡ c.args.turn.group = c.group-k.ensures ∙ c.in-Ok.ensures.turn.same.group in
    let are = subst (g.W.Handler.are_terms c.args.setting.now)
    (same_terms tags c.args.turn.group server.0 terms (server.2 c.args.turn.group c.requires.row.1) place)
    server.1 in
    let slot = c.leave-leaving.ensures.becomes terms (c.in-Ok.ensures.ended terms
    (fits_terms g.W.Slotted.fits g.W.Tenant.keeps g.W.World.sound g.P.Slotted.fits g.P.World.sound g.P.World.only_asked
    g.P.World.is_first tags c.args.turn.group terms c.args.turn.boxed.value c.requires.finds.1.fits place)) in
    let named = c.leave-leaving.ensures.becomes
    (g.W.Handler.behind terms (notes_of c.args.whose.number (g.N.ClientSource.seen c.args.net.now).noted))
    (c.in-Ok.ensures.ended
    (g.W.Handler.behind terms (notes_of c.args.whose.number (g.N.ClientSource.seen c.args.net.now).noted)) fits) in
    serves_followed g.W.Slotted.fits g.W.Tenant.keeps g.P.Slotted.fits g.W.Handler.behind g.W.Handler.is_done
    g.W.Handler.is_spent g.W.Handler.is_note terms misdials g.W.World.sound g.N.ClientSource.tells telling
    (λ t. BecomesOf (g.W.Handler.is_done t) (g.W.Handler.is_spent t) (g.W.Handler.is_note t)
    (g.W.Handler.is_next t) (MayLive g.W.Slotted.fits g.W.Tenant.keeps g.W.World.sound t) c.leave-leaving.result)
    (g.W.Handler.are_terms c.args.setting.now) c.group-k.result c.number.result c.args.whose
    c.args.row.now.items c.follow.new.row.items (g.N.ClientSource.seen c.args.net.now)
    (g.N.ClientSource.seen c.follow.new.net) None seat.known are
    (subst (λ i. IsStartedIn i c.args.whose c.args.row.now.items) (sym here) c.requires.row.0) named
    (λ t lives. subst (λ i. KnowsPlace g.W.Slotted.fits g.W.Tenant.keeps g.P.Slotted.fits t seat.known i
    c.number.result) (sym c.group-k.ensures)
    (subst (λ n. KnowsPlace g.W.Slotted.fits g.W.Tenant.keeps g.P.Slotted.fits t seat.known
    c.take_out.new.turn.group n) (sym c.number.ensures) (c.put_next-in-Err.ensures.left t tt)))
    (c.follow.ensures.books telling terms slot misdials was.books) was c.in-Err.ensures.comes
