use Rattle.std.proofs.Common.{◌+◌, ◌≤◌, [], ◌++◌, inl, inr, refl, ap, sym, subst}
use Rattle.std.specs.Prelude.{Err}
use Rattle.ts_thread.specs.declared.did.Unfinished.TheVariants as unfinished
use Rattle.ts_group.specs.Entries.{asking_entries}
use Rattle.ts_journal.proofs.Extends.{extends_none}
use Rattle.ts_journal.proofs.Later.{extends_later}
use Rattle.ts_journal.specs.State.{State}
use Rattle.ts_thread.proofs.Moves.{can_ask, asked_goes, same_asked, same_goes, same_works}
use Rattle.ts_thread.proofs.end.ask_one.Goals as goal

pub ask-requires-clause-can : goal.ask-requires-clause-can
ask-requires-clause-can g c =
    let group = c.args.group.now in
    let fit = c.requires.fits in
    let rests = g.met.W.World.rests fit.0 group.world group.cx.log.state group.cx.roles fit.1.0 fit.1.1 in
    can_ask g.W.Slotted.fits g.W.World.sound g.W.World.only_asked g.W.World.is_first g.W.World.left
    c.args.limit group c.begin_alone.new.self (c.args.group.now.cx.log.state.turns + 1) c.args.moment
    fit.0 fit.1 fit.2 c.in-Ok.ensures.within c.requires.limit rests c.in-Ok.ensures.begins

pub returns-in-Ok-ask-clause-goes : goal.returns-in-Ok-ask-clause-goes
returns-in-Ok-ask-clause-goes g c =
    let begun = c.begin_alone.new.self in
    let asked = c.ask.new.self in
    let ask = c.in-Ok-ask.ensures in
    let given = c.give_turn.ensures in
    let taken = ask.replied.taken in
    asked_goes g.W.Slotted.fits g.W.World.sound g.W.World.only_asked g.W.World.is_first g.W.World.left
    c.args.limit c.args.group.now begun asked c.give_turn.new.self
    (c.args.group.now.cx.log.state.turns + 1) c.args.moment c.requires.fits.0 c.requires.fits.1
    c.in-Ok.ensures.within
    refl c.in-Ok.ensures.begins c.in-Ok.ensures.world c.in-Ok.ensures.left ask.few ask.promises.tags
    (asking_entries begun.cx.log.state.next c.args.moment ++ taken.own)
    taken.by
    (inr (record { moment = c.args.moment; others = taken.own; are = refl }))
    (extends_later begun.cx.log asked.cx.log (asking_entries begun.cx.log.state.next c.args.moment ++
    taken.own) c.known.ensures.valid taken.by)
    taken.turn.turns ask.falls given.gives given.world given.left
    (given.sound ask.sound)

pub returns-in-Err-clause-goes : goal.returns-in-Err-clause-goes
returns-in-Err-clause-goes g c =
    let begun = c.begin_alone.new.self in
    let asked = c.ask.new.self in
    let ask = c.in-Err.ensures in
    let given = c.give_turn-in-Err.ensures in
    let same = ask.err.1 in
    let works = same_works g.W.Slotted.fits g.W.World.sound g.W.World.only_asked g.W.World.is_first
    g.W.World.left c.args.limit begun asked (ap (λ s. s.held) c.in-Ok.ensures.begins.state)
    (c.in-Ok.ensures.sound c.requires.fits.1.1) same refl in
    asked_goes g.W.Slotted.fits g.W.World.sound g.W.World.only_asked g.W.World.is_first g.W.World.left
    c.args.limit c.args.group.now begun asked c.give_turn-in-Err.new.self
    (c.args.group.now.cx.log.state.turns + 1) c.args.moment c.requires.fits.0 c.requires.fits.1
    c.in-Ok.ensures.within
    refl c.in-Ok.ensures.begins c.in-Ok.ensures.world c.in-Ok.ensures.left
    (same_asked g.W.Slotted.fits g.W.World.sound g.W.World.only_asked g.W.World.is_first g.W.World.left
    c.args.limit begun asked same) works.tags [] (extends_none begun.cx.log asked.cx.log same.cx.log)
    (inl (refl, refl))
    works.later works.turn.turns (works.falls (λ is. absurd (cc))) given.gives given.world given.left
    (given.sound ask.sound)

pub returns-in-Err-Worn-clause-worn : goal.returns-in-Err-Worn-clause-worn
returns-in-Err-Worn-clause-worn g c = λ is.
    let none = c.in-Err-Worn.ensures in
    let within = rw c.in-Err-Worn.field-0-is at none.within in
    let fits = c.requires.fits in
    let stays = same_goes g.W.Slotted.fits g.W.World.sound g.W.World.only_asked g.W.World.is_first
    g.W.World.left c.args.limit {r = Err unfinished.Worn} c.args.group.now c.begin_alone.new.self 1
    none.err none.world in (
      subst (λ (s : State). c.args.limit ≤ s.turns) (sym none.err.log.state) within.0,
      inr (fits.0, stays.fits fits.0 fits.1, fits.2),
    )
