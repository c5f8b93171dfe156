-- Place after place is cleared, and the balance, the notes and the sessions stay right.
use Rattle.std.proofs.Common.{◌+◌, ◌<◌, ◌≤◌, ◌∙◌, refl, subst, sym, arith}
use Rattle.std.specs.Prelude.{OnOk}
use Rattle.std.proofs.lemmas.Bool.Decides.{nat_tests}
use Rattle.std.proofs.lemmas.Result.{on_ok_weaker}
use Rattle.ts_serve.specs.declared.acceptor.TheConstants.{PLACES}
use Rattle.ts_serve.specs.Closing.{FitBehindFrom}
use Rattle.ts_serve.specs.Tenants.{FitPlacesFrom}
use Rattle.ts_serve.specs.Balance.{HasAll}
use Rattle.ts_serve.specs.TakingOut.{IsCleared}
use Rattle.ts_serve.proofs.Cleared.{ClearsOn, all_cleared, clears_more, nothing_left, rest_stays, stand_all}
use Rattle.ts_serve.proofs.Cleared.{stand_next, stand_none}
use Rattle.ts_serve.proofs.Closing.{behind_on, next_behind}
use Rattle.ts_serve.proofs.NowStarted.{rest_on}
use Rattle.ts_serve.proofs.Tenants.{next_fits}
use Rattle.ts_serve.proofs.clear.clear_places.Goals.{in-Err, in_default-clear_place}
use Rattle.ts_serve.proofs.clear.clear_places.Goals as goal

pub places-init : goal.places-init
places-init g c =
    let none : 0 ≤ PLACES = omega arith in (
      c.requires.places,
      none,
      λ terms fits. subst (FitPlacesFrom g.W.Slotted.fits g.W.Tenant.keeps g.W.World.sound g.P.Slotted.fits
          g.P.World.sound g.P.World.only_asked g.P.World.is_first 0 terms) (sym c.from_vec-rest.ensures.items)
          fits,
      λ tells terms fits misdials balance. balance,
      record { given = refl; noted = refl; counts = refl },
      λ few. few,
      λ terms fits. subst (λ gs. FitBehindFrom g.W.Slotted.fits g.W.Tenant.keeps g.W.World.sound
          g.P.Slotted.fits g.P.World.sound g.P.World.only_asked g.P.World.is_first g.W.Handler.behind terms 0
          gs c.args.row.now.items (g.N.ClientSource.seen c.args.net.now))
          (sym c.from_vec-rest.ensures.items) fits,
      λ tells terms fits misdials was. was,
      stand_all c.args.groups.items c.from_vec-rest.result.items c.from_vec-rest.ensures.items,
      record { each = λ j g low at. absurd (omega arith); rest = λ j behind. refl },
      λ all. all,
    )

pub places-preserved : goal.places-preserved
places-preserved g c =
    let before = c.places.invariant in
    let below : c.places.k < PLACES = grind (arith, nat_tests, before.1, c.if-k-eq-PLACES.false) in
    let stood = stand_next c.places.k c.args.groups.items c.places.rest.items c.pop_front.new.self.items
    c.in-Some.group c.in-Some.ensures.items before.8 in (
      c.clear_place.ensures.row ∙ before.0,
      omega arith,
      λ terms fits. (next_fits g.W.Slotted.fits g.W.Tenant.keeps g.W.World.sound g.P.Slotted.fits
          g.P.World.sound g.P.World.only_asked g.P.World.is_first c.places.k terms c.places.rest.items
          c.in-Some.group
          c.pop_front.new.self.items c.in-Some.ensures.items below (before.2 terms fits)).1,
      λ tells terms fits misdials balance. c.clear_place.ensures.balance tells terms
          (next_fits g.W.Slotted.fits g.W.Tenant.keeps g.W.World.sound g.P.Slotted.fits g.P.World.sound
          g.P.World.only_asked g.P.World.is_first c.places.k terms c.places.rest.items c.in-Some.group
          c.pop_front.new.self.items c.in-Some.ensures.items below (before.2 terms fits)).0 misdials
          (before.3 tells terms fits misdials balance),
      record {
        given = c.clear_place.ensures.net.0.given ∙ before.4.given;
        noted = c.clear_place.ensures.net.0.noted ∙ before.4.noted;
        counts = c.clear_place.ensures.net.0.counts ∙ before.4.counts;
      },
      λ few. c.clear_place.ensures.net.1 (before.5 few),
      λ terms fits. behind_on g.W.Slotted.fits g.W.Tenant.keeps g.W.World.sound g.P.Slotted.fits
          g.P.World.sound g.P.World.only_asked g.P.World.is_first g.W.Handler.behind terms c.places.k
          c.pop_front.new.self.items c.places.row.items c.clear_place.new.row.items
          (g.N.ClientSource.seen c.places.net) (g.N.ClientSource.seen c.clear_place.new.net)
          c.clear_place.ensures.others c.clear_place.ensures.net.0.noted
          (next_behind g.W.Slotted.fits g.W.Tenant.keeps g.W.World.sound g.P.Slotted.fits
          g.P.World.sound g.P.World.only_asked g.P.World.is_first g.W.Handler.behind terms c.places.k
          c.places.rest.items c.pop_front.new.self.items c.in-Some.group c.places.row.items
          (g.N.ClientSource.seen c.places.net) c.in-Some.ensures.items (before.6 terms fits)).1,
      λ tells terms fits misdials was. c.clear_place.ensures.sessions tells terms
          (next_behind g.W.Slotted.fits g.W.Tenant.keeps g.W.World.sound g.P.Slotted.fits
          g.P.World.sound g.P.World.only_asked g.P.World.is_first g.W.Handler.behind terms c.places.k
          c.places.rest.items c.pop_front.new.self.items c.in-Some.group c.places.row.items
          (g.N.ClientSource.seen c.places.net) c.in-Some.ensures.items (before.6 terms fits)).0 misdials
          (before.7 tells terms fits misdials was),
      stood.1,
      elim c.match-clear_place.branch [
        | in-Err w ↦ subst (ClearsOn g.W.Handler.whose_of
            g.W.Handler.is_ended g.W.Handler.may_wait (c.places.k + 1) c.args.groups.items
            c.args.row.now.items c.clear_place.new.row.items) (sym w.cleared-is)
            (rest_on c.places.k c.args.row.now.items c.places.row.items c.clear_place.new.row.items
            (rest_stays g.W.Handler.whose_of g.W.Handler.is_ended g.W.Handler.may_wait
            c.places.k c.args.groups.items c.args.row.now.items c.places.row.items c.places.cleared before.9)
            c.clear_place.ensures.others)
        | in_default-clear_place w ↦ subst (ClearsOn g.W.Handler.whose_of
            g.W.Handler.is_ended g.W.Handler.may_wait (c.places.k + 1) c.args.groups.items
            c.args.row.now.items c.clear_place.new.row.items) (sym w.cleared-is)
            (clears_more g.W.Handler.whose_of g.W.Handler.is_ended g.W.Handler.may_wait
            c.places.k c.args.groups.items c.args.row.now.items c.places.row.items c.clear_place.new.row.items
            c.in-Some.group c.places.cleared stood.0 c.clear_place.ensures.others
            (subst (λ r. OnOk r (IsCleared g.W.Handler.whose_of
            g.W.Handler.is_ended g.W.Handler.may_wait c.places.k c.in-Some.group c.places.row.items
            c.clear_place.new.row.items))
            w.in_default-clear_place.is c.clear_place.ensures.cleared) before.9)
      ],
      elim c.match-clear_place.branch [
        | in-Err w ↦ subst (λ r. OnOk r (HasAll c.args.row.now.items (g.N.ClientSource.seen c.args.net.now)
            → HasAll c.clear_place.new.row.items (g.N.ClientSource.seen c.clear_place.new.net)))
            (sym w.cleared-is) tt
        | in_default-clear_place w ↦ subst (λ r. OnOk r (HasAll c.args.row.now.items
            (g.N.ClientSource.seen c.args.net.now)
            → HasAll c.clear_place.new.row.items (g.N.ClientSource.seen c.clear_place.new.net)))
            (sym w.cleared-is)
            (on_ok_weaker c.places.cleared (λ had all. subst (λ r. OnOk r (HasAll c.places.row.items
            (g.N.ClientSource.seen c.places.net) → HasAll c.clear_place.new.row.items
            (g.N.ClientSource.seen c.clear_place.new.net)))
            w.in_default-clear_place.is c.clear_place.ensures.all (had all)) before.10)
      ],
    )

pub returns-then-k-eq-PLACES-clause-cleared : goal.returns-then-k-eq-PLACES-clause-cleared
returns-then-k-eq-PLACES-clause-cleared g c =
    all_cleared g.W.Handler.whose_of g.W.Handler.is_ended g.W.Handler.may_wait c.places.k
    c.args.groups.items c.args.row.now.items c.places.row.items c.places.cleared
    (λ j h low at. let all = c.if-k-eq-PLACES.true in omega arith) c.places.invariant.9

pub returns-clause-cleared : goal.returns-clause-cleared
returns-clause-cleared g c =
    all_cleared g.W.Handler.whose_of g.W.Handler.is_ended g.W.Handler.may_wait c.places.k
    c.args.groups.items c.args.row.now.items c.places.row.items c.places.cleared
    (λ j h low at. stand_none c.places.k j c.args.groups.items c.places.rest.items h
    (nothing_left c.places.rest.items (c.in_default.ensures.items ∙ c.in_default.ensures.rest))
    c.places.invariant.8 at)
    c.places.invariant.9
