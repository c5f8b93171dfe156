-- The places that are passed are cleared, unless memory lacked for one, and the groups that are left stand
-- from the next place on.
use Rattle.std.specs.Prelude.{◌≡◌, ◌≤◌, length, OnOk}
use Rattle.ts_serve.specs.declared.acceptor.TheConstants.{PLACES}
use Rattle.ts_serve.specs.Balance.{HasAll, HasNoMore, KeepsBalance}
use Rattle.ts_serve.specs.Acceptor.{IsNotAsked}
use Rattle.ts_serve.specs.Closing.{FitBehindFrom, KeepsSessions}
use Rattle.ts_serve.specs.Tenants.{FitPlaces, FitPlacesFrom}
use Rattle.ts_serve.proofs.Cleared.{ClearsOn, StandFrom}
use Rattle.ts_serve.proofs.clear.clear_places.Given as goal

abbrev pub invariant-places : goal.invariant-places
invariant-places g l =
    (length l.row.items ≡ PLACES) × (l.k ≤ PLACES)
    × ((terms : g.row.W-Terms.Denot) → FitPlaces g.W.Slotted.fits g.W.Tenant.keeps g.W.World.sound
    g.P.Slotted.fits g.P.World.sound g.P.World.only_asked g.P.World.is_first terms l.fn.groups.items
    → FitPlacesFrom g.W.Slotted.fits g.W.Tenant.keeps g.W.World.sound g.P.Slotted.fits
    g.P.World.sound g.P.World.only_asked g.P.World.is_first l.k terms l.rest.items)
    × KeepsBalance g.N.ClientSource.tells g.W.Handler.is_done
    (λ terms. FitPlaces g.W.Slotted.fits g.W.Tenant.keeps g.W.World.sound g.P.Slotted.fits
    g.P.World.sound g.P.World.only_asked g.P.World.is_first terms l.fn.groups.items)
    l.initial.row.items (g.N.ClientSource.seen l.initial.net) l.row.items (g.N.ClientSource.seen l.net)
    × IsNotAsked (g.N.ClientSource.seen l.initial.net) (g.N.ClientSource.seen l.net)
    × (HasNoMore l.initial.row.items (g.N.ClientSource.seen l.initial.net)
    → HasNoMore l.row.items (g.N.ClientSource.seen l.net))
    × ((terms : g.row.W-Terms.Denot) → FitBehindFrom g.W.Slotted.fits g.W.Tenant.keeps g.W.World.sound
    g.P.Slotted.fits g.P.World.sound g.P.World.only_asked g.P.World.is_first g.W.Handler.behind terms 0
    l.fn.groups.items l.initial.row.items (g.N.ClientSource.seen l.initial.net)
    → FitBehindFrom g.W.Slotted.fits g.W.Tenant.keeps g.W.World.sound g.P.Slotted.fits
    g.P.World.sound g.P.World.only_asked g.P.World.is_first g.W.Handler.behind terms l.k
    l.rest.items l.row.items (g.N.ClientSource.seen l.net))
    × KeepsSessions g.N.ClientSource.tells g.W.Handler.behind g.W.Handler.is_done g.W.Handler.is_note
    (λ terms. FitBehindFrom g.W.Slotted.fits g.W.Tenant.keeps g.W.World.sound
    g.P.Slotted.fits g.P.World.sound g.P.World.only_asked g.P.World.is_first g.W.Handler.behind terms 0
    l.fn.groups.items l.initial.row.items (g.N.ClientSource.seen l.initial.net))
    l.initial.row.items (g.N.ClientSource.seen l.initial.net) l.row.items (g.N.ClientSource.seen l.net)
    × StandFrom l.k l.fn.groups.items l.rest.items
    × ClearsOn g.W.Handler.whose_of g.W.Handler.is_ended g.W.Handler.may_wait l.k
    l.fn.groups.items l.initial.row.items l.row.items l.cleared
    × OnOk l.cleared (HasAll l.initial.row.items (g.N.ClientSource.seen l.initial.net)
    → HasAll l.row.items (g.N.ClientSource.seen l.net))

abbrev pub decreases-places : goal.decreases-places
decreases-places g l = length l.rest.items
