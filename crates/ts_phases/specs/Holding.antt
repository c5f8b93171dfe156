-- What holds of a transaction by its phase, where its links tell, and what a step keeps.
use Rattle.std.specs.Prelude.{◌≡◌, [], ◌∷◌, Bool, true}
use Rattle.std.specs.Arc.{arc_value}
use Rattle.ts_config.specs.declared.setup.Setup.{Setup}
use Rattle.ts_config.specs.declared.fields.Side.TheVariants as S
use Rattle.ts_link.specs.Link.{Look}
use Rattle.ts_link.specs.declared.link.Link as link
use Rattle.ts_upstream.specs.declared.upstream.Upstream as upstream
use Rattle.ts_upstream.specs.Uploads.{SameRefusal}
use Rattle.ts_phases.specs.View.{IsPaired, OriginRefuses, StaysLink, StaysLinkIf, View, is_dialed}
use Rattle.ts_phases.specs.View.{refuses_if, side_if, view_of}
use Rattle.ts_wire.specs.Forward.{forwarded}
use Rattle.ts_block.specs.Own.{own_field}
use Rattle.ts_plugin.specs.Lines.{IsTableOf}
use Rattle.ts_phases.specs.Facts.{IsAllowed, IsRuledTo, Asking, AwaitsFinal, PassesCheck, PassesDeny}
use Rattle.ts_phases.specs.Facts.{OwnReady, OwnSends, Relays, SendingRequest, Uploading}
use Rattle.ts_phases.specs.Ends.{EndFact}
use Rattle.ts_phases.specs.declared.parts.Core.{Core}
use Rattle.ts_phases.specs.declared.phase.Phase.{Phase}
use Rattle.ts_phases.specs.declared.phase.Phase.TheVariants as P
use Rattle.ts_phases.specs.declared.phase.Step.{Step}

module _ (setup : Setup) (refuses : Type 0) where
  abbrev pub PhaseFact : View → Phase → Type 0
  PhaseFact v P.Fresh = Asking v
  PhaseFact v P.TxnStart = Asking v
  PhaseFact v P.ReadRequest = Asking v
  PhaseFact v (P.ReadRequestHdr q) = PassesCheck v q
  PhaseFact v (P.OsDns q place) = PassesDeny setup v q place
  PhaseFact v (P.SendRequestHdr q) = IsAllowed setup v q
  PhaseFact v (P.RuleRequest q place fields) =
      IsAllowed setup v q × IsRuledTo setup S.Request (forwarded q.head.fields) place fields
  PhaseFact v (P.SendRequest q) = SendingRequest setup v q
  PhaseFact v (P.Upload q) = Uploading setup v q
  PhaseFact v (P.ReadResponse q) = AwaitsFinal setup refuses v q
  PhaseFact v (P.ReadResponseHdr q h) = Relays setup refuses v q h
  PhaseFact v (P.ResponseTransform q h) = Relays setup refuses v q h
  PhaseFact v (P.RuleResponse q h place fields) =
      Relays setup refuses v q h × IsRuledTo setup S.Response (forwarded h.fields) place fields
  PhaseFact v (P.SendResponseHdr a) = OwnReady setup refuses v a
  PhaseFact v (P.RuleAnswer a place fields) =
      OwnReady setup refuses v a × IsRuledTo setup S.Response (own_field ∷ []) place fields
  PhaseFact v (P.Sending a) = OwnSends setup refuses v a
  PhaseFact v (P.TxnClose end) = EndFact setup refuses v end
  PhaseFact v (P.Ended end) = EndFact setup refuses v end

-- its hook table is that of its configuration's plugin lines, which stand in the order in which they act
abbrev pub HasTable : {C O : Type 0} → Core C O → Type 0
HasTable t = IsTableOf t.plugins_at (arc_value t.setup).plugins.items t.hooks

-- both links tell their bytes
abbrev pub IfTold : Bool → Bool → Type 0 → Type 0
IfTold client origin P = client ≡ true → origin ≡ true → P

module _ {C O : Type 0} (client : link.Ghosts C) (origin : link.Ghosts O) (pair : upstream.Ghosts O C) where
  -- what holds of a transaction in a phase
  abbrev pub PhaseHolds : Core C O → Phase → Type 0
  PhaseHolds t phase = IfTold client.tells origin.tells
      (PhaseFact (arc_value t.setup) (OriginRefuses client pair t) (view_of client origin t) phase)

  -- What holds after a step, in the phase that it answers. What the origin refuses is what it refused before.
  abbrev pub HoldsAfter : Core C O → Core C O → Step → Type 0
  HoldsAfter old new s = IfTold client.tells origin.tells
      (PhaseFact (arc_value old.setup) (OriginRefuses client pair old) (view_of client origin new) s.phase)

-- the same link as before, whatever it gave and took
pub record IsSameLink (old new : Look) : Type 0 where
  pub source : new.source ≡ old.source
  pub name : new.name ≡ old.name
  pub plan : new.plan ≡ old.plan
  pub before : new.before ≡ old.before

-- what every step leaves as it is: both links are still those that they were before it
pub record StepKeeps {C O : Type 0} (client_link : link.Ghosts C) (origin_link : link.Ghosts O)
    (both : upstream.Ghosts O C) (old new : Core C O) : Type 0 where
  pub number : new.number ≡ old.number
  pub setup : new.setup ≡ old.setup
  pub plugins_at : new.plugins_at ≡ old.plugins_at
  pub hooks : new.hooks ≡ old.hooks
  pub client : IsSameLink (client_link.look old.client.link) (client_link.look new.client.link)
  pub origin : IsSameLink (side_if origin_link.look old.origin).look
      (side_if origin_link.look new.origin).look
  pub client_still : StaysLink client_link.still old.client.link new.client.link
  pub origin_still : StaysLinkIf origin_link.still old.origin new.origin
  pub client_base : new.client.base ≡ old.client.base
  pub origin_base : (side_if origin_link.look new.origin).base ≡ (side_if origin_link.look old.origin).base
  pub dialed : is_dialed new.origin ≡ is_dialed old.origin
  pub pair : IsPaired both old → IsPaired both new
  pub refusal : SameRefusal (refuses_if both.refuses old.origin) (refuses_if both.refuses new.origin)
