-- A transaction as it is made, and what is left of it once it is taken apart.
use Rattle.std.specs.Prelude.{◌≡◌, ℕ, ◌+◌, ◌≤◌, [], length, Option, Some, None, ⊤}
use Rattle.ts_config.specs.Bytes.{most_transforms}
use Rattle.ts_block.specs.Sent.{HasPlainRules}
use Rattle.ts_config.specs.declared.setup.Setup.{Setup}
use Rattle.ts_hooks.specs.declared.txn_end.TxnEnd.{TxnEnd}
use Rattle.ts_link.specs.Link.{Look}
use Rattle.ts_plugin.specs.Lines.{AreOrdered}
use Rattle.ts_txn.specs.declared.making.TheConstants.{MOST_GROUPS, MOST_PLUGINS}
use Rattle.ts_phases.specs.declared.parts.Peer.{Peer}
use Rattle.ts_txn.specs.declared.course.Course.{Course}
use Rattle.ts_txn.specs.declared.course.Course.TheVariants as K
use Rattle.ts_phases.specs.declared.phase.Phase.{Phase}
use Rattle.ts_phases.specs.declared.phase.Phase.TheVariants as P

-- A setup has so few transform lines and hook plugin lines that a transaction takes it, and each of these
-- plugins has a group, from this one on.
pub record HasFewLines (setup : Setup) (plugins_at : ℕ) : Type 0 where
  pub transforms : length setup.transforms.items ≤ most_transforms
  pub plugins : length setup.plugins.items ≤ MOST_PLUGINS
  pub groups : plugins_at + length setup.plugins.items ≤ MOST_GROUPS

-- a setup that a transaction takes: it has few lines, its header rules leave alone what the proxy sees to
-- itself, and its plugin lines stand in the order in which they act
pub record IsTxnSetup (setup : Setup) (plugins_at : ℕ) : Type 0 where
  pub few : HasFewLines setup plugins_at
  pub plain : HasPlainRules setup
  pub ordered : AreOrdered setup.plugins.items

-- a link that gave nothing and took nothing, of an upload either
pub record IsNewLink (l : Look) : Type 0 where
  pub no_given : l.given ≡ []
  pub no_taken : l.taken ≡ []
  pub no_carried : l.carried ≡ []

abbrev pub IsNewLinkIf : {L : Type 0} → (L → Look) → Option L → Type 0
IsNewLinkIf look None = ⊤
IsNewLinkIf look (Some l) = IsNewLink (look l)

-- the links belong together, if there are two
abbrev pub ArePaired : {C O : Type 0} → (C → O → Type 0) → C → Option O → Type 0
ArePaired paired c None = ⊤
ArePaired paired c (Some o) = paired c o

-- one side of a transaction that is made of a link
pub record IsMadeOf {L : Type 0} (look : L → Look) (link : L) (p : Peer L) : Type 0 where
  pub link_is : p.link ≡ link
  pub base : p.base ≡ (look link).faults
  pub inbox : p.inbox ≡ []
  pub outbox : p.outbox ≡ []

abbrev pub IsMadeOfIf : {L : Type 0} → (L → Look) → Option L → Option (Peer L) → Type 0
IsMadeOfIf look None None = ⊤
IsMadeOfIf look None (Some p) = ⊥
IsMadeOfIf look (Some l) None = ⊥
IsMadeOfIf look (Some l) (Some p) = IsMadeOf look l p

-- how it ended, if it has
abbrev pub end_of_phase : Phase → Option TxnEnd
end_of_phase (P.Ended end) = Some end
end_of_phase _ = None

abbrev pub end_of_course : {Q : Type 0} → Course Q → Option TxnEnd
end_of_course (K.Phased p) = end_of_phase p
end_of_course (K.Relaying r) = None
end_of_course (K.Finishing end) = None

-- the origin's link, if there is one, and its faults when the transaction was made
abbrev pub link_if : {L : Type 0} → Option (Peer L) → Option L
link_if None = None
link_if (Some p) = Some p.link

abbrev pub base_if : {L : Type 0} → Option (Peer L) → ℕ
base_if None = 0
base_if (Some p) = p.base
