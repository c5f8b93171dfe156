-- What holds of groups of peers, of which one is only asked.
use Rattle.std.specs.Prelude.{◌≡◌, ℕ, zero, suc, ◌+◌, ◌≤◌, List, [], ◌∷◌, Bool, true, false, All, length}
use Rattle.ts_group.specs.declared.group.Group.{Group}
use Rattle.ts_toys.specs.declared.peer.Peer.{Peer}
use Rattle.ts_toys.specs.declared.peer.TheConstants.{ASKED}
use Rattle.ts_toys.specs.Peers.{PeerFits, PeerSound}
use Rattle.ts_thread.specs.Tags.{GroupFits, GroupsFit}

-- a peer's group fits the tag
abbrev pub IsPeer : Bool → Group Peer ℕ ℕ Bool (Unit {0}) → Type 0
IsPeer t g = GroupFits PeerFits PeerSound (λ b. b) (λ b. true) t g

-- the tags of so many peers that are not only asked, and of one that is
abbrev pub row_tags : ℕ → List Bool
row_tags zero = true ∷ []
row_tags (suc n) = false ∷ row_tags n

-- peers that fit such tags, and have had so many turns at most
pub record AreRow (turns : ℕ) (groups : List (Group Peer ℕ ℕ Bool (Unit {0}))) : Type 0 where
  pub fits : GroupsFit PeerFits PeerSound (λ b. b) (λ b. true) (row_tags ASKED) groups
  pub few : All (λ g. g.cx.log.state.turns ≤ turns) groups
  pub count : length groups ≡ ASKED + 1
