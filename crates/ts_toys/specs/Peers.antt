-- What holds of a peer, and what it promises.
use Rattle.std.specs.Prelude.{◌≡◌, ℕ, ◌+◌, ◌*◌, ◌<◌, ◌≤◌, List, Bool, true, false, Option, Some, None, length}
use Rattle.std.specs.Bool.{OnTrue}
use Rattle.ts_journal.specs.State.{State, IsLive}
use Rattle.ts_group.specs.declared.action.Named.{Named}
use Rattle.ts_group.specs.declared.world.Asked.{Asked}
use Rattle.ts_group.specs.declared.world.Asked.TheVariants as asked
use Rattle.ts_group.specs.Context.{AllPlain, own_key}
use Rattle.ts_toys.specs.declared.peer.Peer.{Peer}
use Rattle.ts_toys.specs.declared.peer.TheConstants.{ASKED, MOST_TODO}

-- a peer's tag tells whether it is only asked
abbrev pub PeerFits : Bool → Peer → Type 0
PeerFits t w = t ≡ w.only_asked

-- At most one event is pending, a plain one, and none before the peer has a continuation. One that is whole,
-- and not only asked, has an event while steps are left.
pub record PeerSound (w : Peer) (s : State) (roles : List Named) : Type 0 where
  pub plain : AllPlain s.pending
  pub one : length s.pending ≤ 1
  pub none : w.main ≡ None → length s.pending ≡ 0
  pub own : OnTrue w.only_asked (IsLive s.live own_key)
  pub few : w.todo ≤ MOST_TODO
  pub ends : w.only_asked ≡ false → w.whole ≡ true → length s.pending ≡ 0 → w.todo ≡ 0

-- while a peer waits for a reply, nothing is pending
pub record PeerAsking (w : Peer) (s : State) (roles : List Named) (role group question : ℕ) : Type 0 where
  pub plain : AllPlain s.pending
  pub none : length s.pending ≡ 0
  pub todo : 0 < w.todo
  pub few : w.todo ≤ MOST_TODO
  pub asker : w.only_asked ≡ false

-- a peer that is not only asked may ask the one that is
abbrev pub PeerMayAsk : Peer → ℕ → Type 0
PeerMayAsk w group = (w.only_asked ≡ false) × (group ≡ ASKED)

-- the number after the one that was asked
abbrev pub PeerAnswers : Peer → ℕ → ℕ → Type 0
PeerAnswers w question reply = reply ≡ question + 1

abbrev pub PeerRight : Peer → ℕ → ℕ → ℕ → Type 0
PeerRight w group question reply = reply ≡ question + 1

-- what a peer has left to do
abbrev pub peer_left : Peer → State → Option ℕ
peer_left w s = Some (2 * w.todo + length s.pending)

-- a peer has to do what it had to do, and knows what it knew
pub record KeepsWork (old new : Peer) : Type 0 where
  pub last : new.last ≡ old.last
  pub todo : new.todo ≡ old.todo
  pub only_asked : new.only_asked ≡ old.only_asked
  pub main : new.main ≡ old.main

-- a reply is kept and settles one question; else a peer has the same to do as before
abbrev pub PeerHeard : Peer → Peer → Asked ℕ ℕ → Type 0
PeerHeard old new (asked.Reply r) =
    (new.last ≡ r) × (new.todo + 1 ≡ old.todo) × (new.only_asked ≡ old.only_asked) × (new.main ≡ old.main)
PeerHeard old new (asked.Missed seen q) = KeepsWork old new
PeerHeard old new (asked.NoMemory q) = KeepsWork old new

-- a peer that is whole, and not only asked, has no step left
abbrev pub PeerCounted : Peer → Type 0
PeerCounted w = w.only_asked ≡ false → w.whole ≡ true → w.todo ≡ 0
