-- What a net over sockets works with once it has begun.
use Rattle.std.specs.Prelude.{◌≡◌, ◌⊎◌, ℕ, List, [], ⊤, Bool, false, None, Result, Ok, Err, if◌then◌else◌}
use Rattle.std.specs.Net.Grammar.{IsSocketText}
use Rattle.std.specs.IoError.{error_kind}
use Rattle.std.specs.declared.io.Error.{Error}
use Rattle.std.specs.declared.net.socket_addr.SocketAddr.{SocketAddr}
use Rattle.ts_net.specs.Addresses.{by_number}
use Rattle.ts_net.specs.Backlogs.{watched_or_not}
use Rattle.ts_net.specs.Heard.{lacks_memory}
use Rattle.ts_net.specs.declared.address.AddressFault.{AddressFault}
use Rattle.ts_net.specs.declared.address.AddressFault.TheVariants as A
use Rattle.ts_net.specs.declared.poller.TheConstants.{LISTENER}
use Rattle.ts_socket_net.specs.declared.opening.Opened.{Opened}
use Rattle.ts_socket_net.specs.declared.opening.OpenFault.{OpenFault}
use Rattle.ts_socket_net.specs.declared.opening.OpenFault.TheVariants as F

-- the text writes this address, where the name of this machine stands for its number
abbrev pub Writes : List ℕ → SocketAddr → Type 0
Writes text address = IsSocketText (by_number text) address

-- the text writes no address
abbrev pub WritesNone : List ℕ → Type 0
WritesNone text = (address : SocketAddr) → ¬ (Writes text address)

-- Two texts write these addresses: the one at which clients come, and that of the origin.
pub record WriteBoth (listen origin : List ℕ) (place target : SocketAddr) : Type 0 where
  pub listens : Writes listen place
  pub dials : Writes origin target

-- What came of listening at an address, who connects to one, and what watching leaves of who listens, as the
-- sockets tell it.
module _ {A K : Type 0} (listens : SocketAddr → Result A Error → Type 0)
    (connects : SocketAddr → K → Type 0) (watches : ℕ → Bool → A → A → Type 0) where
  -- The sockets listen at the address that the first text writes, and dial the one that the second writes.
  -- Who listens is watched, or is known not to be. Nobody came yet or is dialed for, nobody lingers, and no
  -- descriptor is held.
  pub record IsOpened {S H T U : Type 0} (listen origin : List ℕ) (o : Opened S A K H T U) : Type 0 where
    pub place : SocketAddr
    pub target : SocketAddr
    pub texts : WriteBoth listen origin place target
    pub acceptor : A
    pub listening : listens place (Ok acceptor)
    pub told : Bool
    pub watched : watches LISTENER told acceptor o.listener.acceptor
    pub backlog : o.backlog ≡ watched_or_not told
    pub dialing : connects target o.connector
    pub given : o.listener.given ≡ 0
    pub dials_for : o.dials_for ≡ 0
    pub lingering : o.lingering.waiting ≡ []
    pub spare : o.spare ≡ None

  -- both texts write addresses, and the sockets refused to listen at the first one for another cause than
  -- memory
  pub record IsRefused (listen origin : List ℕ) (error : Error) : Type 0 where
    pub place : SocketAddr
    pub target : SocketAddr
    pub texts : WriteBoth listen origin place target
    pub refused : listens place (Err error)
    pub cause : lacks_memory (error_kind error) ≡ false

  -- why no net can begin, but for want of memory: one of the texts writes no address, or the sockets refuse
  -- to listen
  abbrev pub CannotBegin : List ℕ → List ℕ → Type 0
  CannotBegin listen origin =
      WritesNone listen ⊎ WritesNone origin ⊎ ((error : Error) × IsRefused listen origin error)

  -- A net begins, or one of the texts writes no address, or the sockets refuse to listen, or memory is
  -- lacking.
  abbrev pub IsOpening : {S H T U : Type 0} → List ℕ → List ℕ
      → Result (Opened S A K H T U) OpenFault → Type 0
  IsOpening listen origin (Ok o) = IsOpened listen origin o
  IsOpening listen origin (Err F.NoAddress) = WritesNone listen ⊎ WritesNone origin
  IsOpening listen origin (Err (F.Refused error)) = IsRefused listen origin error
  IsOpening listen origin (Err F.NoMemory) = ⊤

-- what a text that gives no address is to who begins
abbrev pub fault_of_address : AddressFault → OpenFault
fault_of_address A.NoAddress = F.NoAddress
fault_of_address A.NoMemory = F.NoMemory

-- what an error of the system is to who begins
abbrev pub fault_of_error : Error → OpenFault
fault_of_error e = if lacks_memory (error_kind e) then F.NoMemory else F.Refused e
