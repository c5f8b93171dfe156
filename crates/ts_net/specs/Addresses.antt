-- The texts of addresses: `127.0.0.1:8080`, or `[::1]:8080` (RFC 4291, section 2.2; RFC 3986, section 3.2.2).
use Rattle.std.specs.Prelude.{ℕ, List, ◌++◌, Bool, length, take, drop, codes, if◌then◌else◌, ⊤, Result, Ok, Err}
use Rattle.std.specs.Net.Grammar.{IsSocketText}
use Rattle.std.specs.Str.{bytes_eq}
use Rattle.std.specs.declared.net.socket_addr.SocketAddr.{SocketAddr}
use Rattle.ts_net.specs.declared.address.AddressFault.{AddressFault}
use Rattle.ts_net.specs.declared.address.AddressFault.TheVariants.{NoAddress, NoMemory}

-- the name of this machine before a port, and its number
abbrev pub local_name : List ℕ
local_name = codes "localhost:"

abbrev pub local_number : List ℕ
local_number = codes "127.0.0.1:"

-- the text begins with that name
abbrev pub has_local_name : List ℕ → Bool
has_local_name text = bytes_eq (take (length local_name) text) local_name

-- the text with the number of this machine in place of its name
abbrev pub by_number : List ℕ → List ℕ
by_number text = if has_local_name text then local_number ++ drop (length local_name) text else text

-- an address comes that the text writes, and none exactly where it writes none
abbrev pub IsAddressOf : List ℕ → Result SocketAddr AddressFault → Type 0
IsAddressOf text (Ok address) = IsSocketText (by_number text) address
IsAddressOf text (Err NoAddress) = (address : SocketAddr) → ¬ (IsSocketText (by_number text) address)
IsAddressOf text (Err NoMemory) = ⊤
