-- The notes of a net: of which transactions it was told after which their clients went on, in the order of
-- their places in the sessions.
use Rattle.std.specs.Prelude.{◌≡◌, ◌≢◌, ⊤, ℕ, ◌+◌, ◌≤◌, ◌==◌, ◌⊎◌, cond, List, [], ◌∷◌, ◌++◌, All, Bool, true}
use Rattle.std.specs.Prelude.{not}
use Rattle.std.specs.Prelude.{filter, get_or, is_some, length}
use Rattle.std.specs.List.{sum_by}
use Rattle.ts_link.specs.Counts.{Counted, greatest}
use Rattle.ts_txn.specs.Net.{NetSeen}
use Rattle.ts_txn.specs.declared.retired.Noted.{Noted}
use Rattle.ts_txn.specs.declared.retired.Retired.{Retired}
use Rattle.ts_serve.specs.Arrivals.{IsNotAccepting}
use Rattle.ts_serve.specs.Balance.{IsBalanced, is_given, lacked_origin, lacks_origin}
use Rattle.ts_serve.specs.declared.connection.Connection.{Connection}
use Rattle.ts_serve.specs.declared.connection.Connection.TheVariants.{Free, Accepted}
use Rattle.ts_serve.specs.declared.whose.Whose.{Whose}

module _ {O : Type 0} where
  -- the notes of the client of this number, in their order
  abbrev pub notes_of : ℕ → List (Noted O) → List (Noted O)
  notes_of x noted = filter (λ n. n.number == x) noted

  -- transactions of one client, of which the first has this place in the session and each other the next one
  abbrev pub AreInOrder : ℕ → List (Noted O) → Type 0
  AreInOrder place [] = ⊤
  AreInOrder place (n ∷ notes) = (n.place ≡ place) × AreInOrder (place + 1) notes

  -- 1 where a transaction was noted without an origin
  abbrev pub noted_none : Noted O → ℕ
  noted_none n = cond (is_some n.origin) 0 1

module _ {C O : Type 0} where
  -- What a net was noted, and the row, where the net told: of each note holds what holds of one; only clients
  -- that were given have notes, in the order of their places from 1 on; whoever is in the row is at the place
  -- behind its notes; and as many as have no origin, handed over, noted or in the row, so often did the net
  -- miss a dial since it had missed so many, unless that count is at its end.
  pub record AreNoted (Note : Noted O → Type 0) (misdials : ℕ) (row : List Connection) (net : NetSeen C O) :
      Type 0 where
    pub each : All Note net.noted
    pub known : (x : ℕ) → is_given net x ≡ 0 → notes_of x net.noted ≡ []
    pub order : (x : ℕ) → AreInOrder 1 (notes_of x net.noted)
    pub behind : (k : ℕ) (whose : Whose) (started : Bool) (made : ℕ)
        → get_or row k Free ≡ Accepted whose started made
        → length (notes_of whose.number net.noted) + 1 ≡ whose.place
    pub dialed : (misdials + sum_by lacked_origin net.retired + sum_by noted_none net.noted
        + sum_by lacks_origin row ≤ net.counts.misdials) ⊎ (greatest ≤ net.counts.misdials)

  -- THE BOOKS of the first thread: the balance of the clients that came and were handed over, and the notes
  -- of those that went on.
  pub record AreBooks (Done : Retired C O → Type 0) (Note : Noted O → Type 0) (misdials : ℕ)
      (row : List Connection) (net : NetSeen C O) : Type 0 where
    pub balance : IsBalanced Done misdials row net
    pub notes : AreNoted Note misdials row net

  -- Where the net tells, the books stay right, of places of any terms that are these.
  abbrev pub KeepsBooks : {A : Type 0} → Bool → (A → Retired C O → Type 0) → (A → Noted O → Type 0)
      → (A → Type 0) → List Connection → NetSeen C O → List Connection → NetSeen C O → Type 0
  KeepsBooks {A} tells Done Note Are row before again after =
      tells ≡ true → (terms : A) → Are terms → (misdials : ℕ)
      → AreBooks (Done terms) (Note terms) misdials row before
      → AreBooks (Done terms) (Note terms) misdials again after

  -- each client that was handed over had its session: what is left of it comes behind its notes
  abbrev pub HadSessions : (List (Noted O) → Retired C O → Type 0) → NetSeen C O → Type 0
  HadSessions Session net = All (λ r. Session (notes_of r.parts.number net.noted) r) net.retired

  -- the notes of each other client are what they were
  abbrev pub OthersNotes : ℕ → NetSeen C O → NetSeen C O → Type 0
  OthersNotes number old new = (x : ℕ) → x ≢ number → notes_of x new.noted ≡ notes_of x old.noted

  -- The net was handed what is left of this transaction, after which its client goes on, and was asked for an
  -- origin for the next one, which was reached or not.
  pub record NotesAndDials (tells : Bool) (noted : Noted O) (reached : Bool)
      (old new : NetSeen C O) : Type 0 where
    pub told : tells ≡ true → new.noted ≡ old.noted ++ noted ∷ []
    pub notes : new.notes ≡ old.notes + 1
    pub handed : new.handed ≡ old.handed
    pub retired : new.retired ≡ old.retired
    pub asked : IsNotAccepting old new
    pub misdials : Counted (not reached) old.counts.misdials new.counts.misdials
