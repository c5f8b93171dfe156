-- What holds of the groups of a server once it is closed, where clients went on in it, and of what is noted
-- and handed over until then.
use Rattle.std.specs.Prelude.{◌≡◌, ℕ, ◌+◌, ◌<◌, List, Bool, true, get_or}
use mathlib.Core.Option.{some}
use lib.ListN.{get_elem?}
use Rattle.ts_journal.specs.State.{State}
use Rattle.ts_group.specs.declared.action.Named.{Named}
use Rattle.ts_group.specs.declared.either.Either.{Either}
use Rattle.ts_group.specs.declared.either.EitherTag.{EitherTag}
use Rattle.ts_group.specs.declared.group.Group.{Group}
use Rattle.ts_slot.specs.Limits.{last_turn}
use Rattle.ts_txn.specs.Net.{NetSeen}
use Rattle.ts_txn.specs.declared.retired.Noted.{Noted}
use Rattle.ts_txn.specs.declared.retired.Retired.{Retired}
use Rattle.ts_serve.specs.Notes.{AreNoted, HadSessions, notes_of}
use Rattle.ts_serve.specs.Tenants.{FitsTerms}
use Rattle.ts_serve.specs.declared.connection.Connection.{Connection}
use Rattle.ts_serve.specs.declared.connection.Connection.TheVariants.{Accepted, Free}
use Rattle.ts_serve.specs.declared.place.Place.{Place}
use Rattle.ts_serve.specs.declared.whose.Whose.{Whose}

module _ {W T A P V O : Type 0} (Fits : T → W → Type 0) (Keeps : A → T → Type 0)
    (Sound : W → State → List Named → Type 0) (Other : V → P → Type 0)
    (SoundOther : P → State → List Named → Type 0) (only_asked is_first : V → Bool)
    (behind : A → List (Noted O) → A) (terms : A) {C Q R U : Type 0} where
  -- The group that was left for whoever is in the row for the place k fits the terms of a client with its
  -- notes behind it, if it is the one that was made then. It was not made in the last turn that a group can
  -- have.
  abbrev pub FitsBehind : ℕ → Group (Either (Place W) P) Q R (EitherTag A V) U → List Connection
      → NetSeen C O → Type 0
  FitsBehind k g row net =
      (whose : Whose) (started : Bool) (made : ℕ) → get_or row k Free ≡ Accepted whose started made
      → g.cx.log.base.made ≡ made → made < last_turn
      → FitsTerms Fits Keeps Sound Other SoundOther only_asked is_first
      (behind terms (notes_of whose.number net.noted)) g

  -- groups that stand from the place k on, in order, do so each
  abbrev pub FitBehindFrom : ℕ → List (Group (Either (Place W) P) Q R (EitherTag A V) U) → List Connection
      → NetSeen C O → Type 0
  FitBehindFrom k groups row net =
      (j : ℕ) (g : Group (Either (Place W) P) Q R (EitherTag A V) U) → get_elem? groups j ≡ some g
      → FitsBehind (k + j) g row net

-- What a net was noted, and the row; and each client that was handed over had its session, behind its notes.
pub record AreNotedSessions {C O : Type 0} (Note : Noted O → Type 0)
    (Session : List (Noted O) → Retired C O → Type 0) (misdials : ℕ) (row : List Connection)
    (net : NetSeen C O) : Type 0 where
  pub notes : AreNoted Note misdials row net
  pub had : HadSessions Session net

-- Where the net tells, the notes and the sessions stay right, of places of any terms that are these.
abbrev pub KeepsSessions : {A C O : Type 0} → Bool → (A → List (Noted O) → A) → (A → Retired C O → Type 0)
    → (A → Noted O → Type 0) → (A → Type 0) → List Connection → NetSeen C O → List Connection → NetSeen C O
    → Type 0
KeepsSessions {A} tells behind Done Note Are row before again after =
    tells ≡ true → (terms : A) → Are terms → (misdials : ℕ)
    → AreNotedSessions (Note terms) (λ notes. Done (behind terms notes)) misdials row before
    → AreNotedSessions (Note terms) (λ notes. Done (behind terms notes)) misdials again after
