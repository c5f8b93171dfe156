-- What a sink took of a text.
use Rattle.std.specs.Prelude.{◌≡◌, ◌⊎◌, ℕ, ◌++◌, List}
use Rattle.ts_link.specs.Seen.{SinkSeen}

-- what a sink took grew by a front of the text
pub record TookFront (old new : SinkSeen) (text : List ℕ) : Type 0 where
  pub took : List ℕ
  pub left : List ℕ
  pub grew : new.taken ≡ old.taken ++ took
  pub front : took ++ left ≡ text

-- and by all of it but what is left
pub record TookBut (old new : SinkSeen) (text left : List ℕ) : Type 0 where
  pub took : List ℕ
  pub grew : new.taken ≡ old.taken ++ took
  pub front : took ++ left ≡ text

-- what a sink took grew by all of the text
abbrev pub TookAll : SinkSeen → SinkSeen → List ℕ → Type 0
TookAll old new text = new.taken ≡ old.taken ++ text

-- a sink took nothing
abbrev pub TookNothing : SinkSeen → SinkSeen → Type 0
TookNothing old new = new.taken ≡ old.taken

-- a sink took a text of this kind
abbrev pub TookWhole : (List ℕ → Type 0) → SinkSeen → SinkSeen → Type 0
TookWhole IsIt old new = (text : List ℕ) × IsIt text × TookAll old new text

-- a sink took nothing, or a front of a text of this kind
abbrev pub TookSome : (List ℕ → Type 0) → SinkSeen → SinkSeen → Type 0
TookSome IsIt old new = TookNothing old new ⊎ ((text : List ℕ) × IsIt text × TookFront old new text)
