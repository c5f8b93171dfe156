-- A link that keeps what it takes, where that is asked for: the link inside, as a link and as the link to an
-- origin.
use Rattle.std.specs.Prelude.{◌≡◌, ℕ, Bool, true, false, List, [], ◌++◌, take}
use Rattle.ts_link.specs.Link.{Look}
use Rattle.ts_link.specs.declared.link.Link as link
use Rattle.ts_link.specs.declared.link.Put.{Put}
use Rattle.ts_link.specs.declared.link.Put.TheVariants as P
use Rattle.ts_upstream.specs.declared.upstream.Upstream as upstream

-- what a contract sees of it: the link inside, whether it keeps what that takes, and what it kept
pub record Keeping (O : Type 0) : Type 0 where
  pub inner : O
  pub keeps : Bool
  pub kept : List ℕ

-- one to which nothing was written
abbrev pub fresh_kept : {O : Type 0} → Bool → O → Keeping O
fresh_kept keeps inner = record { inner = inner; keeps = keeps; kept = [] }

-- these bytes are all that a link took, unless an upload of its own wrote some of them
abbrev pub KeepsTaken : Look → List ℕ → Type 0
KeepsTaken l bytes = l.carried ≡ [] → l.taken ≡ bytes

-- so it is kept of a link that tells, where that is asked for
abbrev pub IsKept : Bool → Bool → Look → List ℕ → Type 0
IsKept tells keeps l bytes = tells ≡ true → keeps ≡ true → KeepsTaken l bytes

-- nothing is kept where that is not asked for
abbrev pub KeepsNone : Bool → List ℕ → Type 0
KeepsNone keeps bytes = keeps ≡ false → bytes ≡ []

-- what a write keeps: what the link inside took of the piece
abbrev pub KeepsPut : Put → List ℕ → List ℕ → List ℕ → Type 0
KeepsPut (P.Took n) piece old new = new ≡ old ++ take n piece
KeepsPut _ piece old new = new ≡ old

abbrev pub kept_link : {O : Type 0} → link.Ghosts O → link.Ghosts (Keeping O)
kept_link inner = record {
  tells = inner.tells;
  look = λ k. inner.look k.inner;
  goes = λ k l. inner.goes k.inner l.inner × (l.keeps ≡ k.keeps);
  still = λ k l. inner.still k.inner l.inner × (l.keeps ≡ k.keeps);
}

abbrev pub kept_origin : {C O : Type 0} → upstream.Ghosts O C → upstream.Ghosts (Keeping O) C
kept_origin inner = record {
  paired = λ c k. inner.paired c k.inner;
  refuses = λ k list. inner.refuses k.inner list;
  upload_left = λ c k. inner.upload_left c k.inner;
  one_upload = λ c k d l answer. inner.one_upload c k.inner d l.inner answer;
}
