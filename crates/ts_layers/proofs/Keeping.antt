-- What a link keeps of what it takes, call by call.
use Rattle.std.proofs.Common.{◌≡◌, ◌∙◌, ℕ, Bool, true, List, [], ◌∷◌, ◌++◌, take, refl, sym, ap}
use Rattle.std.proofs.lemmas.List.{append-nil}
use Rattle.ts_link.specs.Link.{Look, Reads, Writes}
use Rattle.ts_link.specs.LinkAnswers.{count_put}
use Rattle.ts_link.specs.declared.link.Got.{Got}
use Rattle.ts_link.specs.declared.link.Put.{Put}
use Rattle.ts_link.specs.declared.link.Put.TheVariants as P
use Rattle.ts_upstream.specs.Uploads.{UploadsOrigin}
use Rattle.ts_layers.specs.Kept.{IsKept, KeepsPut}

-- two lists that are nothing together are nothing each
both_none : (xs ys : List ℕ) → xs ++ ys ≡ [] → (xs ≡ []) × (ys ≡ [])
both_none [] ys none = (refl, none)
both_none (x ∷ xs) ys none = absurd (cc)

-- what a write keeps is what it took
put_kept : (answer : Put) (piece old new : List ℕ) → KeepsPut answer piece old new
    → new ≡ old ++ take (count_put answer) piece
put_kept (P.Took n) piece old new is = is
put_kept P.Again piece old new is = is ∙ sym (append-nil old)
put_kept P.Failed piece old new is = is ∙ sym (append-nil old)
put_kept P.NoMemory piece old new is = is ∙ sym (append-nil old)

module _ (tells keeps : Bool) (l m : Look) (old : List ℕ) (is : IsKept tells keeps l old) where
  -- a read takes nothing
  pub kept_read : (answer : Got) (into : List ℕ) → Reads tells l m answer into → IsKept tells keeps m old
  kept_read answer into reads told asked none =
      (reads.told told).taken ∙ is told asked (sym reads.calls.carried ∙ none)

  -- of a write all that was taken is kept
  pub kept_write : (answer : Put) (piece new : List ℕ) → Writes tells l m answer piece
      → (keeps ≡ true → KeepsPut answer piece old new) → IsKept tells keeps m new
  kept_write answer piece new writes keeping told asked none =
      (writes.told told).taken
      ∙ ap (λ xs. xs ++ take (count_put answer) piece) (is told asked (sym writes.calls.carried ∙ none))
      ∙ sym (put_kept answer piece old new (keeping asked))

  -- and an upload that wrote nothing took nothing
  pub kept_upload : (tells ≡ true → UploadsOrigin l m) → IsKept tells keeps m old
  kept_upload uploads told asked none =
      let up = uploads told in
      let nothing = both_none l.carried up.more (sym up.carried ∙ none) in
      up.taken ∙ ap (λ xs. l.taken ++ xs) nothing.1 ∙ append-nil l.taken ∙ is told asked nothing.0
