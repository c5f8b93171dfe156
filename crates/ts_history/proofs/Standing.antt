-- A connection goes on from one transaction to the next.
use Rattle.std.proofs.Common.{◌≡◌, ℕ, ◌+◌, List, [], ◌∷◌, ◌++◌, ap, sym, ◌∙◌, append_assoc, arith}
use Rattle.std.proofs.lemmas.List.{append-nil, length_push}
use Rattle.std.proofs.lemmas.List.Folds.{concat-append}
use Rattle.std.specs.List.{concat}
use Rattle.ts_history.specs.History.{StandsBehind, begins, goes_on}
use Rattle.ts_link.specs.Link.{Look}
use Rattle.ts_session.specs.Kept.{IsKept}
use Rattle.ts_session.specs.Requests.{IsRequest}

-- one list behind others, all joined
concat_push : (xs : List (List ℕ)) (x : List ℕ) → concat (xs ++ x ∷ []) ≡ concat xs ++ x
concat_push xs x = concat-append xs (x ∷ []) ∙ ap (λ (l : List ℕ). concat xs ++ l) (append-nil x)

-- what stands behind lists that are joined stands behind them joined with it
joined_on : (before came : List ℕ) (xs : List (List ℕ)) (x : List ℕ) → before ≡ came ++ concat xs
    → before ++ x ≡ came ++ concat (xs ++ x ∷ [])
joined_on before came xs x is =
    ap (λ (l : List ℕ). l ++ x) is ∙ append_assoc came (concat xs) x
    ∙ ap (λ (l : List ℕ). came ++ l) (sym (concat_push xs x))

module _ {N : Type 0} (IsNoteOf : List ℕ → List ℕ → N → Type 0) (place_of : N → ℕ)
    (came : List ℕ × List ℕ) where
  -- a connection that has nothing behind it
  pub stands_first : (place : ℕ) (span : Look) → place ≡ 1 → span.before ≡ came
      → StandsBehind IsNoteOf place_of came [] place span
  stands_first place span first before = record {
    requests = [];
    responses = [];
    history = begins;
    place_is = omega (arith, first);
    gave = ap (λ (b : List ℕ × List ℕ). b.0) before ∙ sym (append-nil came.0);
    took = ap (λ (b : List ℕ × List ℕ). b.1) before ∙ sym (append-nil came.1);
  }

  -- the next span of a connection stands behind the note of this one's transaction too
  pub stands_on : (notes : List N) (note : N) (place : ℕ) (request response sent : List ℕ) (span after : Look)
      → StandsBehind IsNoteOf place_of came notes place span → IsNoteOf request response note
      → place_of note ≡ place → IsRequest request → IsKept response sent
      → after.before.0 ≡ span.before.0 ++ request → after.before.1 ≡ span.before.1 ++ sent
      → StandsBehind IsNoteOf place_of came (notes ++ note ∷ []) (place + 1) after
  stands_on notes note place request response sent span after stands is here whole kept gave took = record {
    requests = stands.requests ++ request ∷ [];
    responses = stands.responses ++ sent ∷ [];
    history = goes_on notes note stands.requests stands.responses request response sent
        stands.history is (here ∙ stands.place_is) whole kept;
    place_is = let pushed = length_push notes note in let now = stands.place_is in omega arith;
    gave = gave ∙ joined_on span.before.0 came.0 stands.requests request stands.gave;
    took = took ∙ joined_on span.before.1 came.1 stands.responses sent stands.took;
  }
