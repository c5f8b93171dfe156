-- Refusals of texts of some kind, and how one behind a front is one of the whole.
use Rattle.std.proofs.Common.{◌≡◌, ℕ, List, [], ◌∷◌, ◌++◌, length, append_assoc, ap, sym, ◌∙◌, subst}
use Rattle.ts_record.specs.Refusing.{Opens, Stuck, BreaksOff}

-- the bytes are no text of this kind; so many of them stand behind the longest front that one begins with
pub record Fails (Kind : List ℕ → Type 0) (bytes : List ℕ) (left : ℕ) : Type 0 where
  pub front : List ℕ
  pub rest : List ℕ
  pub bytes_are : bytes ≡ front ++ rest
  pub left_is : left ≡ length rest
  pub begun : (more : List ℕ) × Kind (front ++ more)
  pub stuck : Stuck Kind front rest

-- so it is where no token follows, if each text of the kind begins with a token, and each token begins one
pub fails_at_token : (Token Kind : List ℕ → Type 0) (bytes : List ℕ) (left : ℕ)
    → ((t : List ℕ) → Token t → (y : List ℕ) × Kind (t ++ y)) → ((z : List ℕ) → Kind z → Opens Token z)
    → BreaksOff Token bytes left → Fails Kind bytes left
fails_at_token Token Kind bytes left goes opens r =
    record {
      front = r.front;
      rest = r.rest;
      bytes_are = r.bytes_are;
      left_is = r.left_is;
      begun = begun r.begun.0 r.begun.1;
      stuck = stuck r.rest r.stuck;
    }
  where
    begun : (m : List ℕ) → Token (r.front ++ m) → (more : List ℕ) × Kind (r.front ++ more)
    begun m t = let whole = goes (r.front ++ m) t in
        (m ++ whole.0, subst Kind (append_assoc r.front m whole.0) whole.1)

    stuck : (rest : List ℕ) → Stuck (Opens Token) r.front rest → Stuck Kind r.front rest
    stuck [] h = λ k. h (opens r.front k)
    stuck (b ∷ bs) h = λ more k. h more (opens (r.front ++ b ∷ more) k)

-- and so it is behind a front, if the texts of the kind that go on from it are those of the next kind
pub fails_behind : (Kind Next : List ℕ → Type 0) (t bytes : List ℕ) (left : ℕ)
    → ((z : List ℕ) → Next z → Kind (t ++ z)) → ((z : List ℕ) → Kind (t ++ z) → Next z)
    → Fails Next bytes left → Fails Kind (t ++ bytes) left
fails_behind Kind Next t bytes left to back f = record {
  front = t ++ f.front;
  rest = f.rest;
  bytes_are = ap (λ x. t ++ x) f.bytes_are ∙ sym (append_assoc t f.front f.rest);
  left_is = f.left_is;
  begun = (
    f.begun.0,
    subst Kind (sym (append_assoc t f.front f.begun.0))
        (to (f.front ++ f.begun.0) f.begun.1),
  );
  stuck = stuck f.rest f.stuck;
}
  where
    stuck : (rest : List ℕ) → Stuck Next f.front rest → Stuck Kind (t ++ f.front) rest
    stuck [] h = λ k. h (back f.front k)
    stuck (b ∷ bs) h =
        λ more k. h more (back (f.front ++ b ∷ more) (subst Kind (append_assoc t f.front (b ∷ more)) k))
