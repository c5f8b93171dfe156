-- What holds of the client in front of a sound stock, and of the stock once it was given.
use Rattle.std.proofs.Common.{◌≡◌, ℕ, ◌+◌, List, ◌∷◌, Option, true, subst, sym, arith, refl}
use Rattle.std.proofs.lemmas.List.Elements.{All-head, All-tail}
use Rattle.ts_link.specs.MemLink.{LinkState, look_of}
use Rattle.ts_txn.specs.Net.{IsNextClient}
use Rattle.ts_txn.specs.PairStock.{IsNewPair, IsSoundStock, Pair}

module _ (pairs : List Pair) (front : Pair) (rest : List Pair) (last : Option LinkState)
    (later : List (Option LinkState)) (given : ℕ) (is : pairs ≡ front ∷ rest)
    (sound : IsSoundStock pairs last later given) where
  whole : IsSoundStock (front ∷ rest) last later given
  whole = subst (λ ps. IsSoundStock ps last later given) is sound

  front_new : IsNewPair front
  front_new = All-head IsNewPair front rest whole.new_ahead

  -- the rest is sound
  pub rest_sound : IsSoundStock rest front.1 later (given + 1)
  rest_sound = record {
    new_ahead = All-tail IsNewPair front rest whole.new_ahead;
    new_origin = front_new.origin;
    new_later = whole.new_later;
    numbers = omega (arith, whole.numbers);
  }

  -- the client in front is the next one, under its number
  pub front_given : (client : LinkState) (before : ℕ) → client ≡ record front.0 { name = given + 1 }
      → given ≡ before → IsNextClient true (look_of client) before (given + 1)
  front_given client before named same =
      let next : IsNextClient true (look_of (record front.0 { name = given + 1 })) given (given + 1) = record {
        number = refl;
        name = refl;
        first = refl;
        unused = λ _. record {
          no_given = front_new.client.no_given;
          no_taken = front_new.client.no_taken;
          no_carried = refl;
        };
      } in
      let named_so : IsNextClient true (look_of client) given (given + 1) = subst
      (λ l. IsNextClient true (look_of l) given (given + 1)) (sym named) next in
      subst (λ n. IsNextClient true (look_of client) n (given + 1)) same named_so
