-- The laws of what calls do to a link that chooses: none changes nothing, and calls after calls are calls.
use Rattle.std.specs.Prelude.{ℕ, ◌≤◌, Bool, true, false, List, Option, Some, None, refl}
use Rattle.std.proofs.Common.{◌∙◌, arith, subst, sym}
use Rattle.std.proofs.lemmas.List.{length-append, length-drop}
use Rattle.ts_link.specs.Link.{Look}
use Rattle.ts_upstream.specs.Uploads.{Rose8, SameRefusal, taken_since}
use Rattle.ts_intercept.specs.Moving.{Both, Goes, IsStill}
use Rattle.ts_intercept.specs.Seen.{inside, kept, seen, unsent}
use Rattle.ts_intercept.specs.Uploading.{PairIf, left_if, told_if, with_held}
use Rattle.ts_intercept.specs.declared.choice.Choice.{Choice}

module _ {O : Type 0} where
  -- a relation in which all stand to themselves
  pub both_same : (R : O → O → Type 0) → ((o : O) → R o o) → (o : Option O) → Both R o o
  both_same R itself None = tt
  both_same R itself (Some o) = itself o

  pub both_on : (R : O → O → Type 0) → ((l m n : O) → R l m → R m n → R l n) → (o p q : Option O) → Both R o p
      → Both R p q → Both R o q
  both_on R on None None None g h = tt
  both_on R on None None (Some q) g h = h
  both_on R on None (Some p) q g h = absurd g
  both_on R on (Some o) None q g h = absurd g
  both_on R on (Some o) (Some p) None g h = absurd h
  both_on R on (Some o) (Some p) (Some q) g h = on o p q g h

  pub both_weaker : (R T : O → O → Type 0) → ((l m : O) → R l m → T l m) → (o p : Option O) → Both R o p
      → Both T o p
  both_weaker R T weaker None None g = tt
  both_weaker R T weaker None (Some p) g = g
  both_weaker R T weaker (Some o) None g = g
  both_weaker R T weaker (Some o) (Some p) g = weaker o p g

  -- no call at all
  pub goes_same : (goes : O → O → Type 0) → ((o : O) → goes o o) → (c : Choice O) → Goes goes c c
  goes_same goes itself c = record {
    origin = both_same goes itself c.origin;
    handed = refl;
    setup = refl;
    sent = refl;
    held = omega arith;
    gone = omega arith;
  }

  -- calls after calls
  pub goes_more : (goes : O → O → Type 0) → ((l m n : O) → goes l m → goes m n → goes l n)
      → (c d e : Choice O) → Goes goes c d → Goes goes d e → Goes goes c e
  goes_more goes on c d e g h = record {
    origin = both_on goes on c.origin d.origin e.origin g.origin h.origin;
    handed = h.handed ∙ g.handed;
    setup = h.setup ∙ g.setup;
    sent = h.sent ∙ g.sent;
    held = omega (arith, g.held, h.held);
    gone = omega (arith, g.gone, h.gone);
  }

  -- calls leave it the same link
  pub goes_stays : (goes still : O → O → Type 0) → ((l m : O) → goes l m → still l m) → (c d : Choice O)
      → Goes goes c d → IsStill still c d
  goes_stays goes still weaker c d g = record {
    origin = both_weaker goes still weaker c.origin d.origin g.origin;
    handed = g.handed;
    setup = g.setup;
  }

  pub still_more : (still : O → O → Type 0) → ((l m n : O) → still l m → still m n → still l n)
      → (c d e : Choice O) → IsStill still c d → IsStill still d e → IsStill still c e
  still_more still on c d e g h = record {
    origin = both_on still on c.origin d.origin e.origin g.origin h.origin;
    handed = h.handed ∙ g.handed;
    setup = h.setup ∙ g.setup;
  }

module _ {C O : Type 0} (cgoes : C → C → Type 0) (goes : O → O → Type 0) (paired : C → O → Type 0)
    (refuses : O → List ℕ → Type 0) where
  pub pair_by : ((c d : C) (o p : O) → paired c o → cgoes c d → goes o p → paired d p)
      → ((o p : O) → goes o p → SameRefusal (refuses o) (refuses p))
      → (c d : C) (o p : Option O) → PairIf paired refuses c o → cgoes c d → Both goes o p
      → PairIf paired refuses d p
  pair_by stays same c d None None h g b = tt
  pair_by stays same c d None (Some p) h g b = absurd b
  pair_by stays same c d (Some o) None h g b = absurd b
  pair_by stays same c d (Some o) (Some p) h g b = record {
    pair = stays c d o p h.pair g b;
    takes = λ list refused. h.takes list ((same o p b).before list refused);
  }

  -- calls keep a pair
  pub pair_on : ((c d : C) (o p : O) → paired c o → cgoes c d → goes o p → paired d p)
      → ((o p : O) → goes o p → SameRefusal (refuses o) (refuses p))
      → (c d : C) (s t : Choice O) → PairIf paired refuses c s.origin → cgoes c d → Goes goes s t
      → PairIf paired refuses d t.origin
  pair_on stays same c d s t h g b = pair_by stays same c d s.origin t.origin h g b.origin

-- what is held weighs the same before and after
rose_held : (a b : Option ℕ) (held few more : ℕ) → few ≤ more → Rose8 a b few
    → Rose8 (with_held held a) (with_held held b) more
rose_held None b held few more h r = tt
rose_held (Some k) None held few more h r = r
rose_held (Some k) (Some m) held few more h r = omega (arith, h, r)

rose_told : (tells : Bool) (a b : Option ℕ) (held few more : ℕ) → few ≤ more → Rose8 a b few
    → Rose8 (told_if tells (with_held held a)) (told_if tells (with_held held b)) more
rose_told false a b held few more h r = tt
rose_told true a b held few more h r = rose_held a b held few more h r

module _ {C O : Type 0} (tells : Bool) (look : O → Look) (cgoes : C → C → Type 0) (goes : O → O → Type 0)
    (left : C → O → Option ℕ) where
  -- the origin took no more than the link around it
  taken_within : (s t : Choice O) → Goes goes s t
      → taken_since (inside look s.origin) (inside look t.origin) ≤ taken_since (seen look s) (seen look t)
  taken_within s t g =
      let a = length-append (inside look s.origin).taken (kept s) in
      let b = length-append (inside look t.origin).taken (kept t) in
      let c = length-append (unsent s) s.gone in
      let d = length-append (unsent t) t.gone in
      let e = length-drop s.sent s.held.items in
      let f = length-drop t.sent t.held.items in
      omega (arith, a, b, c, d, e, f, g.sent, g.held, g.gone)

  rises_by : ((c d : C) (o p : O) → cgoes c d → goes o p → Rose8 (left c o) (left d p)
      (taken_since (look o) (look p)))
      → (c d : C) (o p : Option O) (held more : ℕ) → cgoes c d → Both goes o p
      → taken_since (inside look o) (inside look p) ≤ more
      → Rose8 (left_if tells left held c o) (left_if tells left held d p) more
  rises_by rises c d None None held more g b h = omega arith
  rises_by rises c d None (Some p) held more g b h = absurd b
  rises_by rises c d (Some o) None held more g b h = absurd b
  rises_by rises c d (Some o) (Some p) held more g b h =
      rose_told tells (left c o) (left d p) held (taken_since (look o) (look p)) more h (rises c d o p g b)

  -- only what is written raises what an upload has left
  pub rises_on : ((c d : C) (o p : O) → cgoes c d → goes o p → Rose8 (left c o) (left d p)
      (taken_since (look o) (look p)))
      → (c d : C) (s t : Choice O) → cgoes c d → Goes goes s t
      → Rose8 (left_if tells left s.sent c s.origin) (left_if tells left t.sent d t.origin)
      (taken_since (seen look s) (seen look t))
  rises_on rises c d s t g b =
      subst (λ n. Rose8 (left_if tells left s.sent c s.origin) (left_if tells left n d t.origin)
      (taken_since (seen look s) (seen look t))) (sym b.sent)
      (rises_by rises c d s.origin t.origin s.sent (taken_since (seen look s) (seen look t)) g b.origin
      (taken_within s t b))
