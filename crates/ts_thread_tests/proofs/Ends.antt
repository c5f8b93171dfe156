-- Rows of peers: that they can ask, and that they end.
use Rattle.std.proofs.Common.{◌≡◌, ℕ, zero, suc, ◌+◌, ◌*◌, ◌^◌, ◌<◌, ◌≤◌, List, [], ◌∷◌, ◌++◌, length, length-append, Bool, true, false, Some, refl, sym, ap, ◌∙◌, subst, All, Result, Ok, Err, arith}
use Rattle.std.specs.Prelude.{IsOkUnless}
use Rattle.std.specs.Result.{IsErrOf}
use mathlib.Core.Option.{some}
use lib.ListN.{get_elem?}
use Rattle.std.specs.List.{slice_get}
use Rattle.std.proofs.lemmas.List.Elements.{All-nil, All-cons, All-append, All-head, All-tail}
use Rattle.ts_group.specs.declared.group.Group.{Group}
use Rattle.ts_thread.specs.declared.TheConstants.{MOST_ALONE}
use Rattle.ts_thread.specs.declared.did.Unfinished.{Unfinished}
use Rattle.ts_thread.specs.declared.did.Unfinished.TheVariants as unfinished
use Rattle.ts_thread.specs.Tags.{CanAsk, GroupsFit}
use Rattle.ts_thread.specs.Started.{CanStart}
use Rattle.ts_thread.specs.Whole.{EachTells, EndSoon}
use Rattle.ts_toys.specs.declared.peer.Peer.{Peer}
use Rattle.ts_toys.specs.declared.peer.TheConstants.{ASKED, MOST_TODO}
use Rattle.ts_toys.specs.Peers.{PeerFits, PeerSound, PeerMayAsk, PeerRight, PeerAnswers, peer_left}
use Rattle.ts_journal.specs.declared.entry.Entry.{Entry}
use Rattle.ts_journal.specs.Log.{Log, Extends, GoesOn}
use Rattle.ts_thread_tests.specs.Peers.{IsPeer, AreRow, row_tags}

last_asked : (n : ℕ) → slice_get (row_tags n) n ≡ Some true
last_asked zero = refl
last_asked (suc n) = last_asked n

pub peers_can_ask : CanAsk PeerFits (λ b. b) PeerMayAsk PeerRight PeerAnswers (row_tags ASKED)
peers_can_ask = record {
  others = λ j k t w at fit may.
      let there : slice_get (row_tags ASKED) k ≡ Some true = ap (slice_get (row_tags ASKED)) may.1 ∙
      last_asked ASKED in (
        λ same. let clash : true ≡ false = (let e : Some true ≡ Some t = sym there ∙ ap
            (slice_get (row_tags ASKED)) (sym same) ∙ at in let is : true ≡ t = cc in is ∙ fit ∙ may.0) in
            absurd (cc),
        true,
        there,
        refl,
      );
  replies = λ j k t u w v q r at fit there fits answers. answers;
}

-- the same for groups whose tags are those of a row
pub row_can_ask : (tags : List Bool) → tags ≡ row_tags ASKED
    → CanAsk PeerFits (λ b. b) PeerMayAsk PeerRight PeerAnswers tags
row_can_ask tags e = subst (CanAsk PeerFits (λ b. b) PeerMayAsk PeerRight PeerAnswers) (sym e) peers_can_ask

pub peers_tell : (tags : List Bool) → EachTells ℕ ℕ (Unit {0}) PeerFits PeerSound (λ b. b) (λ b. true)
    peer_left tags
peers_tell tags = λ k d low g fit. refl

-- a row of peers ends soon
pub peers_end : (limit turns : ℕ) → turns ≤ 2 ^ 40 → MOST_ALONE ≤ limit
    → EndSoon ℕ ℕ (Unit {0}) PeerFits PeerSound (λ b. b) (λ b. true) peer_left limit turns (row_tags ASKED)
peers_end limit turns low high = record {
  most = 2 * MOST_TODO + 1;
  each = λ k d low g fit few. let sound = fit.1 in let todo = sound.few in let one = sound.one in omega arith;
  enough = omega arith;
}

-- where no group is worn, only memory can lack
pub only_memory : {A : Type 0} (r : Result A Unfinished) → (IsErrOf r unfinished.Worn → ⊥)
    → IsOkUnless r unfinished.NoMemory
only_memory (Ok a) none = tt
only_memory (Err unfinished.NoMemory) none = refl
only_memory (Err unfinished.Worn) none = absurd (none refl)

pub row_of : (n : ℕ) (xs : List (Group Peer ℕ ℕ Bool (Unit {0}))) (x : Group Peer ℕ ℕ Bool (Unit {0}))
    → length xs ≡ n → All (λ g. IsPeer false g) xs → IsPeer true x
    → GroupsFit PeerFits PeerSound (λ b. b) (λ b. true) (row_tags n) (xs ++ x ∷ [])
row_of zero [] x len all last = (last, tt)
row_of zero (y ∷ xs) x len all last = absurd (omega arith)
row_of (suc n) [] x len all last = absurd (omega arith)
row_of (suc n) (y ∷ xs) x len all last = (
  All-head (λ g. IsPeer false g) y xs all,
  row_of n xs x (omega arith)
      (All-tail (λ g. IsPeer false g) y xs all) last,
)

-- peers that are made one after the other
pub record IsFilling (n : ℕ) (started : Bool) (gs : List (Group Peer ℕ ℕ Bool (Unit {0}))) : Type 0 where
  pub count : length gs ≡ n
  pub fits : All (λ g. IsPeer false g) gs
  pub few : All (λ g. g.cx.log.state.turns ≤ 1) gs
  pub new : started ≡ false → All (λ g. g.cx.log.state.turns ≤ 0) gs

-- one more of which P holds
pub all_more : {X : Type 0} (P : X → Type 0) (gs : List X) (g : X) → All P gs → P g → All P (gs ++ g ∷ [])
all_more P gs g all one = All-append P gs (g ∷ []) all (All-cons P g [] one (All-nil P))

pub filling_begins : (started : Bool) (gs : List (Group Peer ℕ ℕ Bool (Unit {0}))) → gs ≡ []
    → IsFilling 0 started gs
filling_begins started gs none = subst (λ hs. IsFilling 0 started hs) (sym none) (record {
  count = refl;
  fits = All-nil (λ g. IsPeer false g);
  few = All-nil (λ g. g.cx.log.state.turns ≤ 1);
  new = λ e. All-nil (λ g. g.cx.log.state.turns ≤ 0);
})

pub filling_next : (n : ℕ) (started : Bool) (gs hs : List (Group Peer ℕ ℕ Bool (Unit {0})))
    (g : Group Peer ℕ ℕ Bool (Unit {0})) → IsFilling n started gs → hs ≡ gs ++ g ∷ [] → IsPeer false g
    → g.cx.log.state.turns ≤ 1
    → (started ≡ false → g.cx.log.state.turns ≤ 0) → IsFilling (n + 1) started hs
filling_next n started gs hs g was is fits few new = subst (λ ks. IsFilling (n + 1) started ks) (sym is)
    (record {
      count = let e = was.count in omega (arith, length-append gs (g ∷ []));
      fits = all_more (λ h. IsPeer false h) gs g was.fits fits;
      few = all_more (λ h. h.cx.log.state.turns ≤ 1) gs g was.few few;
      new = λ e. all_more (λ h. h.cx.log.state.turns ≤ 0) gs g (was.new e) (new e);
    })

pub row_done : (started : Bool) (gs hs : List (Group Peer ℕ ℕ Bool (Unit {0})))
    (g : Group Peer ℕ ℕ Bool (Unit {0})) → IsFilling ASKED started gs → hs ≡ gs ++ g ∷ [] → IsPeer true g
    → g.cx.log.state.turns ≤ 0
    → AreRow 1 hs × (started ≡ false → AreRow 0 hs)
row_done started gs hs g was is fits new =
    let len : length hs ≡ ASKED + 1 = (let e = was.count in let n : length hs ≡ length (gs ++ g ∷ []) = ap
    (λ ks. length ks) is in omega (arith, length-append gs (g ∷ []))) in
    let row : GroupsFit PeerFits PeerSound (λ b. b) (λ b. true) (row_tags ASKED) hs = subst
    (λ ks. GroupsFit PeerFits PeerSound (λ b. b) (λ b. true) (row_tags ASKED) ks) (sym is)
    (row_of ASKED gs g was.count was.fits fits) in (
      record {
        fits = row;
        few = subst (λ ks. All (λ h. h.cx.log.state.turns ≤ 1) ks) (sym is)
            (all_more (λ h. h.cx.log.state.turns ≤ 1) gs g was.few (omega arith));
        count = len;
      },
      λ e. record {
        fits = row;
        few = subst (λ ks. All (λ h. h.cx.log.state.turns ≤ 0) ks) (sym is)
            (all_more (λ h. h.cx.log.state.turns ≤ 0) gs g (was.new e) new);
        count = len;
      },
    )

-- the tags of so many peers that are not only asked
abbrev pub workers_tags : ℕ → List Bool
workers_tags zero = []
workers_tags (suc n) = false ∷ workers_tags n

tags_snoc : (n : ℕ) → workers_tags n ++ false ∷ [] ≡ workers_tags (suc n)
tags_snoc zero = refl
tags_snoc (suc n) = ap (λ ts. false ∷ ts) (tags_snoc n)

pub tags_next : (n : ℕ) (old new : List Bool) → old ≡ workers_tags n → new ≡ old ++ false ∷ []
    → new ≡ workers_tags (n + 1)
tags_next n old new was is = let e : suc n ≡ n + 1 = omega arith in is ∙ ap (λ ts. ts ++ false ∷ []) was ∙
    tags_snoc n ∙ ap workers_tags e

tags_last : (n : ℕ) → workers_tags n ++ true ∷ [] ≡ row_tags n
tags_last zero = refl
tags_last (suc n) = ap (λ ts. false ∷ ts) (tags_last n)

pub tags_done : (n m : ℕ) (old new : List Bool) → n ≡ m → old ≡ workers_tags n → new ≡ old ++ true ∷ []
    → new ≡ row_tags m
tags_done n m old new e was is = is ∙ ap (λ ts. ts ++ true ∷ []) was ∙ tags_last n ∙ ap row_tags e

-- a worker's tag
tag_at : (n k : ℕ) → k < n → get_elem? (row_tags n) k ≡ some false
tag_at zero k low = absurd (omega arith)
tag_at (suc n) zero low = refl
tag_at (suc n) (suc k) low = tag_at n k (omega arith)

pub row_starts : (starts : ℕ) → starts ≤ ASKED → CanStart (λ b. b) (row_tags ASKED) starts
row_starts starts few k low = (false, tag_at ASKED k (omega arith), refl)

-- a journal that was made with no turns was so still once a turn was taken, used and given back
pub still_first : (a b c d : Log) (took used gave : List Entry) → a.base.made ≡ 0 → Extends a b took
    → Extends b c used → GoesOn c d gave → d.base.made ≡ 0
still_first a b c d took used gave none x y z = z.made ∙ ap (λ b. b.made) (y.base ∙ x.base) ∙ none
