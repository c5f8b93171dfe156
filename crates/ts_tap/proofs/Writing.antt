-- The loop over what a client took, offer by offer.
use Rattle.std.proofs.Common.{◌≡◌, ℕ, ◌+◌, ◌≤◌, List, ◌++◌, length, sym, ap, ◌∙◌, arith, append_assoc}
use Rattle.std.proofs.Common.{length-append}
use Rattle.ts_tap.specs.declared.watch.Watch.{Watch}
use Rattle.ts_tap.specs.Sending.{SeesFront, Sent}
use Rattle.ts_tap.specs.Taps.{HasRoom, TapsOn, watching_of}
use Rattle.ts_tap.specs.Watching.{CountsLeft, CountsMore, ShowsOn}
use Rattle.ts_tap.proofs.Showing.{counts_on, taps_front}

-- a front of it was seen, and its body data shown; for the rest there is room
pub record ShowsSoFar {W : Type 0} (Took : W → List ℕ → Type 0) (lefts : W → ℕ) (Goes : W → W → Type 0)
    (s : Sent) (w : Watch W) (taken : List ℕ) (t : Sent) (x : Watch W) (rest : List ℕ) : Type 0 where
  pub gone : List ℕ
  pub whole : taken ≡ gone ++ rest
  pub taps : TapsOn Took s (watching_of w) gone t (watching_of x)
  pub counts : CountsLeft lefts (watching_of w) (watching_of x)
  pub went : Goes w.watcher x.watcher
  pub room : HasRoom (length rest) x

-- room for more is room for less
pub room_less : {W : Type 0} (w : Watch W) (m n : ℕ) → m ≤ n → HasRoom n w → HasRoom m w
room_less w m n less room kept = let most = room kept in omega (arith, less, most)

module _ {W : Type 0} (Took : W → List ℕ → Type 0) (lefts : W → ℕ) (goes : W → W → Type 0) where
  -- one more front of the rest
  pub shows_more : (s t u : Sent) (w x y : Watch W) (taken rest found behind : List ℕ)
      → ((a b c : W) → goes a b → goes b c → goes a c)
      → ShowsSoFar Took lefts goes s w taken t x rest → SeesFront t u rest found behind
      → ShowsOn Took (watching_of x) found (watching_of y) → CountsMore lefts (watching_of x) (watching_of y)
      → goes x.watcher y.watcher
      → ((more : ℕ) → HasRoom (length found + more) x → HasRoom more y)
      → ShowsSoFar Took lefts goes s w taken u y behind
  shows_more s t u w x y taken rest found behind on so_far sees shows counts went room =
      let long : length rest ≡ length sees.front + length behind =
      ap length sees.whole ∙ length-append sees.front behind in
      record {
        gone = so_far.gone ++ sees.front;
        whole = so_far.whole ∙ ap (λ l. so_far.gone ++ l) sees.whole
            ∙ sym (append_assoc so_far.gone sees.front behind);
        taps = taps_front Took lefts s t u (watching_of w) (watching_of x) (watching_of y) so_far.gone
            sees.front found so_far.taps sees.sees shows;
        counts = counts_on Took lefts (watching_of w) (watching_of x) (watching_of y) so_far.counts counts;
        went = on w.watcher x.watcher y.watcher so_far.went went;
        room = room (length behind) (room_less x (length found + length behind) (length rest)
            (omega (arith, long, sees.within)) so_far.room);
      }
