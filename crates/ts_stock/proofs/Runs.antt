-- The runs of a body between the bytes that a drop line leaves out.
use Rattle.std.proofs.Common.{◌≡◌, ◌≢◌, ◌==◌, ℕ, zero, suc, ◌+◌, ◌-◌, ◌<◌, ◌≤◌, ◌++◌, true, false, not, cond, List, [], ◌∷◌, length, take, drop, get_or, refl, sym, ap, ◌∙◌, arith, take-add, length-take-le, length-drop}
use Rattle.std.proofs.lemmas.Bool.{false_from_ne_true, eqb-true, eq-eqb}
use Rattle.std.proofs.lemmas.List.{take_at, drop_at, take-append-le, get_or-take, get_or-drop}
use borrow.Rule.Slice.PartMut.{put_mid}
use Rattle.std.proofs.lemmas.List.Elements.{filter-append}
use Rattle.ts_config.specs.Bodies.{without_byte}
use Rattle.ts_stock.specs.Dropping.{IsFreeOf}
use native.Mathlib.Numerals.{unary_clauses}

-- bytes of which none is left out stay
none_left_out : (byte : ℕ) (ys : List ℕ) → ((k : ℕ) → k < length ys → get_or ys k 0 ≢ byte)
    → without_byte byte ys ≡ ys
none_left_out byte [] none = refl
none_left_out byte (y ∷ ys) none =
    let other : (y == byte) ≡ false =
    false_from_ne_true (y == byte) (λ same. none 0 (omega arith) (eqb-true y byte same)) in
    rw (other, none_left_out byte ys (λ k below. none (suc k) (omega (arith, below)))) refl

-- of a longer front stays what stays of the front and of the bytes behind it
pub front_grows : (byte from until : ℕ) (ys : List ℕ) → from ≤ until
    → without_byte byte (take until ys) ≡ without_byte byte (take from ys)
    ++ without_byte byte (take (until - from) (drop from ys))
front_grows byte from until ys order =
    let sum : until ≡ from + (until - from) = omega (arith, order) in
    ap (λ n. without_byte byte (take n ys)) sum ∙ ap (without_byte byte) (take-add from (until - from) ys)
    ∙ filter-append _ (take from ys) (take (until - from) (drop from ys))

-- a run without the byte stays whole
pub run_stays : (byte from until : ℕ) (ys : List ℕ) → from ≤ until → until ≤ length ys
    → IsFreeOf byte ys from until
    → without_byte byte (take until ys) ≡ without_byte byte (take from ys)
    ++ take (until - from) (drop from ys)
run_stays byte from until ys order within free =
    let run = take (until - from) (drop from ys) in
    let len : length run ≡ until - from =
    length-take-le (until - from) (drop from ys) (omega (arith, within, length-drop from ys)) in
    front_grows byte from until ys order
    ∙ ap (λ t. without_byte byte (take from ys) ++ t) (none_left_out byte run (λ k below same.
    let short : k < until - from = omega (arith, below, len) in
    free (from + k) (omega arith) (omega (arith, short))
    (sym (get_or-take (until - from) (drop from ys) k 0 short ∙ get_or-drop from ys k 0) ∙ same)))

-- the byte itself does not stay
left_out : (byte place : ℕ) (ys : List ℕ) → place < length ys → (get_or ys place 0 == byte) ≡ true
    → without_byte byte (take (suc place) ys) ≡ without_byte byte (take place ys)
left_out byte place [] within there = absurd (omega (arith, within))
left_out byte zero (y ∷ ys) within there = rw there refl
left_out byte (suc place) (y ∷ ys) within there =
    ap (λ t. cond (not (y == byte)) (y ∷ t) t) (left_out byte place ys (omega (arith, within)) there)

-- up to and with a place of the byte stays what stays up to it
pub place_left_out : (byte place : ℕ) (ys : List ℕ) → place < length ys → get_or ys place 0 ≡ byte
    → without_byte byte (take (place + 1) ys) ≡ without_byte byte (take place ys)
place_left_out byte place ys within there =
    simp unary_clauses (left_out byte place ys within (eq-eqb _ byte there))

-- what was filled before and what was filled behind it
pub filled_grows : (filled kept most : ℕ) (room new : List ℕ) → filled ≤ length room → kept ≤ length new
    → take (filled + kept) (put_mid filled most room new) ≡ take filled room ++ take kept new
filled_grows filled kept most room new within fits =
    let len = length-take-le filled room within in
    take-add filled kept (put_mid filled most room new)
    ∙ ap (λ t. t ++ take kept (drop filled (put_mid filled most room new)))
    (take_at (take filled room) _ filled len)
    ∙ ap (λ t. take filled room ++ take kept t) (drop_at (take filled room) _ filled len)
    ∙ ap (λ t. take filled room ++ t) (take-append-le kept new _ fits)
