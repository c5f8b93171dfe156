-- What one call on a side of a transaction lowers of what is left.
use Rattle.std.proofs.Common.{◌≡◌, ℕ, ◌+◌, ◌-◌, ◌*◌, ◌<◌, ◌≤◌, List, [], ◌∷◌, length, Bool, true, false}
use Rattle.std.proofs.Common.{arith, refl, ap, ◌∙◌, length-append}
use Rattle.std.specs.Prelude.{Option, Some, None}
use Rattle.std.proofs.lemmas.List.{length-drop}
use Rattle.ts_config.specs.declared.setup.Setup.{Setup}
use Rattle.ts_config.specs.declared.setup.TransformLine.{TransformLine}
use Rattle.ts_link.specs.Link.{AgainsFall, Fewer, MayReplace, NoMore}
use Rattle.ts_upstream.specs.Uploads.{Rose8, both}
use Rattle.ts_vconn.specs.declared.moves.Pulled.{Pulled}
use Rattle.ts_vconn.specs.declared.moves.Pulled.TheVariants as L
use Rattle.ts_vconn.specs.declared.moves.Pushed.{Pushed}
use Rattle.ts_vconn.specs.declared.moves.Pushed.TheVariants as V
use Rattle.ts_vconn.specs.MoveAnswers.{Came, Went}
use Rattle.ts_phases.specs.View.{LinkSide}
use Rattle.ts_phases.specs.Moving.{SideReads, SideWrites}
use Rattle.ts_phases.specs.Lowering.{if_told, to_ask, to_hear}
use Rattle.ts_passing.specs.Lines.{passes}

-- ---- numbers that are told

-- one, where an Again came
abbrev pub one_if : Bool → ℕ
one_if true = 1
one_if false = 0

-- an Again lowers their number by one
agains_within : (b : Bool) (m n : ℕ) → AgainsFall b (Some m) (Some n) → n + one_if b ≤ m
agains_within true m n falls = omega (arith, falls)
agains_within false m n falls = omega (arith, falls)

-- a number that is told stays told
still_told : (b : Bool) (m : ℕ) → AgainsFall b (Some m) None → ⊥
still_told true m falls = falls
still_told false m falls = falls

-- what falls wherever it is told, is fewer
pub told_fewer : (f g : ℕ → ℕ → ℕ) (b : Bool) (k : ℕ) (m m' n n' : Option ℕ) → AgainsFall b m m'
    → Rose8 n n' k
    → ((x x' y y' : ℕ) → x' + one_if b ≤ x → y' ≤ y + 8 * k → g x' y' < f x y)
    → Fewer (if_told m n f) (if_told m' n' g)
told_fewer f g b k None m' n n' falls rose less = tt
told_fewer f g b k (Some x) m' None n' falls rose less = tt
told_fewer f g b k (Some x) None (Some y) n' falls rose less = absurd (still_told b x falls)
told_fewer f g b k (Some x) (Some x') (Some y) None falls rose less = absurd rose
told_fewer f g b k (Some x) (Some x') (Some y) (Some y') falls rose less =
    less x x' y y' (agains_within b x x' falls) rose

-- and what does not rise, is not more
pub told_no_more : (f g : ℕ → ℕ → ℕ) (b : Bool) (k : ℕ) (m m' n n' : Option ℕ) → AgainsFall b m m'
    → Rose8 n n' k
    → ((x x' y y' : ℕ) → x' + one_if b ≤ x → y' ≤ y + 8 * k → g x' y' ≤ f x y)
    → NoMore (if_told m n f) (if_told m' n' g)
told_no_more f g b k None m' n n' falls rose less = tt
told_no_more f g b k (Some x) m' None n' falls rose less = tt
told_no_more f g b k (Some x) None (Some y) n' falls rose less = absurd (still_told b x falls)
told_no_more f g b k (Some x) (Some x') (Some y) None falls rose less = absurd rose
told_no_more f g b k (Some x) (Some x') (Some y) (Some y') falls rose less =
    less x x' y y' (agains_within b x x' falls) rose

-- the Again answers of one side lower those of both
pub first_falls : (b : Bool) (m m' n : Option ℕ) → AgainsFall b m m' → AgainsFall b (both m n) (both m' n)
first_falls true None m' n falls = tt
first_falls false None m' n falls = tt
first_falls b (Some x) None n falls = absurd (still_told b x falls)
first_falls true (Some x) (Some x') None falls = tt
first_falls false (Some x) (Some x') None falls = tt
first_falls true (Some x) (Some x') (Some y) falls = omega (arith, falls)
first_falls false (Some x) (Some x') (Some y) falls = omega (arith, falls)

pub second_falls : (b : Bool) (m n n' : Option ℕ) → AgainsFall b n n' → AgainsFall b (both m n) (both m n')
second_falls true None n n' falls = tt
second_falls false None n n' falls = tt
second_falls true (Some x) None n' falls = tt
second_falls false (Some x) None n' falls = tt
second_falls b (Some x) (Some y) None falls = absurd (still_told b y falls)
second_falls true (Some x) (Some y) (Some y') falls = omega (arith, falls)
second_falls false (Some x) (Some y) (Some y') falls = omega (arith, falls)

-- without a call no number falls or rises
pub none_fall : (m : Option ℕ) → AgainsFall false m m
none_fall None = tt
none_fall (Some x) = omega arith

pub none_rise : (n : Option ℕ) → Rose8 n n 0
none_rise None = tt
none_rise (Some y) = omega arith

-- what stays is no more
pub no_more_same : (m : Option ℕ) → NoMore m m
no_more_same None = tt
no_more_same (Some x) = omega arith

-- where none is left, none rose
pub none_left : (n : Option ℕ) (k : ℕ) → Rose8 n (Some 0) k
none_left None k = tt
none_left (Some y) k = omega arith

-- ---- bytes that were read

pub passes_less : (ls : List TransformLine) (m n : ℕ) → m ≤ n → passes ls m ≤ passes ls n
passes_less [] m n less = less
passes_less (l ∷ ls) m n less = let rest : passes ls m ≤ passes ls n =
    passes_less ls m n less in omega (arith, less, rest)

-- what may replace the bytes that are still to come is no longer
pub replaced_within : (given before after : List ℕ) → MayReplace given before after
    → length after ≤ length before
replaced_within [] before after replaced = replaced
replaced_within (b ∷ bs) before after replaced = omega (arith, ap length replaced)

-- some bytes came in, of what might still come
pub record Comes (c d : LinkSide) (least : ℕ) : Type 0 where
  pub more : ℕ
  pub some : least ≤ more
  pub held : length d.inbox ≡ length c.inbox + more
  pub left : length d.look.left + more ≤ length c.look.left

-- how many bytes a read brings at least
abbrev pub least_came : Pulled → ℕ
least_came (L.Some n) = 1
least_came _ = 0

came_some : (p : Pulled) (most : ℕ) (more : List ℕ) → Came p most more → least_came p ≤ length more
came_some (L.Some n) most more (len, some, few) = omega (arith, len, some)
came_some _ most more none = omega arith

-- one read of a side
pub read_comes : (c d : LinkSide) (p : Pulled) → SideReads true c d p → Comes c d (least_came p)
read_comes c d p reads =
    let on = reads.pulls in
    let gives = on.pulls.told refl in
    let ahead : length gives.before ≤ length c.look.left = replaced_within c.look.given c.look.left
    gives.before gives.replaced in
    let moved : length gives.before ≡ length on.more + length d.look.left =
    ap length gives.moved ∙ length-append on.more d.look.left in
    record {
      more = length on.more;
      some = came_some p reads.most on.more on.pulls.came;
      held = ap length on.grows ∙ length-append c.inbox on.more;
      left = omega (arith, ahead, moved);
    }

-- what it leaves to be heard, of the origin and of the client
pub comes_hear : (setup : Setup) (c d : LinkSide) (least : ℕ) → Comes c d least
    → to_hear setup d + least ≤ to_hear setup c
comes_hear setup c d least comes =
    let ls = setup.transforms.items in
    let total : length d.look.left + length d.inbox ≤ length c.look.left + length c.inbox =
    omega (arith, comes.held, comes.left) in
    let passed : passes ls (length d.look.left + length d.inbox) ≤ passes ls
    (length c.look.left + length c.inbox) =
    passes_less ls (length d.look.left + length d.inbox) (length c.look.left + length c.inbox) total in
    omega (arith, passed, comes.held, comes.left, comes.some)

pub comes_ask : (c d : LinkSide) (least : ℕ) → Comes c d least → to_ask d + least ≤ to_ask c
comes_ask c d least comes = omega (arith, comes.held, comes.left, comes.some)

-- so many bytes were taken away in front of what came
pub used_hear : (setup : Setup) (c d : LinkSide) (used : ℕ) → length d.inbox + used ≤ length c.inbox
    → length d.look.left ≤ length c.look.left → to_hear setup d + used ≤ to_hear setup c
used_hear setup c d used held left =
    let ls = setup.transforms.items in
    let total : length d.look.left + length d.inbox ≤ length c.look.left + length c.inbox =
    omega (arith, held, left) in
    let passed : passes ls (length d.look.left + length d.inbox) ≤ passes ls
    (length c.look.left + length c.inbox) =
    passes_less ls (length d.look.left + length d.inbox) (length c.look.left + length c.inbox) total in
    omega (arith, passed, held, left)

pub still_hear : (setup : Setup) (c d : LinkSide) → length d.inbox ≤ length c.inbox
    → length d.look.left ≤ length c.look.left → to_hear setup d ≤ to_hear setup c
still_hear setup c d held left = omega (arith, used_hear setup c d 0 (omega (arith, held)) left)

-- ---- bytes that were written

-- how many bytes a write takes at least
abbrev pub least_went : Pushed → ℕ
least_went (V.Some n) = 1
least_went _ = 0

pub same_length : (before after : List ℕ) → after ≡ before → length after ≤ length before
same_length before after same = omega (arith, ap length same)

pub went_some : (p : Pushed) (before after : List ℕ) → Went p before after
    → length after + least_went p ≤ length before
went_some (V.Some n) before after (some, within, rest) =
    let len : length after ≡ length before - n = ap length rest ∙ length-drop n before in
    omega (arith, some, within, len)
went_some _ before after went = omega (arith, same_length before after went.1)

-- a write leaves what is to be heard
pub write_hear : (setup : Setup) (c d : LinkSide) (p : Pushed) → SideWrites true c d p
    → to_hear setup d ≤ to_hear setup c
write_hear setup c d p writes =
    still_hear setup c d (same_length c.inbox d.inbox writes.inbox)
    (replaced_within c.look.given c.look.left d.look.left (writes.pushes.told refl).left)
