-- One stage of a chain: a transform, until it has ended, and the bytes that wait after it. A transform that
-- is done is let go, and its stage keeps that mark until it has ended.
use Rattle.std.specs.Prelude.{◌≡◌, ℕ, ◌<◌, ◌≤◌, ◌++◌, List, [], ◌∷◌, Bool, true, false, nat_le, length, drop, take, Option, Some, None, is_none, ⊤}
use Rattle.ts_transform.specs.Law.{Adds, behind}
use Rattle.ts_transform.specs.declared.transform.TheConstants.{MOST_FED}
use Rattle.ts_transform.specs.declared.pump.Part.{Part}
use Rattle.ts_transform.specs.declared.pump.Part.TheVariants.{Works, Done}
use Rattle.ts_transform.specs.declared.pump.Stage.{Stage}
use Rattle.ts_transform.specs.declared.pump.Pumped.{Pumped}
use Rattle.ts_transform.specs.declared.pump.Pumped.TheVariants.{Moved, Ended, Blocked, Idle}

-- a transform as a stage keeps it: where it is done, only its pause is kept
abbrev pub part_of : {P : Type 0} → (P → List ℕ → Option (List ℕ)) → (P → ℕ) → P → Part P
part_of soon pause p = part_if (is_none (soon p [])) (pause p) p
  where
    part_if : {P : Type 0} → Bool → ℕ → P → Part P
    part_if true pause p = Done pause
    part_if false pause p = Works p

-- what a stage keeps of its transform after a pump
abbrev pub kept_of : {P : Type 0} → (P → List ℕ → Option (List ℕ)) → (P → ℕ) → Pumped → P → Option (Part P)
kept_of soon pause (Moved n) p = Some (part_of soon pause p)
kept_of soon pause Ended p = None
kept_of soon pause (Blocked w) p = Some (Works p)
kept_of soon pause Idle p = Some (Works p)

-- what the transform of a stage still writes, if it has one that works
abbrev pub rest_of : {P : Type 0} → (P → List ℕ → List ℕ) → Option (Part P) → List ℕ → List ℕ
rest_of rest None v = []
rest_of rest (Some (Works part)) v = rest part v
rest_of rest (Some (Done pause)) v = []

-- what it has written once v came, and no end; none where the stage is done then, or has ended
abbrev pub soon_of : {P : Type 0} → (P → List ℕ → Option (List ℕ)) → Option (Part P) → List ℕ
    → Option (List ℕ)
soon_of soon None v = None
soon_of soon (Some (Works part)) v = soon part v
soon_of soon (Some (Done pause)) v = None

-- whether a stage is done, and was not let end yet
abbrev pub is_done : {P : Type 0} → Option (Part P) → Bool
is_done None = false
is_done (Some (Works part)) = false
is_done (Some (Done pause)) = true

-- a stage needs no more bytes to have work once no more come, or once it is done
abbrev pub needs_no_more : {P : Type 0} → Bool → Option (Part P) → Bool
needs_no_more up None = up
needs_no_more up (Some (Works part)) = up
needs_no_more up (Some (Done pause)) = true

-- a stage whose transform works is not done
abbrev pub IsSettled : {P : Type 0} → (P → List ℕ → Option (List ℕ)) → Option (Part P) → Type 0
IsSettled soon None = ⊤
IsSettled soon (Some (Works part)) = is_none (soon part []) ≡ false
IsSettled soon (Some (Done pause)) = ⊤

-- a stage has ended once it has no transform
abbrev pub has_ended : {P : Type 0} → Stage P → Bool
has_ended s = is_none s.part

-- what still comes after a stage, if v is what still comes before it
abbrev pub passed : {P : Type 0} → (P → List ℕ → List ℕ) → Stage P → List ℕ → List ℕ
passed rest s v = s.after ++ rest_of rest s.part v

-- what has come after it so far, once v came before it and no end
abbrev pub soon_passed : {P : Type 0} → (P → List ℕ → Option (List ℕ)) → Stage P → List ℕ → Option (List ℕ)
soon_passed soon s v = behind s.after (soon_of soon s.part v)

-- a stage has work: it has not ended, and bytes wait before it or it needs no more
abbrev pub has_work : Bool → Bool → List ℕ → Bool
has_work true up from = false
has_work false true from = true
has_work false false [] = false
has_work false false (b ∷ bs) = true

-- a stage takes no input where as many bytes wait after it
abbrev pub MOST_WAITING : ℕ
MOST_WAITING = 65536

-- a stage must work, by whether it has work: there is room after it too
abbrev pub HasDuty : Bool → List ℕ → Type 0
HasDuty works after = (works ≡ true) × (length after < MOST_WAITING)

-- a stage that has work is blocked, ends, or moves some bytes, in this order; it ends where it is done, or
-- where nothing waits before it
abbrev pub AnswersWork : Bool → Bool → List ℕ → List ℕ → Pumped → Type 0
AnswersWork true done from after r = r ≡ Blocked (length after)
AnswersWork false true from after r = r ≡ Ended
AnswersWork false false [] after r = r ≡ Ended
AnswersWork false false (b ∷ bs) after r = IsMoved (b ∷ bs) r
  where
    IsMoved : List ℕ → Pumped → Type 0
    IsMoved from (Moved n) = (1 ≤ n) × (n ≤ MOST_FED) × (n ≤ length from)
    IsMoved from Ended = ⊥
    IsMoved from (Blocked w) = ⊥
    IsMoved from Idle = ⊥

abbrev pub AnswersIf : Bool → Bool → List ℕ → List ℕ → Pumped → Type 0
AnswersIf true done from after r = AnswersWork (nat_le MOST_WAITING (length after)) done from after r
AnswersIf false done from after r = r ≡ Idle

-- what a pump of a stage answers: idle exactly where it has no work
abbrev pub Answers : {P : Type 0} → Bool → List ℕ → Stage P → Pumped → Type 0
Answers up from s r =
    AnswersIf (has_work (has_ended s) (needs_no_more up s.part) from) (is_done s.part) from s.after r

-- what a pump leaves before and after its stage, with what it wrote
abbrev pub Steps : {P : Type 0} → (P → List ℕ → List ℕ) → List ℕ → Stage P → Pumped → List ℕ → Stage P
    → Type 0
Steps rest from s (Moved n) from' s' = (from' ≡ drop n from) × (has_ended s' ≡ has_ended s) × Adds
    (rest_of rest s.part) (rest_of rest s'.part) (take n from) s.after s'.after
Steps rest from s Ended from' s' = (from' ≡ []) × (s'.part ≡ None)
    × (s'.after ≡ s.after ++ rest_of rest s.part [])
Steps rest from s (Blocked w) from' s' = (from' ≡ from) × (s' ≡ s)
Steps rest from s Idle from' s' = (from' ≡ from) × (s' ≡ s)

-- whether a pump of a stage cuts off what comes before it: it ended a stage that was done
abbrev pub cuts : Pumped → Bool → Bool
cuts (Moved n) done = false
cuts Ended done = done
cuts (Blocked w) done = false
cuts Idle done = false

-- while more may come before a stage, a pump of it keeps what has come after it so far, whatever comes next
abbrev pub KeepsSoon : Bool → (soon soon' : List ℕ → Option (List ℕ)) → (from after from' after' : List ℕ)
    → Type 0
KeepsSoon up soon soon' from after from' after' =
    up ≡ false → (x : List ℕ) → behind after' (soon' (from' ++ x)) ≡ behind after (soon (from ++ x))

-- the same of the stage, which keeps no transform that is done
pub record StageStaysSoon {P : Type 0} (soon : P → List ℕ → Option (List ℕ)) (up : Bool) (from : List ℕ)
    (s : Stage P) (from' : List ℕ) (s' : Stage P) : Type 0 where
  pub keeps : KeepsSoon up (soon_of soon s.part) (soon_of soon s'.part) from s.after from' s'.after
  pub settled : IsSettled soon s.part → IsSettled soon s'.part

-- how much less is left to do after a pump
abbrev pub done_by : Pumped → ℕ
done_by (Moved n) = n
done_by Ended = 1
done_by (Blocked w) = 0
done_by Idle = 0

-- the end of a stage is one thing to do
abbrev pub to_end : Bool → ℕ
to_end true = 0
to_end false = 1

-- what holds where a pump ended a stage
abbrev pub IfEnds : Pumped → Type 0 → Type 0
IfEnds (Moved n) P = ⊤
IfEnds Ended P = P
IfEnds (Blocked w) P = ⊤
IfEnds Idle P = ⊤

-- what holds where a pump did nothing
abbrev pub IfRests : Pumped → Type 0 → Type 0
IfRests (Moved n) P = ⊤
IfRests Ended P = ⊤
IfRests (Blocked w) P = P
IfRests Idle P = P

-- the same of a transform alone, on what waits before it and after it
abbrev pub Runs : {P : Type 0} → (P → List ℕ → List ℕ) → List ℕ → P → List ℕ → Pumped → List ℕ → P → List ℕ
    → Type 0
Runs rest from part after (Moved n) from' part' after' = (from' ≡ drop n from) × Adds (rest part) (rest part')
    (take n from) after after'
Runs rest from part after Ended from' part' after' = (from' ≡ from) × (after' ≡ after ++ rest part [])
Runs rest from part after (Blocked w) from' part' after' = (from' ≡ from) × (part' ≡ part) × (after' ≡ after)
Runs rest from part after Idle from' part' after' = (from' ≡ from) × (part' ≡ part) × (after' ≡ after)
