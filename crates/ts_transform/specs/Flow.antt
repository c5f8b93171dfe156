-- A chain, and the flow through it: one expression for all that it still gives, whatever stands where on the
-- way.
use Rattle.std.specs.Prelude.{◌≡◌, ◌≢◌, ℕ, zero, suc, ◌+◌, ◌++◌, List, [], ◌∷◌, Bool, true, false, ⊤, length, drop, take, map, not, Option, Some, None, ◌<◌, ◌⊎◌}
use Rattle.std.specs.Option.{option_and_then}
use Rattle.std.specs.Bool.{OnTrue}
use Rattle.ts_transform.specs.declared.pump.Part.{Part}
use Rattle.ts_transform.specs.declared.pump.Part.TheVariants.{Works, Done}
use Rattle.ts_transform.specs.declared.pump.Stage.{Stage}
use Rattle.ts_transform.specs.declared.pump.Pumped.{Pumped}
use Rattle.ts_transform.specs.Stage.{MOST_WAITING, HasDuty, IsSettled, passed, soon_passed, part_of, is_done, has_ended, has_work, needs_no_more, cuts, Answers, Steps, to_end}

-- what still comes after the stages, if v is what still comes before them
abbrev pub flow_from : {P : Type 0} → (P → List ℕ → List ℕ) → List (Stage P) → List ℕ → List ℕ
flow_from rest [] v = v
flow_from rest (s ∷ ss) v = flow_from rest ss (passed rest s v)

-- what a contract sees of a chain: the bytes before the first stage, each stage with the bytes after it, and
-- whether the end was given
pub record ChainState (P : Type 0) : Type 0 where
  pub first : List ℕ
  pub stages : List (Stage P)
  pub given : Bool

-- the chain of these stages, with the bytes before them
abbrev pub chain_of : {P : Type 0} → Bool → List ℕ → List (Stage P) → ChainState P
chain_of given first ss = record { first = first; stages = ss; given = given }

-- what a chain still gives its client, if z is all that it still gets
abbrev pub flow : {P : Type 0} → (P → List ℕ → List ℕ) → ChainState P → List ℕ → List ℕ
flow rest c z = flow_from rest c.stages (c.first ++ z)

-- what has come after the stages so far, once v came before them and no end; none where one of them finishes
-- early, or has
abbrev pub soon_from : {P : Type 0} → (P → List ℕ → Option (List ℕ)) → List (Stage P) → List ℕ
    → Option (List ℕ)
soon_from soon [] v = Some v
soon_from soon (s ∷ ss) v = option_and_then (soon_from soon ss) (soon_passed soon s v)

-- what a chain will have given its client once z came, and no end; none where a stage finishes early
abbrev pub soon_flow : {P : Type 0} → (P → List ℕ → Option (List ℕ)) → ChainState P → List ℕ
    → Option (List ℕ)
soon_flow soon c z = soon_from soon c.stages (c.first ++ z)

-- the composition of the parts over z, the first part acting first
abbrev pub compose : {P : Type 0} → (P → List ℕ → List ℕ) → List P → List ℕ → List ℕ
compose rest [] z = z
compose rest (p ∷ ps) z = compose rest ps (rest p z)

-- what the parts, the first acting first, have written once z came, and no end; none where one of them is
-- done then
abbrev pub soon_compose : {P : Type 0} → (P → List ℕ → Option (List ℕ)) → List P → List ℕ → Option (List ℕ)
soon_compose soon [] z = Some z
soon_compose soon (p ∷ ps) z = option_and_then (soon_compose soon ps) (soon p z)

-- a stage that got nothing yet
abbrev pub fresh_stage : {P : Type 0} → (P → List ℕ → Option (List ℕ)) → (P → ℕ) → P → Stage P
fresh_stage soon pause part = record { part = Some (part_of soon pause part); after = [] }

-- no stage keeps a transform that is done
abbrev pub AreSettled : {P : Type 0} → (P → List ℕ → Option (List ℕ)) → List (Stage P) → Type 0
AreSettled soon [] = ⊤
AreSettled soon (s ∷ ss) = IsSettled soon s.part × AreSettled soon ss

-- the bytes that wait at a boundary, of which number 0 is before the first stage
abbrev pub wait_at : {P : Type 0} → List ℕ → List (Stage P) → ℕ → List ℕ
wait_at first ss zero = first
wait_at first [] (suc at) = []
wait_at first (s ∷ ss) (suc at) = wait_at s.after ss at

-- the bytes that wait at the last boundary, for the client
abbrev pub last_wait : {P : Type 0} → List ℕ → List (Stage P) → List ℕ
last_wait first [] = first
last_wait first (s ∷ ss) = last_wait s.after ss

-- whether nothing more comes to the last boundary
abbrev pub last_ended : {P : Type 0} → Bool → List (Stage P) → Bool
last_ended given [] = given
last_ended given (s ∷ ss) = last_ended (has_ended s) ss

-- the chain's client has all that it gets
abbrev pub IsFinished : {P : Type 0} → ChainState P → Type 0
IsFinished c = (last_ended c.given c.stages ≡ true) × (last_wait c.first c.stages ≡ [])

-- what a pump of the stage at a place answers
abbrev pub AnswersAt : {P : Type 0} → Bool → List ℕ → List (Stage P) → ℕ → Pumped → Type 0
AnswersAt up from [] at r = ⊥
AnswersAt up from (s ∷ ss) zero r = Answers up from s r
AnswersAt up from (s ∷ ss) (suc at) r = AnswersAt (has_ended s) s.after ss at r

-- whether the stage at a place is done, and was not let end yet
abbrev pub done_at : {P : Type 0} → List (Stage P) → ℕ → Bool
done_at [] at = false
done_at (s ∷ ss) zero = is_done s.part
done_at (s ∷ ss) (suc at) = done_at ss at

-- what a pump leaves of a stage before its own: it is cut off, or stays as it is
abbrev pub IsBefore : {P : Type 0} → Bool → List ℕ → Stage P → List ℕ → Stage P → Type 0
IsBefore true from s from' s' = (from' ≡ []) × (s'.part ≡ None)
IsBefore false from s from' s' = (from' ≡ from) × (s'.part ≡ s.part)

-- what a pump of the stage at a place leaves: those before a stage that was done are cut off, and all else
-- stays as it is
abbrev pub StepsAt : {P : Type 0} → (P → List ℕ → List ℕ) → List ℕ → List (Stage P) → ℕ → Pumped → List ℕ
    → List (Stage P) → Type 0
StepsAt rest from [] at r from' ss' = ⊥
StepsAt rest from (s ∷ ss) at r from' [] = ⊥
StepsAt rest from (s ∷ ss) zero r from' (s' ∷ ss') = Steps rest from s r from' s' × (ss' ≡ ss)
StepsAt rest from (s ∷ ss) (suc at) r from' (s' ∷ ss') =
    IsBefore (cuts r (done_at ss at)) from s from' s' × StepsAt rest s.after ss at r s'.after ss'

-- while more may come before the stages, a pump keeps what has come after them so far, whatever comes next;
-- and none keeps a transform that is done
pub record StaysSoon {P : Type 0} (soon : P → List ℕ → Option (List ℕ)) (up : Bool) (from : List ℕ)
    (ss : List (Stage P)) (from' : List ℕ) (ss' : List (Stage P)) : Type 0 where
  pub keeps : up ≡ false → (x : List ℕ) → soon_from soon ss' (from' ++ x) ≡ soon_from soon ss (from ++ x)
  pub settled : AreSettled soon ss → AreSettled soon ss'

-- the bytes of a chain that wait for its client
abbrev pub client_wait : {P : Type 0} → ChainState P → List ℕ
client_wait c = last_wait c.first c.stages

-- n bytes were taken from the last boundary, and all else stays as it is
abbrev pub Takes : {P : Type 0} → List ℕ → List (Stage P) → ℕ → List ℕ → List (Stage P) → Type 0
Takes from [] n from' ss' = (from' ≡ drop n from) × (ss' ≡ [])
Takes from (s ∷ ss) n from' [] = ⊥
Takes from (s ∷ ss) n from' (s' ∷ ss') =
    (from' ≡ from) × (s'.part ≡ s.part) × Takes s.after ss n s'.after ss'

-- the bytes that still pass the boundaries, if v is what still comes to the first, and the stages that have
-- not ended
abbrev pub passing : {P : Type 0} → (P → List ℕ → List ℕ) → List (Stage P) → List ℕ → ℕ
passing rest [] v = length v
passing rest (s ∷ ss) v = length v + to_end (has_ended s) + passing rest ss (passed rest s v)

-- what a chain has left to do, if z is all that it still gets: each pump that does something lowers it
abbrev pub left_to_do : {P : Type 0} → (P → List ℕ → List ℕ) → ChainState P → List ℕ → ℕ
left_to_do rest c z = passing rest c.stages (c.first ++ z)

-- a stage that was closed: it has no transform, and nothing waits after it
abbrev pub closed : {P : Type 0} → Stage P → Stage P
closed s = record { part = None; after = [] }

-- a chain that was aborted: nothing waits, nothing more comes, and each stage is closed
abbrev pub aborted : {P : Type 0} → ChainState P → ChainState P
aborted c = record { first = []; stages = map closed c.stages; given = true }

-- the stage at a place must work: it has work, and there is room after it
abbrev pub MustPump : {P : Type 0} → Bool → List ℕ → List (Stage P) → ℕ → Type 0
MustPump up from [] at = ⊥
MustPump up from (s ∷ ss) zero = HasDuty (has_work (has_ended s) (needs_no_more up s.part) from) s.after
MustPump up from (s ∷ ss) (suc at) = MustPump (has_ended s) s.after ss at

-- the stage of a chain at a place must work
abbrev pub MustWork : {P : Type 0} → ChainState P → ℕ → Type 0
MustWork c at = MustPump c.given c.first c.stages at

-- whether the first of these stages takes more bytes: it has not ended; where there is none, no end was given
abbrev pub first_wants : {P : Type 0} → Bool → List (Stage P) → Bool
first_wants given [] = not given
first_wants given (s ∷ ss) = not (has_ended s)

-- whether a chain takes more bytes
abbrev pub wants : {P : Type 0} → ChainState P → Bool
wants c = first_wants c.given c.stages

-- more may be given to a chain that wants it, and there is room before its first stage
abbrev pub MustRead : {P : Type 0} → ChainState P → Type 0
MustRead c = (c.given ≡ false) × (wants c ≡ true) × (length c.first < MOST_WAITING)

-- bytes wait for its client
abbrev pub MustWrite : {P : Type 0} → ChainState P → Type 0
MustWrite c = client_wait c ≢ []

-- no stage of a chain must work, and nothing waits for its client
pub record Rests {P : Type 0} (c : ChainState P) : Type 0 where
  pub none : (j : ℕ) → MustWork c j → ⊥
  pub wait : client_wait c ≡ []

-- a stage has ended only where nothing more comes to it
abbrev pub EndsInOrder : {P : Type 0} → Bool → List (Stage P) → Type 0
EndsInOrder up [] = ⊤
EndsInOrder up (s ∷ ss) = (has_ended s ≡ true → up ≡ true) × EndsInOrder (has_ended s) ss

-- the milliseconds between two events of the stage at a place
abbrev pub pause_at : {P : Type 0} → (P → ℕ) → List (Stage P) → ℕ → ℕ
pause_at pause [] at = 0
pause_at pause (s ∷ ss) zero = pause_of pause s.part
  where
    pause_of : {P : Type 0} → (P → ℕ) → Option (Part P) → ℕ
    pause_of pause None = 0
    pause_of pause (Some (Works part)) = pause part
    pause_of pause (Some (Done paused)) = paused
pause_at pause (s ∷ ss) (suc at) = pause_at pause ss at

-- whether the stage at a place has ended
abbrev pub ended_at : {P : Type 0} → List (Stage P) → ℕ → Bool
ended_at [] at = true
ended_at (s ∷ ss) zero = has_ended s
ended_at (s ∷ ss) (suc at) = ended_at ss at

-- the stage at a place was let work, by one pump
pub record PumpsAt {P : Type 0} (rest : P → List ℕ → List ℕ) (at : ℕ) (c d : ChainState P) : Type 0 where
  pub pumped : Pumped
  pub answers : AnswersAt c.given c.first c.stages at pumped
  pub steps : StepsAt rest c.first c.stages at pumped d.first d.stages
  pub given : d.given ≡ c.given

-- the stage at a place was let work by one pump, or nothing changed
abbrev pub MayPump : {P : Type 0} → (P → List ℕ → List ℕ) → ℕ → ChainState P → ChainState P → Type 0
MayPump rest at c d = (d ≡ c) ⊎ PumpsAt rest at c d

-- at most one stage was let work, by one pump
abbrev pub PumpsOnce : {P : Type 0} → (P → List ℕ → List ℕ) → ChainState P → ChainState P → Type 0
PumpsOnce rest c d = (d ≡ c) ⊎ ((at : ℕ) × PumpsAt rest at c d)

-- n bytes were taken from those that wait for the client, and all else stays as it is
pub record TakesAway {P : Type 0} (rest : P → List ℕ → List ℕ) (n : ℕ) (c d : ChainState P) : Type 0 where
  pub takes : Takes c.first c.stages n d.first d.stages
  pub flow : (z : List ℕ) → flow rest c z ≡ take n (client_wait c) ++ flow rest d z
  pub falls : (z : List ℕ) → left_to_do rest d z + n ≡ left_to_do rest c z
  pub wait : client_wait d ≡ drop n (client_wait c)
  pub ended : last_ended d.given d.stages ≡ last_ended c.given c.stages
  pub given : d.given ≡ c.given
  pub len : length d.stages ≡ length c.stages

-- what a chain holds before its first stage once bytes came: it drops them where it wants no more
abbrev pub given_if : Bool → List ℕ → List ℕ → List ℕ
given_if true first bytes = first ++ bytes
given_if false first bytes = first

-- the bytes came to the chain, in front of what is still to come
pub record IsGiven {P : Type 0} (rest : P → List ℕ → List ℕ) (bytes : List ℕ)
    (c d : ChainState P) : Type 0 where
  pub chain : d ≡ record c { first = given_if (wants c) c.first bytes }
  pub flow : (z : List ℕ) → flow rest d z ≡ flow rest c (bytes ++ z)

-- a chain still gives what it gave: for whatever still comes before the end was given, and for nothing
-- afterwards; and so it does where no end comes
pub record KeepsFlow {P : Type 0} (rest : P → List ℕ → List ℕ) (soon : P → List ℕ → Option (List ℕ))
    (c d : ChainState P) : Type 0 where
  pub flow : (z : List ℕ) → OnTrue c.given (z ≡ []) → flow rest d z ≡ flow rest c z
  pub soon_too : c.given ≡ false → (z : List ℕ) → soon_flow soon d z ≡ soon_flow soon c z
  pub settled : AreSettled soon c.stages → AreSettled soon d.stages

-- a chain gives the composition of these parts over what it gets, with an end and without one
pub record Composes {P : Type 0} (rest : P → List ℕ → List ℕ) (soon : P → List ℕ → Option (List ℕ))
    (ps : List P) (c : ChainState P) : Type 0 where
  pub flow : (z : List ℕ) → flow rest c z ≡ compose rest ps z
  pub soon_too : (z : List ℕ) → soon_flow soon c z ≡ soon_compose soon ps z
  pub settled : AreSettled soon c.stages
