-- What a transaction that passes a body on has left to do: what is left to read passes a chain, which pays
-- for what its stages set; and what is framed is written.
use Rattle.std.specs.Prelude.{◌≡◌, ◌≤◌, ◌⊎◌, ℕ, ◌+◌, ◌*◌, List, [], length, Bool, ◌||◌, Option, Some, is_some}
use Rattle.std.specs.Prelude.{if◌then◌else◌}
use Rattle.ts_config.specs.declared.setup.Setup.{Setup}
use Rattle.ts_group.specs.Answers.{Falls}
use Rattle.ts_group.specs.Context.{Context}
use Rattle.ts_link.specs.Link.{Fewer, NoMore}
use Rattle.ts_transform.specs.Driving.{upstream_calls}
use Rattle.ts_transform.specs.Flow.{ChainState, left_to_do}
use Rattle.ts_transform.specs.Stage.{to_end}
use Rattle.ts_transform.specs.declared.continuation.StageContinuation.{StageContinuation}
use Rattle.ts_transform.specs.declared.driven.DrivenChain.{DrivenChain}
use Rattle.ts_relay.specs.BodyLinks.{HoldsLittle}
use Rattle.ts_relay.specs.Duties.{set_leaving, IsBodyCovered, WhileGoes}
use Rattle.ts_phases.specs.Holding.{IfTold}
use Rattle.ts_passing.specs.Lines.{IsOfSome}
use Rattle.ts_phases.specs.Lowering.{agains_left, chain_room, end_room, enter_left, if_told, number_left}
use Rattle.ts_phases.specs.Lowering.{pump_weight, to_hear}
use Rattle.ts_phases.specs.View.{View}
use Rattle.ts_relay.specs.declared.last_writes.BodyStep.{BodyStep}
use Rattle.ts_relay.specs.declared.last_writes.BodyStep.TheVariants as S
use Rattle.ts_relay.specs.declared.relay.Relay.{Relay}

-- a chain of the configuration's
abbrev pub IsOfLines : {P : Type 0} → Setup → (P → List ℕ → List ℕ) → ChainState P → Type 0
IsOfLines setup rest c = IsOfSome setup.transforms.items rest c

-- no more of the body comes to its chain: the end was given, or the body is cut or bad
abbrev pub has_come : {P : Type 0} → Relay P → Bool
has_come r = r.driven.chain.given || is_some r.short

module _ {P : Type 0} (setup : Setup) (rest : P → List ℕ → List ℕ) (calls : ℕ) where
  -- what the chain has left to do, if it gets nothing more and its continuations may make so many calls
  -- upstream
  abbrev pub chain_work : ChainState P → ℕ
  chain_work c = pump_weight * (left_to_do rest c [] + calls)

  -- with what is left to read and to write, and the moment from which no more of the body comes, if it is
  -- still to come
  abbrev pub body_work : ℕ → View → ChainState P → Bool → ℕ
  body_work again v c come = end_room + (again + length v.client.outbox) + to_hear setup v.origin
      + chain_work c + to_end come

  -- what is left while a body is passed on, if the links tell how many Again answers are left
  abbrev pub body_left : View → ChainState P → Bool → Option ℕ
  body_left v c come = if_told (agains_left v) (Some 0) (λ again upload. body_work again v c come)

-- and once all that the client gets was queued
abbrev pub finish_left : View → Option ℕ
finish_left v = if_told (agains_left v) (Some 0) (λ again upload. 2 + (again + length v.client.outbox))

-- at the close, and at the end
abbrev pub close_left : View → Option ℕ
close_left v = if_told (agains_left v) (Some 0) (λ again upload. 1)

abbrev pub ended_left : View → Option ℕ
ended_left v = if_told (agains_left v) (Some 0) (λ again upload. 0)

-- how many calls its continuations may make upstream: none, once it runs no more, since no event can be set
-- then
abbrev pub calls_left : {P : Type 0} → DrivenChain P → ℕ
calls_left d = if d.running then upstream_calls d.table.items else 0

-- and before its stages have continuations: each of them will have one, which may make two
abbrev pub calls_before : {P : Type 0} → ChainState P → ℕ
calls_before c = 2 * length c.stages

-- what is left falls by so much where a body begins: so many steps pay for the events that are set then, of
-- each stage and of both ends
abbrev pub begin_room : ℕ
begin_room = 4

module _ {P : Type 0} (setup : Setup) (rest : P → List ℕ → List ℕ) where
  abbrev pub relay_left : View → Relay P → Option ℕ
  relay_left v r = body_left setup rest (calls_left r.driven) v r.driven.chain (has_come r)

  -- before its stages have continuations
  abbrev pub unbegun_left : View → Relay P → Option ℕ
  unbegun_left v r = body_left setup rest (calls_before r.driven.chain) v r.driven.chain (has_come r)

  -- what is left where a step leads
  abbrev pub left_after : BodyStep → View → Relay P → Option ℕ
  left_after S.Goes v r = relay_left v r
  left_after S.Waits v r = relay_left v r
  left_after (S.Finishes end) v r = finish_left v
  left_after (S.Closes end) v r = close_left v
  left_after S.Lacks v r = ended_left v

  -- of the chain's stages each still changes no more
  abbrev pub StaysOfLines : Relay P → Relay P → Type 0
  StaysOfLines r s = IsOfLines setup rest r.driven.chain → IsOfLines setup rest s.driven.chain

-- A chain of fresh transforms: what it has left to do, with the calls that its continuations may make, has
-- room in what was left before.
pub record HasChainRoom {P : Type 0} (setup : Setup) (rest : P → List ℕ → List ℕ)
    (c : ChainState P) : Type 0 where
  pub lines : IsOfLines setup rest c
  pub room : left_to_do rest c [] + calls_before c ≤ chain_room setup

-- The head of a response was queued whose body is passed on: where both links tell, little of the body is
-- held, and what is left pays for its beginning.
pub record LowersEntering {P : Type 0} (ctells otells : Bool) (setup : Setup) (rest : P → List ℕ → List ℕ)
    (v w : View) (r : Relay P) : Type 0 where
  pub lines : IsOfLines setup rest r.driven.chain
  pub little : IfTold ctells otells (HoldsLittle w r.driven.chain)
  pub falls : IfTold ctells otells
      (Falls (enter_left setup v) begin_room (unbegun_left setup rest w r))

-- Its continuations were made: the front of the chain is as it was, and what is left did not rise.
pub record BeginsLower {P : Type 0} (setup : Setup) (rest : P → List ℕ → List ℕ) (step : BodyStep) (v : View)
    (r s : Relay P) : Type 0 where
  pub lines : WhileGoes step (StaysOfLines setup rest r s)
  pub first : WhileGoes step (s.driven.chain.first ≡ r.driven.chain.first)
  pub falls : NoMore (unbegun_left setup rest v r) (left_after setup rest step v s)

-- an end had nothing to do, and nothing changed
pub record HasNothingDue {P : Type 0} (must : Type 0) (step : BodyStep) (v w : View) (r s : Relay P)
    (a b : Context) : Type 0 where
  pub free : must → ⊥
  pub goes : step ≡ S.Goes
  pub view : w ≡ v
  pub relay : s ≡ r
  pub quiet : b ≡ a

-- The step of an end of a body lowers what is left, where both links tell, or the end had nothing to do.
-- Whether the reader is roused stays.
pub record LowersBody {P : Type 0} (ctells otells : Bool) (must : Type 0) (setup : Setup)
    (rest : P → List ℕ → List ℕ) (step : BodyStep) (v w : View) (r s : Relay P)
    (a b : Context) : Type 0 where
  pub reader : s.reader ≡ r.reader
  pub lines : WhileGoes step (StaysOfLines setup rest r s)
  pub falls : IfTold ctells otells (IsOfLines setup rest r.driven.chain
      → Fewer (relay_left setup rest v r) (left_after setup rest step w s)
      ⊎ HasNothingDue must step v w r s a b)

-- what is left where one of the last writes leads
abbrev pub rest_after : BodyStep → View → Option ℕ
rest_after S.Goes v = finish_left v
rest_after S.Waits v = finish_left v
rest_after (S.Finishes end) v = finish_left v
rest_after (S.Closes end) v = close_left v
rest_after S.Lacks v = ended_left v

-- An event that was handled while a body is passed on raised the number of its transaction by none of the
-- events that it set, where both links tell; and where the body is left, it pays for the event that is set
-- then.
pub record PaysBody {P : Type 0} (ctells otells : Bool) (setup : Setup) (rest : P → List ℕ → List ℕ)
    (step : BodyStep) (v w : View) (main : Option StageContinuation) (r s : Relay P)
    (a b : Context) : Type 0 where
  pub lines : WhileGoes step (StaysOfLines setup rest r s)
  pub pays : IfTold ctells otells (IsOfLines setup rest r.driven.chain
      → IsBodyCovered v main r a.log.state.next
      → Falls (number_left a.log.state.pending (relay_left setup rest v r)) (set_leaving step)
      (number_left b.log.state.pending (left_after setup rest step w s)))
