-- What a transaction of a session is asked and does in its place, and what holds of who lives in a place of
-- sessions from turn to turn.
use Rattle.std.specs.Prelude.{◌≡◌, ℕ, List, Option, None, Bool, false, refl}
use Rattle.std.specs.Bool.{OnTrue}
use Rattle.ts_config.specs.declared.setup.TransformLine.{TransformLine}
use Rattle.ts_group.specs.Context.{own_key}
use Rattle.ts_group.specs.Either.{EitherSound, either_left, tag_of}
use Rattle.ts_group.specs.declared.action.Named.{Named}
use Rattle.ts_group.specs.declared.either.Either.TheVariants.{One, Other}
use Rattle.ts_group.specs.declared.either.EitherTag.TheVariants as tag
use Rattle.ts_journal.specs.Machine.{after}
use Rattle.ts_journal.specs.State.{IsLive, State}
use Rattle.ts_journal.specs.declared.entry.Entry.TheVariants.{Gave, Took}
use Rattle.ts_layers.specs.Links.{client_link, origin_link, origin_uploads}
use Rattle.ts_layers.specs.Sessions.{span_link, spanned_link, spanned_origin}
use Rattle.ts_link.specs.Link.{Look}
use Rattle.ts_link.specs.declared.link.Link as link
use Rattle.ts_plugin.specs.declared.question.HookQuestion.{HookQuestion}
use Rattle.ts_transform.specs.declared.transform.Transform as transform
use Rattle.ts_txn.specs.Asking.{AwaitsTxn}
use Rattle.ts_txn.specs.Driven.{TakesEvent}
use Rattle.ts_txn.specs.LoweringCourse.{transaction_left}
use Rattle.ts_waiting.specs.Waiting.{IsSoundWait, waits_on}
use Rattle.ts_waiting.specs.declared.waiting.Waiting.{Waiting}
use Rattle.ts_serve.specs.SessionTerms.{ExchangeAt, ExchangeSound, InSession, InSessionTag}

module _ {C O P : Type 0} (client : link.Ghosts C) (origin : link.Ghosts O)
    (stage : transform.Ghosts P TransformLine) where
  -- what holds while it waits for the reply of a group to a question
  abbrev pub AwaitsExchange : ExchangeAt C O P → State → List Named → ℕ → ℕ → HookQuestion → Type 0
  AwaitsExchange t s roles role group question =
      AwaitsTxn (client_link (span_link client)) (origin_link (spanned_link origin))
      (origin_uploads (span_link client) (spanned_link origin) spanned_origin stage) stage t.value s.pending
      s.next roles group question

  -- what it has left to do
  abbrev pub exchange_left : ExchangeAt C O P → State → Option ℕ
  exchange_left t s =
      transaction_left (client_link (span_link client)) (origin_link (spanned_link origin))
      (origin_uploads (span_link client) (spanned_link origin) spanned_origin stage) stage t.value.core
      t.value.course s.pending

  -- what it did that was called
  abbrev pub ExchangeTakes : ExchangeAt C O P → ExchangeAt C O P → Type 0
  ExchangeTakes old new =
      TakesEvent (client_link (span_link client)) (origin_link (spanned_link origin))
      (origin_uploads (span_link client) (spanned_link origin) spanned_origin stage) old.value.core
      new.value.core
      old.value.course new.value.course

-- what holds of a client that waits holds in each state in which the same is pending and live
pub keeps_wait : {C L : Type 0} (client : link.Ghosts C) (w : Waiting C L) (s t : State)
    → t.pending ≡ s.pending → t.next ≡ s.next → t.live ≡ s.live → IsSoundWait client w s
    → IsSoundWait client w t
keeps_wait client w s t pending next live h =
    record { waits = waits_on w.state s t pending next live h.waits; holds = h.holds }

-- ---- the laws of who lives in a place of sessions

-- what a link is, of its parts
abbrev pub link_of : {C : Type 0} → Bool → (C → Look) → (C → C → Type 0) → (C → C → Type 0) → link.Ghosts C
link_of tells look goes still = record { tells = tells; look = look; goes = goes; still = still }

-- what a transform is, of its parts
abbrev pub stage_of : {P : Type 0} → (P → List ℕ → List ℕ) → (P → List ℕ → Option (List ℕ))
    → (TransformLine → List ℕ → Option (List ℕ)) → (TransformLine → List ℕ → List ℕ) → (P → ℕ)
    → (TransformLine → ℕ) → transform.Ghosts P TransformLine
stage_of rest soon line_soon whole pause line_pause = record {
  rest = rest;
  soon = soon;
  line_soon = line_soon;
  whole = whole;
  pause = pause;
  line_pause = line_pause;
}

module _ {C O P : Type 0} (client : link.Ghosts C) (origin : link.Ghosts O)
    (stage : transform.Ghosts P TransformLine) where
  pub session_sound_taken : (h : InSession C O P) (s : State) (turn seat : ℕ) (roles : List Named)
      → EitherSound (ExchangeSound client origin stage) (λ w s roles. IsSoundWait client w s) h s roles
      → EitherSound (ExchangeSound client origin stage) (λ w s roles. IsSoundWait client w s) h
      (after s (Took turn seat)) roles
  session_sound_taken (One t) s turn seat roles holds = holds
  session_sound_taken (Other w) s turn seat roles holds =
      keeps_wait client w s (after s (Took turn seat)) refl refl refl holds

  pub session_sound_given : (h : InSession C O P) (s : State) (turn : ℕ) (roles : List Named)
      → EitherSound (ExchangeSound client origin stage) (λ w s roles. IsSoundWait client w s) h s roles
      → EitherSound (ExchangeSound client origin stage) (λ w s roles. IsSoundWait client w s) h
      (after s (Gave turn)) roles
  session_sound_given (One t) s turn roles holds = holds
  session_sound_given (Other w) s turn roles holds =
      keeps_wait client w s (after s (Gave turn)) refl refl refl holds

  pub session_left_taken : (h : InSession C O P) (s : State) (turn seat : ℕ)
      → either_left (exchange_left client origin stage) (λ w s. None) h (after s (Took turn seat))
      ≡ either_left (exchange_left client origin stage) (λ w s. None) h s
  session_left_taken (One t) s turn seat = refl
  session_left_taken (Other w) s turn seat = refl

  pub session_left_given : (h : InSession C O P) (s : State) (turn : ℕ)
      → either_left (exchange_left client origin stage) (λ w s. None) h (after s (Gave turn))
      ≡ either_left (exchange_left client origin stage) (λ w s. None) h s
  session_left_given (One t) s turn = refl
  session_left_given (Other w) s turn = refl

-- neither rests on its group alone
pub session_rests : {C O P : Type 0} (t : InSessionTag C O P) (s : State)
    → OnTrue (tag_of (λ t. false) (λ t. false) t) (IsLive s.live own_key)
session_rests (tag.One t) s = tt
session_rests (tag.Other t) s = tt
