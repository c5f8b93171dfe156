-- A row whose links tell can be driven to its end, since each of its worlds tells its number; and a
-- transaction that was started has ended once nothing is pending.
use Rattle.std.proofs.Common.{◌≡◌, ◌⊎◌, inl, inr, ℕ, ◌≤◌, List, [], ◌∷◌, true, Option, Some, None, refl, sym}
use Rattle.std.proofs.Common.{subst, ◌∙◌}
use Rattle.std.specs.Prelude.{All, IsSome, Result, Ok, length}
use Rattle.std.proofs.lemmas.List.Elements.{All-nil, All-cons, All-head}
use Rattle.ts_group.specs.Answers.{Finite}
use Rattle.ts_group.specs.Either.{either_left}
use Rattle.ts_group.specs.declared.action.Named.{Named}
use Rattle.ts_group.specs.declared.either.Either.TheVariants.{One, Other}
use Rattle.ts_group.specs.declared.either.EitherTag.TheVariants as kind
use Rattle.ts_journal.specs.declared.entry.TheConstants.{GREATEST}
use Rattle.ts_journal.specs.State.{State}
use Rattle.ts_link.specs.declared.link.Link as link
use Rattle.ts_upstream.specs.declared.upstream.Upstream as upstream
use Rattle.ts_transform.specs.declared.transform.Transform as transform
use Rattle.ts_config.specs.declared.setup.TransformLine.{TransformLine}
use Rattle.ts_plugin.specs.declared.plugin.Plugin.{Plugin}
use Rattle.ts_thread.specs.declared.TheConstants.{MOST_TURNS}
use Rattle.ts_thread.specs.declared.did.Unfinished.{Unfinished}
use Rattle.ts_thread.specs.Goings.{AllGoOn, Finishes, IsIdle}
use Rattle.ts_txn.specs.LoweringCourse.{transaction_left}
use Rattle.ts_txn.specs.Making.{end_of_course}
use Rattle.ts_txn.specs.World.{IsTxnOf}
use Rattle.ts_txn.specs.declared.txn.Txn.{Txn}
use Rattle.ts_txn.specs.declared.txn.TxnTag.{TxnTag}
use Rattle.ts_txn.proofs.Handling.{at_rest}
use Rattle.ts_exchange.specs.Rows.{FitInRow, FitsIn, FitsRow, IsSoundRow, RowGroup, RowTag, RowWorld}
use Rattle.ts_exchange.specs.Rows.{is_asked_only, is_first}
use Rattle.ts_mishap_tests.specs.Begun.{AlwaysTells, HasBegun, HasEndedOr}

-- what has not come to an end goes on
ends_or : {X : Type 0} (end : Option X) (spent : Type 0) → (end ≡ None → spent) → IsSome end ⊎ spent
ends_or None spent on = inr (on refl)
ends_or (Some x) spent on = inl refl

module _ {C O Q : Type 0} (client : link.Ghosts C) (origin : link.Ghosts O) (both : upstream.Ghosts O C)
    (stage : transform.Ghosts Q TransformLine) where
  -- what a world of the row has left to do
  abbrev left : RowWorld C O Q → State → Option ℕ
  left = either_left (λ (t : Txn C O Q) (s : State). transaction_left client origin both stage t.core t.course
      s.pending) (λ (p : Plugin) (s : State). Some (length s.pending))

  abbrev Fits : RowTag C O → RowWorld C O Q → Type 0
  Fits = FitsRow client origin both stage

  abbrev Sound : RowWorld C O Q → State → List Named → Type 0
  Sound = IsSoundRow client origin both stage

  -- each world tells it
  world_tells : AlwaysTells client origin both stage → (w : RowWorld C O Q) (s : State) → IsSome (left w s)
  world_tells tells (One t) s = tells t.core t.course s.pending
  world_tells tells (Other p) s = refl

  pub all_tell : AlwaysTells client origin both stage → (gs : List (RowGroup C O Q)) → All (Finite left) gs
  all_tell tells [] = All-nil (Finite left)
  all_tell tells (g ∷ gs) =
      All-cons (Finite left) g gs (world_tells tells g.world g.cx.log.state) (all_tell tells gs)

  -- one that was started, has its tag and is idle has ended, or its event numbers are used up
  has_ended : (tag : TxnTag C O) (h : RowGroup C O Q) (t : Txn C O Q) → tag.started ≡ true
      → FitsIn client origin both stage (kind.One tag) h → IsIdle h → h.world ≡ One t
      → HasEndedOr t h.cx.log.state
  has_ended tag h t started fits idle is =
      let of_tag : IsTxnOf client origin tag t = subst (Fits (kind.One tag)) is fits.0 in
      let sound : Sound (One t) h.cx.log.state h.cx.roles =
      subst (λ w. Sound w h.cx.log.state h.cx.roles) is fits.1 in
      ends_or (end_of_course t.course) (GREATEST ≤ h.cx.log.state.next)
      (λ on. at_rest client origin both stage t h.cx.log.state.next h.cx.roles (of_tag.started started) on
      (subst (λ ps. Sound (One t) (record h.cx.log.state { pending = ps }) h.cx.roles) idle sound))

  abbrev GoOn : List (RowGroup C O Q) → List (RowGroup C O Q) → ℕ → Type 0
  GoOn = AllGoOn Fits Sound is_asked_only is_first left MOST_TURNS (Ok tt)

  abbrev Ends : List (RowGroup C O Q) → List (RowGroup C O Q) → Result (Unit {0}) Unfinished → Type 0
  Ends = Finishes Fits Sound is_asked_only is_first left MOST_TURNS

  -- what the first group of a row has become once nothing is pending: it fits its tag still
  pub record HasFirst (tag : TxnTag C O) (hs : List (RowGroup C O Q)) : Type 0 where
    pub group : RowGroup C O Q
    pub behind : List (RowGroup C O Q)
    pub are : hs ≡ group ∷ behind
    pub fits : FitsIn client origin both stage (kind.One tag) group
    pub idle : IsIdle group

  first_ends : (tag : TxnTag C O) (tags : List (RowTag C O)) (gs hs : List (RowGroup C O Q)) (n : ℕ)
      → FitInRow client origin both stage (kind.One tag ∷ tags) gs → GoOn gs hs n → All IsIdle hs
      → HasFirst tag hs
  first_ends tag tags [] hs n fit goes idle = absurd fit
  first_ends tag tags (g ∷ gs) [] n fit goes idle = absurd goes
  first_ends tag tags (g ∷ gs) (h ∷ hs) n fit goes idle = record {
    group = h;
    behind = hs;
    are = refl;
    fits = goes.0.fits (kind.One tag) fit.0;
    idle = All-head IsIdle h hs idle;
  }

  pub row_ends : (gs hs : List (RowGroup C O Q)) (result : Result (Unit {0}) Unfinished)
      (begun : HasBegun client origin both stage gs) → result ≡ Ok tt → Ends gs hs result
      → HasFirst begun.tag hs
  row_ends gs hs result begun ok ends =
      let here : Ends gs hs (Ok tt) = subst (λ r. Ends gs hs r) ok ends in
      first_ends begun.tag begun.tags_are.behind gs hs here.turns
      (subst (λ ts. FitInRow client origin both stage ts gs) begun.tags_are.tags_are begun.fit) here.goes
      here.idle

  -- it is the one that was taken from the front
  same_first : (g h : RowGroup C O Q) (gs hs : List (RowGroup C O Q)) → g ∷ gs ≡ h ∷ hs → g ≡ h
  same_first g h gs hs same = cc

  pub first_fits : (tag : TxnTag C O) (hs rest : List (RowGroup C O Q)) (h : RowGroup C O Q) → HasFirst tag hs
      → hs ≡ h ∷ rest → FitsIn client origin both stage (kind.One tag) h × IsIdle h
  first_fits tag hs rest h first is =
      let same : first.group ≡ h = same_first first.group h first.behind rest (sym first.are ∙ is) in
      (subst (FitsIn client origin both stage (kind.One tag)) same first.fits, subst IsIdle same first.idle)

  pub first_ended : (tag : TxnTag C O) (hs rest : List (RowGroup C O Q)) (h : RowGroup C O Q) (t : Txn C O Q)
      → tag.started ≡ true → HasFirst tag hs → hs ≡ h ∷ rest → h.world ≡ One t
      → HasEndedOr t h.cx.log.state
  first_ended tag hs rest h t started first is world =
      let (fits, idle) = first_fits tag hs rest h first is in has_ended tag h t started fits idle world
