-- What a front holds of the bytes that its link gave.
use Rattle.std.specs.Prelude.{◌≡◌, ℕ, ◌-◌, ◌<◌, Bool, true, false, List, [], ◌++◌, length, take, drop}
use Rattle.httparse.specs.Grammar as grammar
use Rattle.httparse.specs.Grammar.{HasNoRequest, print_request}
use Rattle.ts_wire.specs.Limits.{head_limit}
use Rattle.ts_request.specs.Upload.{HasUpload, NeverHasUpload, without_body}
use Rattle.ts_request.specs.declared.stage.Stage.{Stage}
use Rattle.ts_request.specs.declared.stage.Stage.TheVariants as S

-- What is held. Until its request's head is known, and where there is no upload, `front` is all that came and
-- is held; of an upload it is the head as it is shown.
pub record Text : Type 0 where
  pub stage : Stage
  pub front : List ℕ
  pub shown : ℕ  -- how many bytes of `front` were given
  pub used : ℕ  -- of an upload: how long its head was
  pub behind : List ℕ  -- of an upload: what came behind the head and was not handed over

-- the head is still read
abbrev pub is_heading : Stage → Bool
is_heading S.Heading = true
is_heading _ = false

-- nothing came
abbrev pub no_text : Text
no_text = record { stage = S.Heading; front = []; shown = 0; used = 0; behind = [] }

-- what of `front` was not given
abbrev pub waiting : Text → List ℕ
waiting t = drop t.shown t.front

-- more came
abbrev pub with_more : Text → List ℕ → Text
with_more t more = record t { front = t.front ++ more }

-- what was held before the last so many bytes came
abbrev pub before_last : ℕ → List ℕ → List ℕ
before_last fresh bytes = take (length bytes - fresh) bytes

-- No head ends within the last so many bytes, and more of one can be held: where no whole head stood before
-- them, none stands now.
pub record CannotEnd (fresh : ℕ) (bytes : List ℕ) : Type 0 where
  pub short : length bytes < head_limit
  pub none : HasNoRequest (before_last fresh bytes) → HasNoRequest bytes

-- what the first bytes of a client say of what is shown of it: no whole head is among them, and with more of
-- them it may be known; there is no upload, whatever follows; or there is one, whose head is stripped and
-- behind which the rest stands
abbrev pub Decides : Text → Text → Stage → Type 0
Decides old new S.Heading = (new ≡ old) × HasNoRequest old.front × (length old.front < head_limit)
Decides old new S.Passing = (new ≡ record old { stage = S.Passing }) × NeverHasUpload old.front
Decides old new (S.Uploading framing) =
    (h : grammar.RequestHead) × HasUpload old.front h framing new.behind
    × (new ≡ record {
      stage = S.Uploading framing;
      front = print_request (without_body h);
      shown = 0;
      used = length (print_request h);
      behind = new.behind;
    })
