-- A request's body as it sets out on its way to the origin.
use Rattle.std.specs.Prelude.{◌≡◌, List, [], false, map}
use Rattle.ts_config.specs.declared.setup.TransformLine.{TransformLine}
use Rattle.ts_passing.specs.Inserted.{AreOfLines}
use Rattle.ts_transform.specs.Flow.{Composes, fresh_stage}
use Rattle.ts_transform.specs.declared.transform.Transform as transform
use Rattle.ts_wire.specs.declared.body.BodyState.TheVariants as B
use Rattle.ts_wire.specs.declared.framing.Framing.{Framing}
use Rattle.ts_wire.specs.declared.frames.Mode.{Mode}
use Rattle.ts_wire.specs.Place.{IsFed, state_of}
use Rattle.ts_request.specs.declared.passage.Passage.{Passage}

-- nothing of it was read, and its chain is that of these lines
pub record IsFreshPassage {P : Type 0} (stage : transform.Ghosts P TransformLine) (lines : List TransformLine)
    (framing : Framing) (mode : Mode) (p : Passage P) : Type 0 where
  pub fed : IsFed framing [] [] p.body
  pub waits : state_of p.body.phase ≡ B.Unfinished
  pub parts : List P
  pub of_lines : AreOfLines stage lines parts
  pub first : p.chain.first ≡ []
  pub stages : p.chain.stages ≡ map (fresh_stage stage.soon stage.pause) parts
  pub given : p.chain.given ≡ false
  pub composes : Composes stage.rest stage.soon parts p.chain
  pub kept : p.lost ≡ false
  pub mode_is : p.mode ≡ mode
  pub unended : p.ended ≡ false
