-- The plugins of a hook, asked in turn, do what the lines say together.
use Rattle.std.proofs.Common.{◌≡◌, ◌∙◌, ◌+◌, ℕ, List, [], ◌∷◌, Bool, true, false, ap, refl, sym, cond}
use Rattle.std.specs.Prelude.{◌||◌}
use Rattle.ts_wire.specs.declared.fields.Field.{Field}
use Rattle.ts_config.specs.declared.fields.Side.{Side}
use Rattle.ts_config.specs.declared.fields.Side.TheVariants as S
use Rattle.ts_config.specs.declared.fields.PluginLine.{PluginLine}
use Rattle.ts_config.specs.declared.fields.PluginLine.TheVariants.{Deny, Header, SessionHeader}
use Rattle.ts_hooks.specs.declared.hook.Hook.TheVariants as h
use Rattle.ts_hooks.specs.declared.hook.HookAnswer.TheVariants.{Continue, Error}
use Rattle.ts_block.specs.Rules.{is_denied, is_site, denies, ruled, after_line, apply_rule}
use Rattle.ts_plugin.specs.Replies.{hook_of_side, answer_of, fields_of}
use Rattle.ts_plugin.specs.Lines.{lines_at, lines_left, IsNext}
use Rattle.ts_plugin.specs.Asked.{question_at, is_error, some_refuses, fields_in_turn, RefusesDenied}
use Rattle.ts_plugin.specs.Asked.{AppliesRules}

-- an answer by a test is an error where the test holds
error_if : (b : Bool) → is_error (cond b Error Continue) ≡ b
error_if true = refl
error_if false = refl

-- At a lookup the answer is an error exactly where the line denies the host.
pub answer_denies : (line : PluginLine) (host : List ℕ) (fields : List Field)
    → is_error (answer_of line (question_at h.OsDns host fields)) ≡ denies host line
answer_denies (Deny sites) host fields = error_if (is_site host sites)
answer_denies (Header side rule) host fields = refl
answer_denies (SessionHeader side rule) host fields = refl

-- At the hook of a side the fields of the reply are those after the line.
pub fields_after : (side : Side) (line : PluginLine) (host : List ℕ) (fields : List Field)
    → fields_of line (question_at (hook_of_side side) host fields) ≡ after_line side fields line
fields_after S.Request (Deny sites) host fields = refl
fields_after S.Request (Header S.Request rule) host fields = refl
fields_after S.Request (Header S.Response rule) host fields = refl
fields_after S.Request (SessionHeader S.Request rule) host fields = refl
fields_after S.Request (SessionHeader S.Response rule) host fields = refl
fields_after S.Response (Deny sites) host fields = refl
fields_after S.Response (Header S.Request rule) host fields = refl
fields_after S.Response (Header S.Response rule) host fields = refl
fields_after S.Response (SessionHeader S.Request rule) host fields = refl
fields_after S.Response (SessionHeader S.Response rule) host fields = refl

-- a line of another hook denies no host
pub denied_at : (lines : List PluginLine) (host : List ℕ)
    → is_denied (lines_at h.OsDns lines) host ≡ is_denied lines host
denied_at [] host = refl
denied_at (Deny sites ∷ lines) host = ap (λ b. is_site host sites || b) (denied_at lines host)
denied_at (Header S.Request rule ∷ lines) host = denied_at lines host
denied_at (SessionHeader S.Request rule ∷ lines) host = denied_at lines host
denied_at (Header S.Response rule ∷ lines) host = denied_at lines host
denied_at (SessionHeader S.Response rule ∷ lines) host = denied_at lines host

-- a line of another hook leaves the fields of a side as they are
pub ruled_at : (side : Side) (lines : List PluginLine) (fields : List Field)
    → ruled side (lines_at (hook_of_side side) lines) fields ≡ ruled side lines fields
ruled_at S.Request [] fields = refl
ruled_at S.Request (Deny sites ∷ lines) fields = ruled_at S.Request lines fields
ruled_at S.Request (Header S.Request rule ∷ lines) fields = ruled_at S.Request lines (apply_rule rule fields)
ruled_at S.Request (Header S.Response rule ∷ lines) fields = ruled_at S.Request lines fields
ruled_at S.Request (SessionHeader S.Request rule ∷ lines) fields =
    ruled_at S.Request lines (apply_rule rule fields)
ruled_at S.Request (SessionHeader S.Response rule ∷ lines) fields = ruled_at S.Request lines fields
ruled_at S.Response [] fields = refl
ruled_at S.Response (Deny sites ∷ lines) fields = ruled_at S.Response lines fields
ruled_at S.Response (Header S.Request rule ∷ lines) fields = ruled_at S.Response lines fields
ruled_at S.Response (Header S.Response rule ∷ lines) fields =
    ruled_at S.Response lines (apply_rule rule fields)
ruled_at S.Response (SessionHeader S.Request rule ∷ lines) fields = ruled_at S.Response lines fields
ruled_at S.Response (SessionHeader S.Response rule ∷ lines) fields =
    ruled_at S.Response lines (apply_rule rule fields)

-- some plugin of some lines refuses where some of the lines denies
refuses : (lines : List PluginLine) (host : List ℕ) (fields : List Field)
    → some_refuses (question_at h.OsDns host fields) lines ≡ is_denied lines host
refuses [] host fields = refl
refuses (line ∷ lines) host fields =
    ap (λ b. b || some_refuses (question_at h.OsDns host fields) lines) (answer_denies line host fields)
    ∙ ap (λ b. denies host line || b) (refuses lines host fields)

-- the plugins of some lines make of the fields what the lines make of them
in_turn : (side : Side) (lines : List PluginLine) (host : List ℕ) (fields : List Field)
    → fields_in_turn (question_at (hook_of_side side) host fields) lines ≡ ruled side lines fields
in_turn side [] host fields = refl
in_turn side (line ∷ lines) host fields =
    in_turn side lines host (fields_of line (question_at (hook_of_side side) host fields))
    ∙ ap (λ after. ruled side lines after) (fields_after side line host fields)

-- ---- plugin by plugin: what is still to come decides

-- at first all lines are to come
pub denied_begins : (lines : List PluginLine) (host : List ℕ)
    → is_denied lines host ≡ is_denied (lines_left h.OsDns 0 lines) host
denied_begins lines host = sym (denied_at lines host)

pub ruled_begins : (side : Side) (lines : List PluginLine) (fields : List Field)
    → ruled side lines fields ≡ ruled side (lines_left (hook_of_side side) 0 lines) fields
ruled_begins side lines fields = sym (ruled_at side lines fields)

module _ (first : ℕ) (lines : List PluginLine) (place group : ℕ) where
  -- a plugin that lets the transaction go on leaves it to those behind it
  pub denied_on : (next : IsNext h.OsDns first lines place group) (host : List ℕ) (fields : List Field)
      → Continue ≡ answer_of next.line (question_at h.OsDns host fields)
      → is_denied (lines_left h.OsDns place lines) host
      ≡ is_denied (lines_left h.OsDns (place + 1) lines) host
  denied_on next host fields answer =
      ap (λ ls. is_denied ls host) next.left
      ∙ ap (λ b. b || is_denied (lines_left h.OsDns (place + 1) lines) host)
      (sym (ap is_error answer ∙ answer_denies next.line host fields))

  -- one that answers with an error denies the host
  pub denied_here : (next : IsNext h.OsDns first lines place group) (host : List ℕ) (fields : List Field)
      → Error ≡ answer_of next.line (question_at h.OsDns host fields)
      → is_denied (lines_left h.OsDns place lines) host ≡ true
  denied_here next host fields answer =
      ap (λ ls. is_denied ls host) next.left
      ∙ ap (λ b. b || is_denied (lines_left h.OsDns (place + 1) lines) host)
      (sym (ap is_error answer ∙ answer_denies next.line host fields))

  -- the fields that a plugin leaves go to those behind it
  pub ruled_on : (side : Side) (next : IsNext (hook_of_side side) first lines place group) (host : List ℕ)
      (fields : List Field)
      → ruled side (lines_left (hook_of_side side) place lines) fields
      ≡ ruled side (lines_left (hook_of_side side) (place + 1) lines)
      (fields_of next.line (question_at (hook_of_side side) host fields))
  ruled_on side next host fields =
      ap (λ ls. ruled side ls fields) next.left
      ∙ ap (λ after. ruled side (lines_left (hook_of_side side) (place + 1) lines) after)
      (sym (fields_after side next.line host fields))

-- where no line is left, none denies, and the fields stay as they are
pub denied_ends : (place : ℕ) (lines : List PluginLine) (host : List ℕ)
    → lines_left h.OsDns place lines ≡ [] → is_denied (lines_left h.OsDns place lines) host ≡ false
denied_ends place lines host none = ap (λ ls. is_denied ls host) none

pub ruled_ends : (side : Side) (place : ℕ) (lines : List PluginLine) (fields : List Field)
    → lines_left (hook_of_side side) place lines ≡ []
    → ruled side (lines_left (hook_of_side side) place lines) fields ≡ fields
ruled_ends side place lines fields none = ap (λ ls. ruled side ls fields) none

-- At the hook of a side each plugin lets the transaction go on.
pub goes_on : (side : Side) (line : PluginLine) (host : List ℕ) (fields : List Field)
    → answer_of line (question_at (hook_of_side side) host fields) ≡ Continue
goes_on S.Request (Deny sites) host fields = refl
goes_on S.Request (Header ruled rule) host fields = refl
goes_on S.Request (SessionHeader ruled rule) host fields = refl
goes_on S.Response (Deny sites) host fields = refl
goes_on S.Response (Header ruled rule) host fields = refl
goes_on S.Response (SessionHeader ruled rule) host fields = refl

pub refuses_denied : RefusesDenied
refuses_denied lines host fields = refuses (lines_at h.OsDns lines) host fields ∙ denied_at lines host

pub applies_rules : AppliesRules
applies_rules side lines host fields =
    in_turn side (lines_at (hook_of_side side) lines) host fields ∙ ruled_at side lines fields
