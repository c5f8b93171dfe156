-- The plugin that a table has at a place of a hook is that of the first line that is left there.
use Rattle.std.proofs.Common.{◌≡◌, ◌∙◌, ◌+◌, ◌≤◌, ℕ, zero, suc, List, [], ◌∷◌, Some, None, ap, refl, sym}
use Rattle.std.proofs.Common.{arith, Bool, true, false, cond, drop, slice_get, length, length-drop}
use Rattle.std.specs.Prelude.{map}
use Rattle.std.specs.List.{filter}
use Rattle.ts_config.specs.declared.fields.PluginLine.{PluginLine}
use Rattle.ts_hooks.specs.declared.hook.Hook.{Hook}
use Rattle.ts_hooks.specs.Hooks.{is_same, plugins_at, hook_list}
use Rattle.ts_plugin.specs.Replies.{hook_of}
use Rattle.ts_plugin.specs.Lines.{AreOrdered, table_of, lines_at, lines_left, IsNext}
use Rattle.ts_plugin.proofs.InOrder.{all_groups, hooks_from}

-- the groups of the plugins at a hook, where the first line's plugin has this group
abbrev groups_at : Hook → ℕ → List PluginLine → List ℕ
groups_at hook first lines = plugins_at hook (hooks_from first lines)

-- the line of a group is the first of these lines from a place on
record IsFirst (hook : Hook) (first : ℕ) (lines left : List PluginLine) (place group : ℕ) : Type 0 where
  pub number : ℕ
  pub line : PluginLine
  pub group_is : group ≡ first + number
  pub there : slice_get lines number ≡ Some line
  pub stands : is_same (hook_of line) hook ≡ true
  pub left_is : drop place left ≡ line ∷ drop (place + 1) left

-- what is so behind a line is so with the line
behind : (hook : Hook) (first : ℕ) (l : PluginLine) (lines left : List PluginLine) (place group : ℕ)
    → IsFirst hook (first + 1) lines left place group → IsFirst hook first (l ∷ lines) left place group
behind hook first l lines left place group is =
    record {
      number = suc is.number;
      line = is.line;
      group_is = omega (arith, is.group_is);
      there = is.there;
      stands = is.stands;
      left_is = is.left_is;
    }

-- and is so with one line more of the hook, one place further
one_further : (hook : Hook) (first : ℕ) (l : PluginLine) (lines left : List PluginLine) (place group : ℕ)
    → IsFirst hook first lines left place group → IsFirst hook first lines (l ∷ left) (suc place) group
one_further hook first l lines left place group is =
    let same : suc (place + 1) ≡ suc place + 1 = omega arith in
    record {
      number = is.number;
      line = is.line;
      group_is = is.group_is;
      there = is.there;
      stands = is.stands;
      left_is = is.left_is ∙ ap (λ n. is.line ∷ drop n (l ∷ left)) same;
    }

-- the line itself is the first
here : (hook : Hook) (first : ℕ) (l : PluginLine) (lines left : List PluginLine) (group : ℕ)
    → is_same (hook_of l) hook ≡ true → first ≡ group → IsFirst hook first (l ∷ lines) (l ∷ left) zero group
here hook first l lines left group stands is =
    let one : 1 ≡ zero + 1 = omega arith in
    record {
      number = zero;
      line = l;
      group_is = omega (arith, is);
      there = refl;
      stands = stands;
      left_is = ap (λ n. l ∷ drop n (l ∷ left)) one;
    }

-- what is found behind a line is found with it, whether it is one of the hook or not
found_by : (hook : Hook) (first : ℕ) (l : PluginLine) (lines : List PluginLine) (place group : ℕ) (b : Bool)
    → is_same (hook_of l) hook ≡ b
    → ((k : ℕ) → slice_get (groups_at hook (first + 1) lines) k ≡ Some group
    → IsFirst hook (first + 1) lines (lines_at hook lines) k group)
    → slice_get (cond b (first ∷ groups_at hook (first + 1) lines) (groups_at hook (first + 1) lines)) place
    ≡ Some group
    → IsFirst hook first (l ∷ lines) (cond b (l ∷ lines_at hook lines) (lines_at hook lines)) place group
found_by hook first l lines zero group true stands found is =
    let same : first ≡ group = cc in
    here hook first l lines (lines_at hook lines) group stands same
found_by hook first l lines (suc place) group true stands found is =
    one_further hook first l (l ∷ lines) (lines_at hook lines) place group
    (behind hook first l lines (lines_at hook lines) place group (found place is))
found_by hook first l lines place group false other found is =
    behind hook first l lines (lines_at hook lines) place group (found place is)

-- the groups at a hook with one line more
groups_more : (hook : Hook) (first : ℕ) (l : PluginLine) (lines : List PluginLine) (b : Bool)
    → map (λ (p : Hook × ℕ). p.1) (cond b ((hook_of l, first) ∷ filter (λ (p : Hook × ℕ). is_same p.0 hook)
    (hooks_from (first + 1) lines))
    (filter (λ (p : Hook × ℕ). is_same p.0 hook) (hooks_from (first + 1) lines)))
    ≡ cond b (first ∷ groups_at hook (first + 1) lines) (groups_at hook (first + 1) lines)
groups_more hook first l lines true = refl
groups_more hook first l lines false = refl

found : (hook : Hook) (first : ℕ) (lines : List PluginLine) (place group : ℕ)
    → slice_get (groups_at hook first lines) place ≡ Some group
    → IsFirst hook first lines (lines_at hook lines) place group
found hook first [] place group is = absurd (cc)
found hook first (l ∷ lines) place group is =
    found_by hook first l lines place group (is_same (hook_of l) hook) refl
    (λ k at. found hook (first + 1) lines k group at)
    (ap (λ groups. slice_get groups place) (sym (groups_more hook first l lines (is_same (hook_of l) hook)))
    ∙ is)

-- where no plugin is found behind a line, and none with it, nothing is left
none_by : (hook : Hook) (first : ℕ) (l : PluginLine) (lines : List PluginLine) (place : ℕ) (b : Bool)
    → ((k : ℕ) → slice_get (groups_at hook (first + 1) lines) k ≡ None → drop k (lines_at hook lines) ≡ [])
    → slice_get (cond b (first ∷ groups_at hook (first + 1) lines) (groups_at hook (first + 1) lines)) place
    ≡ None
    → drop place (cond b (l ∷ lines_at hook lines) (lines_at hook lines)) ≡ []
none_by hook first l lines zero true none is = absurd (cc)
none_by hook first l lines (suc place) true none is = none place is
none_by hook first l lines place false none is = none place is

none : (hook : Hook) (first : ℕ) (lines : List PluginLine) (place : ℕ)
    → slice_get (groups_at hook first lines) place ≡ None → drop place (lines_at hook lines) ≡ []
none hook first [] zero is = refl
none hook first [] (suc place) is = refl
none hook first (l ∷ lines) place is =
    none_by hook first l lines place (is_same (hook_of l) hook)
    (λ k at. none hook (first + 1) lines k at)
    (ap (λ groups. slice_get groups place) (sym (groups_more hook first l lines (is_same (hook_of l) hook)))
    ∙ is)

-- The plugin that the table has at a place is asked next there.
pub left_first : (hook : Hook) (first : ℕ) (lines : List PluginLine) (place group : ℕ) → AreOrdered lines
    → slice_get (hook_list (table_of first lines) hook) place ≡ Some group
    → IsNext hook first lines place group
left_first hook first lines place group ordered is =
    let at = found hook first lines place group
    (ap (λ groups. slice_get groups place) (sym (all_groups hook first lines ordered)) ∙ is) in
    record {
      listed = is;
      number = at.number;
      line = at.line;
      group_is = at.group_is;
      there = at.there;
      stands = at.stands;
      left = at.left_is;
    }

-- Where the table has none at a place, nothing is left there.
pub left_none : (hook : Hook) (first : ℕ) (lines : List PluginLine) (place : ℕ) → AreOrdered lines
    → slice_get (hook_list (table_of first lines) hook) place ≡ None → lines_left hook place lines ≡ []
left_none hook first lines place ordered is =
    none hook first lines place
    (ap (λ groups. slice_get groups place) (sym (all_groups hook first lines ordered)) ∙ is)

-- the place of a plugin that is asked is one of the hook's
pub next_within : (hook : Hook) (first : ℕ) (lines : List PluginLine) (place group : ℕ)
    → IsNext hook first lines place group → place + 1 ≤ length (lines_at hook lines)
next_within hook first lines place group next =
    omega (arith, ap length next.left, length-drop place (lines_at hook lines))
