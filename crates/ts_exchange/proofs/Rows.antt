-- The plugins of lines stand behind the groups that were there, line by line.
use Rattle.std.proofs.Common.{◌≡◌, ◌∙◌, ℕ, List, [], ◌∷◌, ◌++◌, sym, ap, arith, append_assoc, append-nil}
use Rattle.std.proofs.lemmas.List.Elements.{All-nil, All-push}
use Rattle.std.proofs.lemmas.Slice.Zip.{all_zipped_more}
use Rattle.ts_config.specs.declared.fields.PluginLine.{PluginLine}
use Rattle.ts_config.specs.declared.setup.TransformLine.{TransformLine}
use Rattle.ts_group.specs.Context.{IsFresh}
use Rattle.ts_group.specs.declared.either.EitherTag.TheVariants as kind
use Rattle.ts_journal.specs.State.{State}
use Rattle.ts_link.specs.declared.link.Link as link
use Rattle.ts_plugin.specs.declared.plugin.PluginTag.{PluginTag}
use Rattle.ts_upstream.specs.declared.upstream.Upstream as upstream
use Rattle.ts_transform.specs.declared.transform.Transform as transform
use Rattle.ts_thread.specs.Threads.{HasHadTurns}
use Rattle.ts_exchange.specs.Rows.{FitsIn, IsTagOfLine, RowGroup, RowTag, StandBehind}

-- a group that was just made has had no turn
pub no_turns : {C O Q : Type 0} (g : RowGroup C O Q) → IsFresh 0 g.cx → HasHadTurns 0 g
no_turns g fresh = let none : g.cx.log.state.turns ≡ 0 = ap (λ (s : State). s.turns) fresh.state in
    omega (arith, none)

module _ {C O Q : Type 0} (client : link.Ghosts C) (origin : link.Ghosts O) (both : upstream.Ghosts O C)
    (stage : transform.Ghosts Q TransformLine) where
  -- at first nothing stands behind
  pub none_behind : (tags : List (RowTag C O)) (groups : List (RowGroup C O Q))
      → StandBehind client origin both stage [] tags tags groups groups
  none_behind tags groups = record {
    added_tags = [];
    added = [];
    tags_are = sym (append-nil tags);
    groups_are = sym (append-nil groups);
    lines_are = tt;
    fit = tt;
    new = All-nil (HasHadTurns 0);
  }

  -- one line more
  pub one_behind : (lines : List PluginLine) (line : PluginLine) (tags ts us : List (RowTag C O))
      (groups gs hs : List (RowGroup C O Q)) (tag : PluginTag) (group : RowGroup C O Q)
      → StandBehind client origin both stage lines tags ts groups gs
      → us ≡ ts ++ kind.Other tag ∷ [] → hs ≡ gs ++ group ∷ [] → tag.line.value ≡ line
      → FitsIn client origin both stage (kind.Other tag) group → IsFresh 0 group.cx
      → StandBehind client origin both stage (lines ++ line ∷ []) tags us groups hs
  one_behind lines line tags ts us groups gs hs tag group stand more moreover is fits fresh = record {
    added_tags = stand.added_tags ++ kind.Other tag ∷ [];
    added = stand.added ++ group ∷ [];
    tags_are = more ∙ ap (λ l. l ++ kind.Other tag ∷ []) stand.tags_are
        ∙ append_assoc tags stand.added_tags (kind.Other tag ∷ []);
    groups_are = moreover ∙ ap (λ l. l ++ group ∷ []) stand.groups_are
        ∙ append_assoc groups stand.added (group ∷ []);
    lines_are = all_zipped_more IsTagOfLine lines stand.added_tags line (kind.Other tag) stand.lines_are is;
    fit = all_zipped_more (FitsIn client origin both stage) stand.added_tags stand.added (kind.Other tag)
        group stand.fit fits;
    new = All-push (HasHadTurns 0) stand.added group stand.new (no_turns group fresh);
  }
