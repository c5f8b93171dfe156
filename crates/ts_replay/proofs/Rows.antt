-- Rows of groups of recorded transactions and hook plugins grow.
use Rattle.std.proofs.Common.{◌≡◌, ℕ, ◌+◌, ◌≤◌, List, [], ◌∷◌, ◌++◌, length, length-append, map, false, true}
use Rattle.std.proofs.Common.{append_assoc, append-nil, Option, None, Some, refl, sym, ap, subst, ◌∙◌, arith}
use Rattle.std.specs.Prelude.{Err, IfOk, Ok, Result}
use Rattle.std.specs.List.{AllZip}
use Rattle.std.proofs.lemmas.Bool.{false≢true}
use Rattle.std.proofs.lemmas.Slice.Zip.{all_zipped_more}
use Rattle.std.proofs.lemmas.List.Elements.{All-append, All-push}
use Rattle.std.proofs.lemmas.Option.{same_Some}
use Rattle.ts_config.specs.declared.fields.PluginLine.{PluginLine}
use Rattle.ts_config.specs.declared.setup.Setup.{Setup}
use Rattle.ts_exchange.specs.Rows.{IsTagOfLine, StandBehind}
use Rattle.ts_group.specs.declared.either.EitherTag.TheVariants as kind
use Rattle.ts_layers.specs.Layers.{AreSureLayers, IsLayeredTag, MayBeLayered}
use Rattle.ts_link.specs.Link.{IsSure, NeverLeaves}
use Rattle.ts_link.specs.MemLink.{LinkState, look_of}
use Rattle.ts_link.specs.declared.piece.Piece.{Piece}
use Rattle.ts_record.specs.Grammar.{TxnPieces}
use Rattle.ts_record.specs.Links.{IsNewSide, recorded_side}
use Rattle.ts_record.specs.declared.recording.TheConstants.{MOST_TXNS}
use Rattle.ts_replay.specs.Members.{HookPlugin, Member, Transaction, numbered}
use Rattle.ts_replay.specs.Recorded.{AllTakeSome, FitsIn, HasPlainLines, IsNewTagOf, RecordedTag, RowGroup}
use Rattle.ts_replay.specs.Recorded.{RowTag, TakesSome, layered_client, layered_link, layered_origin}
use Rattle.ts_replay.specs.Recorded.{recorded_ends, recorded_origin, recorded_promise}
use Rattle.ts_replay.specs.Rows.{AreGroupsOf, IsRowOf, IsTxnRowOf}
use Rattle.ts_stock.specs.StockTransform.{stock_transform}
use Rattle.ts_thread.specs.Threads.{HasHadTurns}
use Rattle.ts_txn.specs.Making.{IsTxnSetup}
use Rattle.ts_upstream.specs.InMemory.{memory_link}

-- a setup that can be replayed is taken by a transaction whose plugins have the groups behind all others
pub taken_setup : (setup : Setup) (at : ℕ) → HasPlainLines setup → at ≤ MOST_TXNS → IsTxnSetup setup at
taken_setup setup at lines low =
    let few = lines.few in
    let plugins = few.plugins in
    record {
      few = record {
        transforms = few.transforms;
        plugins = plugins;
        groups = omega (arith, low, plugins);
      };
      plain = lines.plain;
      ordered = lines.ordered;
    }

-- no call of a recorded side fails or waits by its number
sure_side : (pieces : List Piece) (leave : Option ℕ) → IsSure (look_of (recorded_side pieces leave))
sure_side pieces leave =
    record { fail_reads = refl; fail_writes = refl; again_reads = refl; again_writes = refl }

-- and the origin never leaves
pub sure_sides : (client origin : List Piece) (leave : Option ℕ)
    → AreSureLayers look_of look_of (recorded_side client leave) (Some (recorded_side origin None))
sure_sides client origin leave = record {
  sure = sure_side client leave;
  sure_origin = λ o is. subst (λ l. IsSure (look_of l) × NeverLeaves (look_of l))
      (same_Some (recorded_side origin None) o is) (sure_side origin None, refl);
}

-- two sides that were just made were not used, and belong together
pub new_sides : (client origin : LinkState) (bytes answer : List ℕ) → IsNewSide bytes client
    → IsNewSide answer origin → MayBeLayered memory_link memory_link recorded_origin client (Some origin)
new_sides client origin bytes answer of_client of_origin = record {
  new = record {
    unused = λ tells. record {
      no_given = of_client.no_given;
      no_taken = of_client.no_taken;
      no_carried = refl;
    };
    unused_origin = λ tells. record {
      no_given = of_origin.no_given;
      no_taken = of_origin.no_taken;
      no_carried = refl;
    };
    paired = tt;
  };
  takes = λ list wrong. false≢true wrong;
}

-- the tag between recorded ends is that of a transaction
pub tag_of_txn : (setup : Setup) (at number : ℕ) (txn : TxnPieces) (tag : RecordedTag)
    → IsLayeredTag (recorded_ends setup at number txn) true recorded_promise false tag → TakesSome txn.leave
    → IsNewTagOf setup at (Transaction number txn) (kind.One tag)
tag_of_txn setup at number txn tag between some = record { between = between; takes_some = some }

-- ---- a row grows

-- groups with their tags are those of one member more
groups_more : (setup : Setup) (at : ℕ) (ms : List Member) (m : Member) (tags us : List RowTag)
    (groups hs : List RowGroup) (tag : RowTag) (group : RowGroup) → AreGroupsOf setup at ms tags groups
    → us ≡ tags ++ tag ∷ [] → hs ≡ groups ++ group ∷ []
    → IsNewTagOf setup at m tag → FitsIn tag group → HasHadTurns 0 group
    → AreGroupsOf setup at (ms ++ m ∷ []) us hs
groups_more setup at ms m tags us groups hs tag group row more moreover tagged fits new =
    subst (λ ts. AreGroupsOf setup at (ms ++ m ∷ []) ts hs) (sym more)
    (subst (λ gs. AreGroupsOf setup at (ms ++ m ∷ []) (tags ++ tag ∷ []) gs) (sym moreover) (record {
      tags_are = all_zipped_more (IsNewTagOf setup at) ms tags m tag row.tags_are tagged;
      fit = all_zipped_more FitsIn tags groups tag group row.fit fits;
      new = All-push (HasHadTurns 0) groups group row.new new;
    }))

-- the transactions behind others are numbered on
numbered_more : (number next : ℕ) (txns : List TxnPieces) (txn : TxnPieces) → next ≡ number + length txns
    → numbered number (txns ++ txn ∷ []) ≡ numbered number txns ++ Transaction next txn ∷ []
numbered_more number next [] txn is =
    let here : number ≡ next = omega (arith, is) in ap (λ n. Transaction n txn ∷ []) here
numbered_more number next (t ∷ txns) txn is =
    let later : next ≡ number + 1 + length txns = omega (arith, is) in
    ap (λ ms. Transaction number t ∷ ms) (numbered_more (number + 1) next txns txn later)

-- all transactions but those that are left have a group
pub record RowBut (setup : Setup) (at : ℕ) (txns rest : List TxnPieces) (number : ℕ) (tags : List RowTag)
    (groups : List RowGroup) : Type 0 where
  pub done : List TxnPieces
  pub split : txns ≡ done ++ rest
  pub number_is : number ≡ length done
  pub takes : AllTakeSome rest
  pub row : AreGroupsOf setup at (numbered 1 done) tags groups

-- the next one takes some bytes, where its client leaves
pub next_takes : (setup : Setup) (at : ℕ) (txns left rest : List TxnPieces) (txn : TxnPieces) (number : ℕ)
    (tags : List RowTag) (groups : List RowGroup) → RowBut setup at txns left number tags groups
    → left ≡ txn ∷ rest → TakesSome txn.leave
next_takes setup at txns left rest txn number tags groups but is =
    (subst AllTakeSome is but.takes).0

-- one transaction more has
pub row_more : (setup : Setup) (at : ℕ) (txns left rest : List TxnPieces) (txn : TxnPieces) (number next : ℕ)
    (tags us : List RowTag) (groups hs : List RowGroup) (tag : RowTag) (group : RowGroup)
    → RowBut setup at txns left number tags groups → left ≡ txn ∷ rest → next ≡ number + 1
    → us ≡ tags ++ tag ∷ [] → hs ≡ groups ++ group ∷ []
    → IsNewTagOf setup at (Transaction next txn) tag → FitsIn tag group → HasHadTurns 0 group
    → RowBut setup at txns rest next us hs
row_more setup at txns left rest txn number next tags us groups hs tag group but is up more moreover tagged
    fits new =
    let here : next ≡ 1 + length but.done = omega (arith, but.number_is, up) in
    record {
      done = but.done ++ txn ∷ [];
      split = but.split ∙ ap (λ l. but.done ++ l) is ∙ sym (append_assoc but.done (txn ∷ []) rest);
      number_is = omega (arith, here, length-append but.done (txn ∷ []));
      takes = (subst AllTakeSome is but.takes).1;
      row = subst (λ ms. AreGroupsOf setup at ms us hs) (sym (numbered_more 1 next but.done txn here))
          (groups_more setup at (numbered 1 but.done) (Transaction next txn) tags us groups hs tag group
          but.row more moreover tagged fits new);
    }

-- all have theirs
pub row_whole : (setup : Setup) (at : ℕ) (txns : List TxnPieces) (number : ℕ) (tags : List RowTag)
    (groups : List RowGroup) → RowBut setup at txns [] number tags groups
    → AreGroupsOf setup at (numbered 1 txns) tags groups
row_whole setup at txns number tags groups but =
    subst (λ ts. AreGroupsOf setup at (numbered 1 ts) tags groups)
    (sym (but.split ∙ append-nil but.done)) but.row

-- ---- plugins behind

-- two lists that agree place by place, behind two others that do
zipped_behind : {A B : Type 0} (R : A → B → Type 0) (xs : List A) (ys : List B) (us : List A) (vs : List B)
    → AllZip R xs ys → AllZip R us vs → AllZip R (xs ++ us) (ys ++ vs)
zipped_behind R [] [] us vs first behind = behind
zipped_behind R [] (y ∷ ys) us vs first behind = absurd first
zipped_behind R (x ∷ xs) [] us vs first behind = absurd first
zipped_behind R (x ∷ xs) (y ∷ ys) us vs first behind =
    (first.0, zipped_behind R xs ys us vs first.1 behind)

-- the plugin of a line has the tag of a member, under whatever setup
lines_tagged : (setup : Setup) (at : ℕ) (lines : List PluginLine) (tags : List RowTag)
    → AllZip IsTagOfLine lines tags → AllZip (IsNewTagOf setup at) (map HookPlugin lines) tags
lines_tagged setup at [] [] are = tt
lines_tagged setup at [] (t ∷ tags) are = absurd are
lines_tagged setup at (l ∷ ls) [] are = absurd are
lines_tagged setup at (l ∷ ls) (kind.One t ∷ tags) are = absurd are.0
lines_tagged setup at (l ∷ ls) (kind.Other p ∷ tags) are = (are.0, lines_tagged setup at ls tags are.1)

-- whatever members had groups, behind them the plugins of these lines have theirs
pub stand_behind : (setup : Setup) (at : ℕ) (ms : List Member) (lines : List PluginLine)
    (tags us : List RowTag) (groups hs : List RowGroup) → AreGroupsOf setup at ms tags groups
    → StandBehind layered_client layered_link layered_origin stock_transform lines tags us groups hs
    → AreGroupsOf setup at (ms ++ map HookPlugin lines) us hs
stand_behind setup at ms lines tags us groups hs row stand =
    subst (λ ts. AreGroupsOf setup at (ms ++ map HookPlugin lines) ts hs) (sym stand.tags_are)
    (subst (λ gs. AreGroupsOf setup at (ms ++ map HookPlugin lines) (tags ++ stand.added_tags) gs)
    (sym stand.groups_are) (record {
      tags_are = zipped_behind (IsNewTagOf setup at) ms tags (map HookPlugin lines) stand.added_tags
          row.tags_are (lines_tagged setup at lines stand.added_tags stand.lines_are);
      fit = zipped_behind FitsIn tags groups stand.added_tags stand.added row.fit stand.fit;
      new = All-append (HasHadTurns 0) groups stand.added row.new stand.new;
    }))

-- the row of transactions is that of all members, once the plugins of the setup's lines stand behind it
pub row_behind : {E : Type 0} {X : Type 0} (tags_of : X → List RowTag) (groups_of : X → List RowGroup)
    (setup : Setup) (txns : List TxnPieces) (lines : List PluginLine) (tags : List RowTag)
    (groups : List RowGroup) (result : Result X E) → lines ≡ setup.plugins.items
    → IsTxnRowOf setup txns tags groups
    → IfOk result (λ r. StandBehind layered_client layered_link layered_origin stock_transform lines tags
    (tags_of r) groups (groups_of r))
    → IfOk result (λ r. IsRowOf setup txns (tags_of r) (groups_of r))
row_behind tags_of groups_of setup txns lines tags groups (Ok r) is row stand = record {
  lines = row.lines;
  groups_are = stand_behind setup (length txns) (numbered 1 txns) setup.plugins.items tags (tags_of r) groups
      (groups_of r) row.groups_are
      (subst (λ ls. StandBehind layered_client layered_link layered_origin stock_transform ls tags (tags_of r)
      groups (groups_of r)) is stand);
}
row_behind tags_of groups_of setup txns lines tags groups (Err e) is row stand = tt
