-- A world at a place among the transactions of a client: it is the world, and its place stays.
use Rattle.std.proofs.Common.{ℕ}
use Rattle.ts_group.specs.Answers.{KeepsPromises, SetsAtMost, SetsNone}
use Rattle.ts_group.specs.Context.{Context}
use Rattle.ts_layers.specs.Links.{ClientEnd, OriginEnd, client_link, origin_link}
use Rattle.ts_link.specs.declared.link.Link as link
use Rattle.ts_txn.specs.World.{IsTxnOf}
use Rattle.ts_txn.specs.declared.txn.Txn.{Txn}
use Rattle.ts_txn.specs.declared.txn.TxnTag.{TxnTag}
use Rattle.ts_serve.specs.Places.{FitsAtPlace}

module _ {S W : Type 0} (Fits : S → W → Type 0) (place : ℕ) where
  pub placed_promises : {Q R : Type 0} (Right : W → ℕ → Q → R → Type 0) (MayAsk : W → ℕ → Type 0) (old new : W)
      → KeepsPromises Fits Right MayAsk old new
      → KeepsPromises (FitsAtPlace Fits) (λ t. Right t.value) (λ t. MayAsk t.value)
      (record { value = old; place = place }) (record { value = new; place = place })
  placed_promises Right MayAsk old new keeps = record {
    tags = λ tag fit. record { value = keeps.tags tag.value fit.value; place = fit.place };
    replies = keeps.replies;
    groups = keeps.groups;
  }

  pub placed_few : (world : W) (most : ℕ) (old new : Context) → SetsAtMost Fits world most old new
      → SetsAtMost (FitsAtPlace Fits) (record { value = world; place = place }) most old new
  placed_few world most old new few tag fit = few tag.value fit.value

  pub placed_none : (world : W) (old new : Context) → SetsNone Fits world old new
      → SetsNone (FitsAtPlace Fits) (record { value = world; place = place }) old new
  placed_none world old new none tag fit = none tag.value fit.value

-- what fits the tag of a transaction with its layers
abbrev pub FitsLayered : {C O P : Type 0} → link.Ghosts C → link.Ghosts O
    → TxnTag (ClientEnd C) (OriginEnd O P) → Txn (ClientEnd C) (OriginEnd O P) P → Type 0
FitsLayered {P = P} clients origins tag t = IsTxnOf (client_link clients) (origin_link {P = P} origins) tag t
