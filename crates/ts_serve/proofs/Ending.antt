-- A transaction in a place, with its layers: how it comes there, and what is left of it.
use Rattle.std.proofs.Common.{◌≡◌, ◌⊎◌, ◌∙◌, ◌+◌, inl, inr, ℕ, List, [], arith, Option, Some, None, Bool}
use Rattle.std.proofs.Common.{true, false, is_some, refl}
use Rattle.std.proofs.Common.{sym, ap, subst}
use Rattle.std.specs.Prelude.{IfSome}
use Rattle.ts_config.specs.declared.setup.TransformLine.{TransformLine}
use Rattle.ts_exchange.specs.Ends.{Ends}
use Rattle.ts_exchange.specs.declared.exchange.Promise.{Promise}
use Rattle.ts_group.specs.declared.action.Named.{Named}
use Rattle.ts_history.specs.Done.{AreEndsAt}
use Rattle.ts_journal.specs.State.{State}
use Rattle.ts_layers.specs.Layers.{IsLayeredTag, LayeredExchanges, MayBeLayered, TakesUploads}
use Rattle.ts_layers.specs.Links.{ClientEnd, OriginEnd, client_link, origin_link, origin_uploads}
use Rattle.ts_layers.specs.Links.{watched_look}
use Rattle.ts_layers.specs.declared.layers.PlainExchange.{PlainExchange}
use Rattle.ts_link.specs.declared.link.Link as link
use Rattle.ts_transform.specs.declared.transform.Transform as transform
use Rattle.ts_upstream.specs.declared.upstream.Upstream as upstream
use Rattle.ts_txn.specs.Making.{ArePaired, IsNewLinkIf}
use Rattle.ts_txn.specs.Net.{IsNextOrigin}
use Rattle.ts_txn.specs.World.{IsSoundTxn, IsTxnOf}
use Rattle.ts_txn.specs.declared.txn.Txn.{Txn}
use Rattle.ts_txn.specs.declared.txn.TxnTag.{TxnTag}
use Rattle.ts_serve.specs.Arrivals.{IsArrival}
use Rattle.ts_serve.specs.Exchanges.{KeepsTerms}
use Rattle.ts_serve.specs.Places.{FitsAtPlace}
use Rattle.ts_serve.specs.Tenants.{MayLive}
use Rattle.ts_serve.specs.declared.exchanges.TxnTerms.{TxnTerms}
use Rattle.ts_serve.specs.Whose.{first_of, next_of}
use Rattle.ts_serve.specs.declared.whose.Whose.{Whose}
use Rattle.ts_txn.specs.declared.retired.Noted.{Noted}

-- an end, where there is one
pub some_end : {A : Type 0} (o : Option A) → is_some o ≡ true → (a : A) × (o ≡ Some a)
some_end None is = absurd (cc)
some_end (Some a) is = (a, refl)

module _ {C O : Type 0} (origin : link.Ghosts O) (both : upstream.Ghosts O C) where
  -- an origin that was reached was not used, belongs to the client, and refuses no upload
  pub reached_new : (o : Option O) → IfSome o (IsNextOrigin origin both) → origin.tells ≡ true
      → IsNewLinkIf origin.look o
  reached_new None next tells = tt
  reached_new (Some o) next tells = next.unused tells

  pub reached_paired : (c : C) (o : Option O) → IfSome o (IsNextOrigin origin both)
      → ArePaired both.paired c o
  reached_paired c None next = tt
  reached_paired c (Some o) next = next.paired c

  pub reached_takes : (o : Option O) → IfSome o (IsNextOrigin origin both) → TakesUploads both.refuses o
  reached_takes None next = tt
  reached_takes (Some o) next = next.takes

-- layers may be put over a client that came and its origin
pub new_ends : {C O : Type 0} (client : link.Ghosts C) (origin : link.Ghosts O) (both : upstream.Ghosts O C)
    (number : ℕ) (c : C) (o : Option O) → IsArrival client origin both number c o
    → MayBeLayered client origin both c o
new_ends client origin both number c o came = record {
  new = record {
    unused = came.unused;
    unused_origin = reached_new origin both o came.reached;
    paired = reached_paired origin both c o came.reached;
  };
  takes = reached_takes origin both o came.reached;
}

-- a transaction that was made of a client that came, with layers, may stand in a place of the setting's terms
pub lives_made : {C O P : Type 0} (client : link.Ghosts C) (origin : link.Ghosts O)
    (both : upstream.Ghosts O C) (stage : transform.Ghosts P TransformLine) (ends : Ends C O)
    (promise : Promise) (terms : TxnTerms) (tag : TxnTag (ClientEnd C) (OriginEnd O P))
    (t : Txn (ClientEnd C) (OriginEnd O P) P) → IsLayeredTag ends false promise false tag
    → AreEndsAt client.look terms.setup.value terms.plugins_at ends
    → IsTxnOf (client_link client) (origin_link origin) tag t
    → ((next : ℕ) (roles : List Named) → IsSoundTxn (client_link client) (origin_link origin)
    (origin_uploads client origin both stage) stage t [] next roles)
    → (place : ℕ) → MayLive (FitsAtPlace (IsTxnOf (client_link client) (origin_link origin)))
    (λ v u. KeepsTerms client.look v u.value)
    (λ u s roles. IsSoundTxn (client_link client) (origin_link origin)
    (origin_uploads client origin both stage) stage u.value s.pending s.next roles) terms
    (record { value = t; place = place })
lives_made client origin both stage ends promise terms tag t tagged at fits sound place =
    let keeps : KeepsTerms client.look terms tag =
    record { ends = ends; ends_are = at; promise = promise; tag_is = tagged } in
    record {
      fits = (record { value = tag; place = place }, keeps, record { value = fits; place = refl });
      sound = λ s roles none.
          subst (λ ps. IsSoundTxn (client_link client) (origin_link origin)
          (origin_uploads client origin both stage) stage t ps s.next roles) (sym none)
          (sound s.next roles);
    }

-- the same number and origin, at the same place, are of the same one
pub same_whose : {number again place : ℕ} {has has' : Bool} → number ≡ again → has ≡ has'
    → ◌≡◌ {A = Whose} (record { number = number; place = place; has_origin = has })
    (record { number = again; place = place; has_origin = has' })
same_whose number_is origin_is = cc

-- the first one after a transaction at no place is the one at the first place
pub next_first : {O : Type 0} (noted : Noted O) (number : ℕ) (has : Bool) → noted.place ≡ 0
    → number ≡ noted.number → first_of number has ≡ next_of noted has
next_first noted number has none is =
    let place : 1 ≡ noted.place + 1 = omega (arith, none) in
    let at : ℕ → Whose = λ p. record { number = noted.number; place = p; has_origin = has } in
    ap (λ n. first_of n has) is ∙ ap at place

-- a client that came is one with an origin that was reached for it
pub came_with : {C O : Type 0} (client : link.Ghosts C) (origin : link.Ghosts O) (both : upstream.Ghosts O C)
    (number : ℕ) (c : C) (o : Option O) → IsArrival client origin both number c None
    → IfSome o (IsNextOrigin origin both) → IsArrival client origin both number c o
came_with client origin both number c o came reached =
    record { named = came.named; unused = came.unused; reached = reached }

-- one that does not wait has ended
pub stood_ended : {ended : Bool} {P : Type 0} → ((ended ≡ true) × P) ⊎ (false ≡ true) → (ended ≡ true) × P
stood_ended (inl is) = is
stood_ended (inr wrong) = absurd (cc)

-- a transaction with layers has the number of its ends
pub made_number : {C O P : Type 0} (ends : Ends C O) (promise : Promise)
    (tag : TxnTag (ClientEnd C) (OriginEnd O P)) (number : ℕ) → IsLayeredTag ends false promise false tag
    → number ≡ tag.number → number ≡ ends.number
made_number ends promise tag number is here = here ∙ is.tag_is.number_is ∙ is.over.number

-- the number of a transaction that is left is still the name of its client's link
pub left_named : {C O P : Type 0} (client : link.Ghosts C) (origin : link.Ghosts O)
    (both : upstream.Ghosts O C) (stage : transform.Ghosts P TransformLine) (ends : Ends C O)
    (keeps started : Bool) (s : State) (left : PlainExchange C O)
    → LayeredExchanges client origin both stage ends keeps started s left
    → (client.look ends.client).name ≡ ends.number
    → (client.look left.parts.client).name ≡ left.parts.number
left_named client origin both stage ends keeps started s left exchanges named =
    let same = exchanges.exchanges.keeps in
    let number : left.parts.number ≡ ends.number =
    exchanges.inside.number ∙ same.number ∙ exchanges.over.number in
    let kept : (watched_look client.look exchanges.shown.client.client).name
    ≡ (watched_look client.look exchanges.layered.client.client).name = same.client_is.name in
    ap (λ l. (client.look l).name) exchanges.inside.client ∙ kept
    ∙ ap (λ l. (client.look l).name) exchanges.over.client.inside ∙ named ∙ sym number

-- there is one value of the terms that show this setup and this number
pub one_terms : (a b : TxnTerms) → a.setup.value ≡ b.setup.value → a.plugins_at ≡ b.plugins_at → a ≡ b
one_terms a b setup_is at_is =
    let shown : a ≡ record a { setup = b.setup } =
    ap (λ v. record a { setup = record a.setup { value = v } }) setup_is in
    let placed : record a { setup = b.setup } ≡ b = ap (λ n. record b { plugins_at = n }) at_is in
    shown ∙ placed
