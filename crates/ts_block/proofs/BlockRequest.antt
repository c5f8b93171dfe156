-- The request of the block of all bytes is the one that those of the client say, of which there is one.
use Rattle.std.proofs.Common.{◌≡◌, ℕ, List, [], sym, ap, subst, ◌∙◌, refl, inl, inr, Bool, true, false}
use Rattle.std.proofs.Common.{Result, Ok, Err}
use Rattle.ts_config.specs.declared.setup.Setup.{Setup}
use Rattle.ts_wire.specs.declared.heads.RequestHead.{RequestHead}
use Rattle.ts_wire.specs.Check.{check, plugin_host}
use Rattle.ts_block.specs.Rules.{is_denied}
use Rattle.ts_block.specs.Heads.{HasRequest}
use Rattle.ts_block.specs.Block.{AnswerSays, lacking, passed_on, ended, early, cut, bad, DialSays, DenySays}
use Rattle.ts_block.specs.Block.{VerdictSays, IsBlock, silent, no_head, asked, request_text, GoesToOrigin}
use Rattle.ts_block.specs.Block.{IsRequestOf, sent_on, kept_back}
use Rattle.ts_block.specs.declared.block.Block.{Block}
use Rattle.ts_block.proofs.OneHead.{one_request, true_not_false}

-- ---- a request that goes to the origin is one

-- a check passes with one target and host
ok_same : (r : Result (List ℕ × List ℕ) ℕ) (x y : List ℕ × List ℕ) → r ≡ Ok x → r ≡ Ok y → x ≡ y
ok_same r x y is be = cc

module _ (setup : Setup) (dialed : Bool) (c : List ℕ) where
  -- with its target and its host
  same_going : (q p : RequestHead) (target host t h : List ℕ) → GoesToOrigin setup dialed c q target host
      → GoesToOrigin setup dialed c p t h → (q ≡ p) × ◌≡◌ {A = List ℕ × List ℕ} (target, host) (t, h)
  same_going q p target host t h a b =
      let same = one_request c q p a.rest b.rest a.reads b.reads in (
        same.0,
        ok_same (check p) (target, host) (t, h) (sym (ap check same.0) ∙ a.passes) b.passes,
      )

  pub request_one : (x y : List ℕ) → IsRequestOf setup dialed c x → IsRequestOf setup dialed c y → x ≡ y
  request_one x y (kept_back none is) (kept_back never be) = is ∙ sym be
  request_one x y (kept_back none is) (sent_on p t h goes be) = absurd (none p t h goes)
  request_one x y (sent_on q target host goes is) (kept_back none be) = absurd (none q target host goes)
  request_one x y (sent_on q target host goes is) (sent_on p t h also be) =
      let same = same_going q p target host t h goes also in
      is ∙ ap (λ (k : RequestHead). request_text setup k target host) same.0
      ∙ ap (λ (e : List ℕ × List ℕ). request_text setup p e.0 e.1) same.1 ∙ sym be

-- ---- that of a block

module _ (setup : Setup) (dialed : Bool) (refuses : Type 0) (o c : List ℕ) (b : Block) where
  body_request : (request : List ℕ) (q : RequestHead) (answer : AnswerSays setup request q o b)
      → b.request ≡ request
  body_request request q (lacking none is) = ap (λ (x : Block). x.request) is
  body_request request q (passed_on h rest final good (ended body ends is)) = ap (λ (x : Block). x.request) is
  body_request request q (passed_on h rest final good (early front more read state text part soon is)) =
      ap (λ (x : Block). x.request) is
  body_request request q (passed_on h rest final good (cut body short late is)) = ap (λ (x : Block). x.request) is
  body_request request q (passed_on h rest final good (bad body broken late is)) = ap (λ (x : Block). x.request) is

  dial_request : (d : Bool) (request : List ℕ) (q : RequestHead) → d ≡ true
      → DialSays setup dialed refuses o d request q b → b.request ≡ request
  dial_request false request q is says = absurd (let wrong : false ≡ true = is in cc)
  dial_request true request q is (inl (refused, made)) = ap (λ (x : Block). x.request) made
  dial_request true request q is (inr (takes, says)) = body_request request q says

  none_dialed : (d : Bool) (request : List ℕ) (q : RequestHead) → d ≡ false
      → DialSays setup dialed refuses o d request q b → b.request ≡ []
  none_dialed false request q is made = ap (λ (x : Block). x.request) made
  none_dialed true request q is says = absurd (let wrong : true ≡ false = is in cc)

  module _ (some : c ≡ [] → ⊥) (q : RequestHead) (rest : List ℕ) (reads : HasRequest c q rest) where
    -- whatever request goes to the origin is this one
    this_goes : (p : RequestHead) (t h : List ℕ) → GoesToOrigin setup dialed c p t h → check q ≡ Ok (t, h)
    this_goes p t h goes = ap check (one_request c q p rest goes.rest reads goes.reads).0 ∙ goes.passes

    module _ (target host : List ℕ) (passes : check q ≡ Ok (target, host)) where
      host_is : (p : RequestHead) (t h : List ℕ) → GoesToOrigin setup dialed c p t h → host ≡ h
      host_is p t h goes =
          ap (λ (e : List ℕ × List ℕ). e.1)
          (ok_same (check q) (target, host) (t, h) passes (this_goes p t h goes))

      dialed_says : is_denied setup.plugins.items (plugin_host host) ≡ false → (d : Bool) → dialed ≡ d
          → DialSays setup dialed refuses o dialed (request_text setup q target host) q b
          → IsRequestOf setup dialed c b.request
      dialed_says allowed true is says =
          sent_on q target host
          (record {
            some = some;
            rest = rest;
            reads = reads;
            passes = passes;
            allowed = allowed;
            has_origin = is;
          })
          (dial_request dialed (request_text setup q target host) q is says)
      dialed_says allowed false is says =
          kept_back (λ p t h goes. true_not_false dialed goes.has_origin is)
          (none_dialed dialed (request_text setup q target host) q is says)

      deny_says : (d : Bool) → is_denied setup.plugins.items (plugin_host host) ≡ d
          → DenySays setup dialed refuses o d (request_text setup q target host) q b
          → IsRequestOf setup dialed c b.request
      deny_says true is made =
          kept_back
          (λ p t h goes. true_not_false (is_denied setup.plugins.items (plugin_host h))
          (subst (λ x. is_denied setup.plugins.items (plugin_host x) ≡ true) (host_is p t h goes) is)
          goes.allowed)
          (ap (λ (x : Block). x.request) made)
      deny_says false is says = dialed_says is dialed refl says

    verdict_says : (r : Result (List ℕ × List ℕ) ℕ) → check q ≡ r
        → VerdictSays setup dialed refuses o r q b → IsRequestOf setup dialed c b.request
    verdict_says (Err status) is made =
        kept_back
        (λ p t h goes. absurd (let wrong : Err status ≡ Ok (t, h) = sym is ∙ this_goes p t h goes in cc))
        (ap (λ (x : Block). x.request) made)
    verdict_says (Ok (target, host)) is says =
        deny_says target host is (is_denied setup.plugins.items (plugin_host host)) refl says

  pub block_request : IsBlock setup dialed refuses o c b → IsRequestOf setup dialed c b.request
  block_request (silent none made) =
      kept_back (λ q t h goes. goes.some none) (ap (λ (x : Block). x.request) made)
  block_request (no_head some lacks made) =
      kept_back (λ q t h goes. lacks goes.reads.parsed goes.rest goes.reads.begins)
      (ap (λ (x : Block). x.request) made)
  block_request (asked some q rest reads says) = verdict_says some q rest reads (check q) refl says
