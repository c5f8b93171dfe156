-- The phase in which the origin's response head is read: where each answer of the origin's link leads.
use Rattle.std.proofs.Common.{◌≡◌, ℕ, ◌≤◌, ◌<◌, length, arith, ◌⊎◌, List, [], ◌∷◌, ◌++◌, Bool, true, false}
use Rattle.std.proofs.Common.{refl, sym, ap, subst, ◌∙◌, inl, inr}
use Rattle.std.proofs.lemmas.List.{append-nil}
use Rattle.httparse.proofs.GrammarLemmas.{ReadsResponse-append}
use Rattle.ts_config.specs.declared.setup.Setup.{Setup}
use Rattle.ts_hooks.specs.declared.txn_end.TxnEnd.TheVariants as E
use Rattle.ts_link.specs.Link.{all_of}
use Rattle.ts_vconn.specs.declared.moves.Pulled.{Pulled}
use Rattle.ts_vconn.specs.declared.moves.Pulled.TheVariants as L
use Rattle.ts_wire.specs.declared.heads.ResponseHead.{ResponseHead}
use Rattle.ts_wire.specs.declared.framing.Framing.TheVariants as G
use Rattle.ts_wire.specs.Limits.{head_limit}
use Rattle.ts_wire.specs.Heads.{LacksResponse}
use Rattle.ts_block.specs.Heads.{AfterInterims, FinalHead, HasResponse, LacksFinal, PassesInterims}
use Rattle.ts_block.specs.Heads.{is_interim, is_refused_status}
use Rattle.ts_block.specs.Relayed.{asks_head, framing_of}
use Rattle.ts_block.specs.Block.{IsGood, LacksAnswer, bad_status, faulty, lacking, no_final, own_block}
use Rattle.ts_block.specs.Block.{request_text}
use Rattle.ts_phases.specs.View.{LinkSide, View}
use Rattle.ts_phases.specs.Moving.{SeeksResponse, SideReads}
use Rattle.ts_phases.specs.Facts.{AwaitsFinal, ClientWaits, OwnReady, Relays, Served, decided, fault}
use Rattle.ts_phases.specs.Facts as facts
use Rattle.ts_phases.specs.Ends.{AnyEnd}
use Rattle.ts_phases.specs.Ends as ends
use Rattle.ts_block.specs.declared.own_answer.OwnStatus.TheVariants as O
use Rattle.ts_phases.specs.declared.phase.OwnAnswer.{OwnAnswer}
use Rattle.ts_phases.specs.declared.phase.Request.{Request}
use Rattle.ts_phases.specs.declared.head_reader.Found.TheVariants as F
use Rattle.ts_block.proofs.OneHead.{lacks_final, next_interim}
use Rattle.ts_phases.proofs.OneSide.{read_count, read_failed}
use Rattle.ts_phases.proofs.Going.{gone_block}
use Rattle.ts_phases.proofs.Uploading.{took_request}

-- ---- more bytes leave what was read

has_more : (bytes : List ℕ) (h : ResponseHead) (rest more : List ℕ) → HasResponse bytes h rest
    → HasResponse (bytes ++ more) h (rest ++ more)
has_more bytes h rest more x = record {
  parsed = x.parsed;
  begins = record {
    reads = ReadsResponse-append bytes x.parsed rest more x.begins.reads;
    short =
        x.begins.short;
    few = x.begins.few;
  };
  keeps = x.keeps;
}

after_more : (hs : List ResponseHead) (bytes rest more : List ℕ) → AfterInterims hs bytes rest
    → AfterInterims hs (bytes ++ more) (rest ++ more)
after_more [] bytes rest more is = ap (λ (x : List ℕ). x ++ more) is
after_more (h ∷ hs) bytes rest more (mid, has, interim, after) =
    (mid ++ more, has_more bytes h mid more has, interim, after_more hs mid rest more after)

passes_more : (bytes rest more : List ℕ) → PassesInterims bytes rest
    → PassesInterims (bytes ++ more) (rest ++ more)
passes_more bytes rest more p = record {
  interims = p.interims;
  after =
      after_more p.interims bytes rest more p.after;
}

pub final_more : (bytes : List ℕ) (h : ResponseHead) (rest more : List ℕ) → FinalHead bytes h rest
    → FinalHead (bytes ++ more) h (rest ++ more)
final_more bytes h rest more f = record {
  from = f.from ++ more;
  passed = passes_more bytes f.from more f.passed;
  reads = has_more f.from h rest more f.reads;
  final = f.final;
}

less_held : (new old most : ℕ) → new < old → old ≤ most → new ≤ most
less_held new old most less held = omega (arith, less, held)

-- a side took nothing, of an upload either, and the same waits for it
pub record TakesNothing (o s : LinkSide) : Type 0 where
  pub taken : s.look.taken ≡ o.look.taken
  pub carried : s.look.carried ≡ o.look.carried
  pub uploaded : s.look.uploaded ≡ o.look.uploaded
  pub waits : s.outbox ≡ o.outbox

-- so it is with one of which some was used
pub used_takes_nothing : (o : LinkSide) (i : List ℕ) → TakesNothing o (record o { inbox = i })
used_takes_nothing o i = record { taken = refl; carried = refl; uploaded = refl; waits = refl }

-- and with one that was read
pub read_takes_nothing : (t : Bool) (o s : LinkSide) (p : Pulled) → t ≡ true → SideReads t o s p
    → TakesNothing o s
read_takes_nothing t o s p told reads = record {
  taken = (reads.pulls.pulls.told told).taken;
  carried = reads.pulls.pulls.calls.carried;
  uploaded = reads.pulls.pulls.calls.uploaded;
  waits = reads.outbox;
}

module _ (setup : Setup) (refuses : Type 0) where
  -- the origin keeps what it took, also of the upload, and what waits for it
  pub served_as : (c : List ℕ) (q : Request) (dialed : Bool) (o s : LinkSide) → s.base ≤ s.look.faults
      → TakesNothing o s → Served setup refuses c q dialed o → Served setup refuses c q dialed s
  served_as c q dialed o s count same h =
      let text = request_text setup q.head q.target q.host in
      record {
        goes = h.goes;
        accepts = h.accepts;
        uploaded = same.uploaded ∙ h.uploaded;
        count = count;
        carries = record {
          text = ap (λ (x : List ℕ). x ++ s.outbox) same.taken
              ∙ ap (λ (x : List ℕ). o.look.taken ++ x) same.waits ∙ h.carries.text
              ∙ ap (λ (x : List ℕ). text ++ x) (sym same.carried);
          behind = λ some. same.carried ∙ h.carries.behind (λ none. some (same.waits ∙ none));
        };
        no_waits = same.waits ∙ h.no_waits;
      }

  pub awaits_any : (v : View) (q : Request) → AwaitsFinal setup refuses v q → AnyEnd setup refuses v
  awaits_any v q h = record {
    took = facts.request q h.served.goes h.served.carries;
    text =
        ends.quiet h.waits.quiet;
  }

  pub relays_any : (v : View) (q : Request) (head : ResponseHead) → Relays setup refuses v q head
      → AnyEnd setup refuses v
  relays_any v q head h = record {
    took = facts.request q h.served.goes h.served.carries;
    text =
        ends.quiet h.waits.quiet;
  }

  -- a head was found behind the interim ones, which may be interim too
  record Responds (v : View) (q : Request) (head : ResponseHead) : Type 0 where
    waits : ClientWaits v.client v.sent
    served : Served setup refuses (all_of v.client.look) q v.dialed v.origin
    from : List ℕ
    passed : PassesInterims v.origin.look.given from
    has : HasResponse from head v.origin.inbox
    held : length v.origin.inbox ≤ head_limit

  module _ (t : Bool) (v w : View) (q : Request) (told : t ≡ true)
      (h : AwaitsFinal setup refuses v q) where
    awaits_at : (s : LinkSide) (p : Pulled) → SideReads t v.origin s p → length s.inbox ≤ head_limit
        → AwaitsFinal setup refuses (record v { origin = s }) q
    awaits_at s p reads few =
        let gives = reads.pulls.pulls.told told in
        record {
          waits = h.waits;
          served = served_as (all_of v.client.look) q v.dialed v.origin s
              (read_count t v.origin s p reads h.served.count)
              (read_takes_nothing t v.origin s p told reads) h.served;
          passed = subst (λ (g : List ℕ). PassesInterims g s.inbox) (sym gives.given)
              (subst (λ (i : List ℕ). PassesInterims (v.origin.look.given ++ reads.pulls.more) i)
              (sym reads.pulls.grows)
              (passes_more v.origin.look.given v.origin.inbox reads.pulls.more h.passed));
          held = few;
        }

    -- the origin's head is read on
    pub awaits_on : (p : Pulled) → SeeksResponse t v w (F.Read p) → AwaitsFinal setup refuses w q
    awaits_on p hears = subst (λ (x : View). AwaitsFinal setup refuses x q) (sym hears.others)
        (awaits_at w.origin p hears.finds.1 hears.finds.2)

    -- memory lacked
    pub awaits_still : SeeksResponse t v w F.NoMemory → AwaitsFinal setup refuses w q
    awaits_still hears = subst (λ (x : View). AwaitsFinal setup refuses x q)
        (sym (hears.others ∙ ap (λ (s : LinkSide). record v { origin = s }) hears.finds)) h

    -- ---- a head

    responds_at : (i : List ℕ) (head : ResponseHead) → HasResponse v.origin.inbox head i
        → length i < length v.origin.inbox
        → Responds (record v { origin = record v.origin { inbox = i } }) q head
    responds_at i head has less = record {
      waits = h.waits;
      served = served_as (all_of v.client.look) q v.dialed v.origin (record v.origin { inbox = i })
          h.served.count (used_takes_nothing v.origin i) h.served;
      from = v.origin.inbox;
      passed = h.passed;
      has = has;
      held = less_held (length i) (length v.origin.inbox) head_limit less h.held;
    }

    responds : (head : ResponseHead) → SeeksResponse t v w (F.Head head) → Responds w q head
    responds head hears =
        subst (λ (x : View). Responds x q head) (sym (hears.others
        ∙ ap (λ (s : LinkSide). record v { origin = s }) hears.finds.2))
        (responds_at w.origin.inbox head hears.finds.0 hears.finds.1)

    -- an interim one
    pub interim : (head : ResponseHead) (is : Bool) → SeeksResponse t v w (F.Head head)
        → is ≡ is_interim head.status → is ≡ true → AwaitsFinal setup refuses w q
    interim head is hears says so =
        let r = responds head hears in
        record {
          waits = r.waits;
          served = r.served;
          passed =
              next_interim w.origin.look.given r.from w.origin.inbox head r.passed r.has (sym says ∙ so);
          held =
              r.held;
        }

    final_head : (head : ResponseHead) → Responds w q head → is_interim head.status ≡ false
        → FinalHead w.origin.look.given head w.origin.inbox
    final_head head r not = record { from = r.from; passed = r.passed; reads = r.has; final = not }

    -- one that can be passed on
    pub relays : (head : ResponseHead) (is : Bool) → SeeksResponse t v w (F.Head head)
        → is ≡ is_interim head.status → is ≡ false → IsGood q.head head
        → Relays setup refuses w q head
    relays head is hears says not good =
        let r = responds head hears in
        record {
          waits = r.waits;
          served = r.served;
          reads = final_head head r (sym says ∙ not);
          good =
              good;
          held = r.held;
        }

    -- ---- the 502 answer

    answers_502 : (a : OwnAnswer) → ClientWaits w.client w.sent
        → Served setup refuses (all_of w.client.look) q w.dialed w.origin
        → LacksAnswer q.head (all_of w.origin.look) → a ≡ record
        { status = O.BadGateway; to_head = asks_head q.head; end = E.Whole } → OwnReady setup refuses w a
    answers_502 a waits served lacks same =
        let text = request_text setup q.head q.target q.host in
        subst (λ (x : OwnAnswer). OwnReady setup refuses w x) (sym same)
        (record {
          waits = waits;
          cause = decided text
              (gone_block setup w.dialed refuses (all_of w.origin.look) (all_of w.client.look) q
              (own_block setup text O.BadGateway (asks_head q.head))
              served.goes (inr (served.accepts, lacking lacks refl)))
              refl (took_request setup refuses q w.origin served.carries served.no_waits
              (inl served.uploaded));
          took = facts.request q served.goes served.carries;
        })

    -- the final head can't be passed on
    pub refused_head : (head : ResponseHead) (is : Bool) (a : OwnAnswer) → SeeksResponse t v w (F.Head head)
        → is ≡ is_interim head.status → is ≡ false
        → (is_refused_status head.status ≡ true) ⊎ (framing_of q.head head ≡ G.Faulty)
        → a ≡ record { status = O.BadGateway; to_head = asks_head q.head; end = E.Whole }
        → OwnReady setup refuses w a
    refused_head head is a hears says not why same =
        let r = responds head hears in
        let final = final_more w.origin.look.given head w.origin.inbox w.origin.look.left
        (final_head head r (sym says ∙ not)) in
        answers_502 a r.waits r.served (by_cause why final) same
      where
        by_cause : (is_refused_status head.status ≡ true) ⊎ (framing_of q.head head ≡ G.Faulty)
            → FinalHead (all_of w.origin.look) head (w.origin.inbox ++ w.origin.look.left)
            → LacksAnswer q.head (all_of w.origin.look)
        by_cause (inl status) final = bad_status head (w.origin.inbox ++ w.origin.look.left) final status
        by_cause (inr framing) final = faulty head (w.origin.inbox ++ w.origin.look.left) final framing

    -- no head can come
    pub no_head : (a : OwnAnswer) → SeeksResponse t v w F.Never
        → a ≡ record { status = O.BadGateway; to_head = asks_head q.head; end = E.Whole }
        → OwnReady setup refuses w a
    no_head a hears same =
        let now = subst (λ (x : View). AwaitsFinal setup refuses x q)
        (sym (hears.others ∙ ap (λ (s : LinkSide). record v { origin = s }) hears.finds.1)) h in
        let lacks = subst (λ (s : LinkSide). (more : List ℕ) → LacksResponse (s.inbox ++ more))
        (sym hears.finds.1) hears.finds.0 in
        answers_502 a now.waits now.served
        (no_final (lacks_final (all_of w.origin.look) (w.origin.inbox ++ w.origin.look.left)
        (passes_more w.origin.look.given w.origin.inbox w.origin.look.left now.passed)
        (lacks w.origin.look.left))) same

    -- where a read brought nothing, no final head is there
    still_lacks : (p : Pulled) → SeeksResponse t v w (F.Read p) → (reads : SideReads t v.origin w.origin p)
        → reads.pulls.more ≡ [] → LacksFinal w.origin.look.given
    still_lacks p hears reads none =
        let now = awaits_on p hears in
        let same : w.origin.inbox ≡ v.origin.inbox = reads.pulls.grows
        ∙ ap (λ (m : List ℕ). v.origin.inbox ++ m) none ∙ append-nil v.origin.inbox in
        lacks_final w.origin.look.given w.origin.inbox now.passed
        (subst LacksResponse (sym same) hears.finds.0)

    -- the origin has ended before one
    pub ended_early : (a : OwnAnswer) → SeeksResponse t v w (F.Read L.End)
        → a ≡ record { status = O.BadGateway; to_head = asks_head q.head; end = E.Whole }
        → OwnReady setup refuses w a
    ended_early a hears same =
        let reads = hears.finds.1 in
        let all : all_of w.origin.look ≡ w.origin.look.given =
        ap (λ (l : List ℕ). w.origin.look.given ++ l) (reads.pulls.pulls.ends told)
        ∙ append-nil w.origin.look.given in
        let now = awaits_on L.End hears in
        answers_502 a now.waits now.served
        (no_final (subst LacksFinal (sym all) (still_lacks L.End hears reads reads.pulls.pulls.came))) same

    -- its link failed before one
    pub failed_early : (a : OwnAnswer) → SeeksResponse t v w (F.Read L.Failed)
        → a ≡ record { status = O.BadGateway; to_head = asks_head q.head; end = E.OriginFault }
        → OwnReady setup refuses w a
    failed_early a hears same =
        let reads = hears.finds.1 in
        let now = awaits_on L.Failed hears in
        subst (λ (x : OwnAnswer). OwnReady setup refuses w x) (sym same)
        (record {
          waits = now.waits;
          cause = fault q now.served.goes refl refl refl (read_failed t v.origin w.origin L.Failed refl reads
              h.served.count)
              (still_lacks L.Failed hears reads reads.pulls.pulls.came);
          took = facts.request q now.served.goes now.served.carries;
        })
