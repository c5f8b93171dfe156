-- The phase in which the client's request head is read and checked: where each answer of the client's link
-- leads.
use Rattle.std.proofs.Common.{◌≡◌, ◌≢◌, ℕ, ◌<◌, List, [], ◌++◌, Bool, true, false, Result, length, arith}
use Rattle.std.proofs.Common.{refl, sym, ap, subst, ◌∙◌}
use Rattle.std.proofs.lemmas.List.{append-nil}
use Rattle.std.proofs.lemmas.List.Elements.{All-nil}
use Rattle.ts_lists.proofs.Sizes.{front_not_empty}
use Rattle.httparse.proofs.GrammarLemmas.{ReadsRequest-append}
use Rattle.ts_config.specs.declared.setup.Setup.{Setup}
use Rattle.ts_hooks.specs.declared.txn_end.TxnEnd.TheVariants as E
use Rattle.ts_link.specs.Link.{all_of}
use Rattle.ts_vconn.specs.declared.moves.Pulled.{Pulled}
use Rattle.ts_vconn.specs.declared.moves.Pulled.TheVariants as L
use Rattle.ts_wire.specs.declared.heads.RequestHead.{RequestHead}
use Rattle.ts_wire.specs.declared.frames.Mode.{Mode}
use Rattle.ts_wire.specs.declared.frames.Mode.TheVariants as M
use Rattle.ts_wire.specs.Frames.{frames, IsPiece}
use Rattle.ts_wire.specs.Heads.{LacksRequest}
use Rattle.ts_wire.specs.Check.{check}
use Rattle.ts_wire.proofs.OneRequest.{some_bytes}
use Rattle.ts_block.specs.Heads.{HasRequest}
use Rattle.ts_block.specs.Own.{own_refusal}
use Rattle.ts_block.specs.Relayed.{asks_head}
use Rattle.ts_block.specs.Block.{IsBlock, VerdictSays, asked, no_head, own_block, silent, silent_block}
use Rattle.ts_phases.specs.View.{HasFailed, LinkSide, View}
use Rattle.ts_phases.specs.Moving.{SeeksRequest, SideReads}
use Rattle.ts_phases.specs.Checking.{IsCheckedAs}
use Rattle.ts_phases.specs.Facts.{Asking, PassesCheck, ClientWaits, OwnReady, TookExactly, Untouched, decided}
use Rattle.ts_phases.specs.Facts as facts
use Rattle.ts_phases.specs.Ends.{AnyEnd, EndFact}
use Rattle.ts_phases.specs.Ends as ends
use Rattle.ts_block.specs.declared.own_answer.OwnStatus.TheVariants as O
use Rattle.ts_phases.specs.declared.client_request.Checked.TheVariants as C
use Rattle.ts_phases.specs.declared.phase.OwnAnswer.{OwnAnswer}
use Rattle.ts_phases.specs.declared.phase.Request.{Request}
use Rattle.ts_phases.specs.declared.head_reader.Found.TheVariants as F
use Rattle.ts_phases.proofs.OneSide.{quiet_as, read_count, read_failed}

-- ---- a read

asking_side : (t : Bool) (v : View) (s : LinkSide) (p : Pulled) → t ≡ true → Asking v
    → SideReads t v.client s p → Asking (record v { client = s })
asking_side t v s p told a reads =
    let gives = reads.pulls.pulls.told told in
    record {
      count = read_count t v.client s p reads a.count;
      quiet = quiet_as v.client s v.sent gives.taken reads.outbox a.quiet;
      untouched = a.untouched;
      held = gives.given ∙ ap (λ (g : List ℕ). g ++ reads.pulls.more) a.held ∙ sym reads.pulls.grows;
    }

-- the client's head is read on
pub goes_on : (t : Bool) (v w : View) (p : Pulled) → t ≡ true → Asking v → SeeksRequest t v w (F.Read p)
    → Asking w
goes_on t v w p told a hears = subst Asking (sym hears.others)
    (asking_side t v w.client p told a hears.finds.1)

-- memory lacked
pub stands : (t : Bool) (v w : View) → Asking v → SeeksRequest t v w F.NoMemory → Asking w
stands t v w a hears = subst Asking (sym (hears.others ∙ ap (λ (s : LinkSide). record v { client = s })
    hears.finds)) a

-- ---- a head

has_more : (bytes : List ℕ) (head : RequestHead) (rest more : List ℕ) → HasRequest bytes head rest
    → HasRequest (bytes ++ more) head (rest ++ more)
has_more bytes head rest more h = record {
  parsed = h.parsed;
  begins = record {
    reads = ReadsRequest-append bytes h.parsed rest more h.begins.reads;
    short =
        h.begins.short;
    few = h.begins.few;
  };
  keeps = h.keeps;
}

-- a longer list has an element
longer_some : (xs ys : List ℕ) → length xs < length ys → ys ≢ []
longer_some xs ys less is = absurd (omega (arith, less, ap length is))

-- a head was found in what the client gave
record Heard (v : View) (head : RequestHead) : Type 0 where
  waits : ClientWaits v.client v.sent
  untouched : Untouched v.origin
  rest : List ℕ
  reads : HasRequest (all_of v.client.look) head rest

-- the bytes behind it are left
heard_at : (v : View) (i : List ℕ) (head : RequestHead) → Asking v → HasRequest v.client.inbox head i
    → length i < length v.client.inbox
    → Heard (record v { client = record v.client { inbox = i } }) head
heard_at v i head a has less = record {
  waits = record {
    count = a.count;
    quiet = quiet_as v.client (record v.client { inbox = i }) v.sent refl refl a.quiet;
    some = λ is. longer_some i v.client.inbox less (sym a.held ∙ is);
  };
  untouched = a.untouched;
  rest = i ++ v.client.look.left;
  reads = subst (λ (g : List ℕ). HasRequest (g ++ v.client.look.left) head (i ++ v.client.look.left))
      (sym a.held)
      (has_more v.client.inbox head i v.client.look.left has);
}

heard : (t : Bool) (v w : View) (head : RequestHead) → Asking v → SeeksRequest t v w (F.Head head)
    → Heard w head
heard t v w head a hears =
    subst (λ (x : View). Heard x head) (sym (hears.others ∙ ap (λ (s : LinkSide). record v { client = s })
    hears.finds.2))
    (heard_at v w.client.inbox head a hears.finds.0 hears.finds.1)

-- it is a request
pub passed : (t : Bool) (v w : View) (head : RequestHead) (q : Request) → Asking v
    → SeeksRequest t v w (F.Head head) → IsCheckedAs head (C.Pass q) → PassesCheck w q
passed t v w head q a hears (is, passes) =
    let h = heard t v w head a hears in
    record {
      waits = h.waits;
      untouched = h.untouched;
      knows = record {
        some = front_not_empty w.client.look.given w.client.look.left h.waits.some;
        rest = h.rest;
        reads = subst (λ (x : RequestHead). HasRequest (all_of w.client.look) x h.rest) (sym is) h.reads;
        passes = ap check is ∙ passes;
      };
    }

-- what an untouched origin took
took_none : (refuses : Type 0) (o : LinkSide) → Untouched o → TookExactly refuses [] o
took_none refuses o u = record {
  text = u.no_taken ∙ sym u.no_carried;
  nothing = λ is. u.no_carried;
  uploaded = λ some. absurd (some refl);
  no_waits = u.no_waits;
}

-- an answer whose block has no request
pub untouched_own : (setup : Setup) (refuses : Type 0) (v : View) (a : OwnAnswer)
    → ClientWaits v.client v.sent → Untouched v.origin → a.end ≡ E.Whole
    → IsBlock setup v.dialed refuses (all_of v.origin.look) (all_of v.client.look)
    (own_block setup [] a.status a.to_head) → OwnReady setup refuses v a
untouched_own setup refuses v a waits untouched whole block = record {
  waits = waits;
  cause = decided [] block whole (took_none refuses v.origin untouched);
  took = facts.nothing untouched.no_taken untouched.no_waits;
}

-- it is refused
pub refused : (setup : Setup) (refuses : Type 0) (t : Bool) (v w : View) (head : RequestHead) (a : OwnAnswer)
    → Asking v → SeeksRequest t v w (F.Head head)
    → IsCheckedAs head (C.Refused a) → OwnReady setup refuses w a
refused setup refuses t v w head a asks hears (status, verdict, is) =
    let h = heard t v w head asks hears in
    let own : OwnAnswer = record { status = own_refusal status; to_head = asks_head head; end = E.Whole } in
    subst (λ (x : OwnAnswer). OwnReady setup refuses w x) (sym is)
    (untouched_own setup refuses w (record {
      status = own_refusal status;
      to_head = asks_head head;
      end =
          E.Whole;
    }) h.waits h.untouched refl
    (asked (front_not_empty w.client.look.given w.client.look.left h.waits.some) head h.rest h.reads
    (subst (λ (r : Result (List ℕ × List ℕ) ℕ). VerdictSays setup w.dialed refuses (all_of w.origin.look) r
    head (own_block setup [] (own_refusal status) (asks_head head)))
    (sym verdict) refl)))

-- ---- no head

no_request : (setup : Setup) (refuses : Type 0) (v : View) → Asking v → v.client.inbox ≢ []
    → LacksRequest (v.client.inbox ++ v.client.look.left)
    → OwnReady setup refuses v (record { status = O.BadRequest; to_head = false; end = E.Whole })
no_request setup refuses v a some lacks =
    let given : v.client.look.given ≢ [] = λ is. some (sym a.held ∙ is) in
    untouched_own setup refuses v (record { status = O.BadRequest; to_head = false; end = E.Whole })
    (record { count = a.count; quiet = a.quiet; some = given }) a.untouched refl
    (no_head (front_not_empty v.client.look.given v.client.look.left given)
    (subst (λ (g : List ℕ). LacksRequest (g ++ v.client.look.left)) (sym a.held) lacks) refl)

-- none can come
pub never : (setup : Setup) (refuses : Type 0) (t : Bool) (v w : View) → Asking v → SeeksRequest t v w F.Never
    → OwnReady setup refuses w (record { status = O.BadRequest; to_head = false; end = E.Whole })
never setup refuses t v w a hears =
    subst (λ (x : View). OwnReady setup refuses x (record {
      status = O.BadRequest;
      to_head = false;
      end =
          E.Whole;
    }))
    (sym (hears.others ∙ ap (λ (s : LinkSide). record v { client = s }) hears.finds.1))
    (no_request setup refuses v a (longer_some [] v.client.inbox (some_bytes v.client.inbox hears.finds.0))
    (hears.finds.0 v.client.look.left))

-- the client has ended within a head
pub ended_within : (setup : Setup) (refuses : Type 0) (t : Bool) (v w : View) → t ≡ true → Asking v
    → SeeksRequest t v w (F.Read L.End) → w.client.inbox ≢ []
    → OwnReady setup refuses w (record { status = O.BadRequest; to_head = false; end = E.Whole })
ended_within setup refuses t v w told a hears some =
    let now = goes_on t v w L.End told a hears in
    let pulls = hears.finds.1.pulls in
    let same : w.client.inbox ≡ v.client.inbox = pulls.grows
    ∙ ap (λ (m : List ℕ). v.client.inbox ++ m) pulls.pulls.came ∙ append-nil v.client.inbox in
    let all : w.client.inbox ++ w.client.look.left ≡ v.client.inbox =
    ap (λ (l : List ℕ). w.client.inbox ++ l) (pulls.pulls.ends told) ∙ append-nil w.client.inbox ∙ same in
    no_request setup refuses w now some (subst LacksRequest (sym all) hears.finds.0)

plain_end : (mode : Mode) → mode ≡ M.Plain → frames mode [] true ≡ []
plain_end mode is = ap (λ (m : Mode). frames m [] true) is

-- the client has ended before its first byte
pub gave_nothing : (setup : Setup) (refuses : Type 0) (t : Bool) (v w : View) → t ≡ true → Asking v
    → SeeksRequest t v w (F.Read L.End) → w.client.inbox ≡ []
    → EndFact setup refuses w E.Whole
gave_nothing setup refuses t v w told a hears none =
    let now = goes_on t v w L.End told a hears in
    let left : w.client.look.left ≡ [] = hears.finds.1.pulls.pulls.ends told in
    let all : all_of w.client.look ≡ [] = ap (λ (g : List ℕ). g ++ w.client.look.left) (now.held ∙ none)
    ∙ left in
    record {
      any = record {
        took = facts.nothing now.untouched.no_taken now.untouched.no_waits;
        text =
            ends.quiet now.quiet;
      };
      by = record {
        block = silent_block;
        has = record {
          is_block = silent all refl;
          ends = refl;
          took =
              took_none refuses w.origin now.untouched;
          no_waits = now.quiet.no_waits;
          mode = now.quiet.plain;
        };
        text = record {
          pieces = [];
          each = All-nil IsPiece;
          text = ap (λ (x : List ℕ). x ++ w.client.outbox) now.quiet.no_taken ∙ now.quiet.no_waits
              ∙ sym (plain_end w.sent.mode now.quiet.plain);
          head_is = now.quiet.no_head;
          cuts = now.quiet.no_cuts;
          body_is = refl;
        };
      };
    }

-- ---- whatever the phase

pub asking_any : (setup : Setup) (refuses : Type 0) (v : View) → Asking v → AnyEnd setup refuses v
asking_any setup refuses v a = record {
  took = facts.nothing a.untouched.no_taken a.untouched.no_waits;
  text =
      ends.quiet a.quiet;
}

-- nor was anything sent where a head was found
pub heard_any : (setup : Setup) (refuses : Type 0) (t : Bool) (v w : View) (head : RequestHead) → Asking v
    → SeeksRequest t v w (F.Head head) → AnyEnd setup refuses w
heard_any setup refuses t v w head a hears =
    let h = heard t v w head a hears in
    record { took = facts.nothing h.untouched.no_taken h.untouched.no_waits; text = ends.quiet h.waits.quiet }

-- any of them may end for want of memory, or for the client's fault
pub lacks_memory : (setup : Setup) (refuses : Type 0) (v : View) → AnyEnd setup refuses v
    → EndFact setup refuses v E.NoMemory
lacks_memory setup refuses v any = record { any = any; by = tt }

pub client_fails : (setup : Setup) (refuses : Type 0) (v : View) → AnyEnd setup refuses v → HasFailed v.client
    → EndFact setup refuses v E.ClientFault
client_fails setup refuses v any failed = record { any = any; by = failed }

-- the client's link failed
pub failed : (setup : Setup) (refuses : Type 0) (t : Bool) (v w : View) → t ≡ true → Asking v
    → SeeksRequest t v w (F.Read L.Failed) → EndFact setup refuses w E.ClientFault
failed setup refuses t v w told a hears =
    client_fails setup refuses w (asking_any setup refuses w (goes_on t v w L.Failed told a hears))
    (read_failed t v.client w.client L.Failed refl hears.finds.1 a.count)
