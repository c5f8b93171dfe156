-- How a session goes on from one transaction to the next, and what is left of it at its end.
use Rattle.std.proofs.Common.{◌≡◌, ◌∙◌, ◌⊎◌, ℕ, ◌+◌, ◌<◌, ◌≤◌, List, [], ◌∷◌, ◌++◌, length, Bool, true, false}
use Rattle.std.proofs.Common.{sym, ap, ap₂, subst, refl, inl, inr, ⊎_elim, append_assoc, length-append, arith}
use Rattle.std.proofs.lemmas.Bool.{cases_lt}
use Rattle.std.proofs.lemmas.List.{append-nil, append_cancel_left}
use Rattle.std.specs.List.{concat}
use Rattle.ts_config.specs.declared.setup.Setup.{Setup}
use Rattle.ts_config.specs.declared.setup.TransformLine.{TransformLine}
use Rattle.ts_history.proofs.Requests.{some_request}
use Rattle.ts_history.proofs.Standing.{stands_on}
use Rattle.ts_history.proofs.Left.{counts_left}
use Rattle.ts_history.specs.History.{StandsBehind}
use Rattle.ts_history.specs.Sessions.{HasSession, IsLastOf, IsNoteOf, IsSpent, StandsAt, request_of}
use Rattle.ts_history.specs.Sessions.{response_of}
use Rattle.ts_layers.specs.Sessions.{IsLastClient, IsNextSpan, MayGoOn, shown}
use Rattle.ts_link.specs.Counts.{Rose, greatest}
use Rattle.ts_link.specs.Link.{all_of}
use Rattle.ts_link.specs.declared.link.Link as link
use Rattle.ts_session.proofs.FirstRequest.{finds_first}
use Rattle.ts_session.specs.Course.{before_client, is_dropped, waiting}
use Rattle.ts_session.specs.FirstRequest.{first_request}
use Rattle.ts_session.specs.Kept.{IsKept, close_line}
use Rattle.ts_session.specs.Requests.{IsRequest}
use Rattle.ts_session.specs.Session.{IsSent}
use Rattle.ts_session.specs.declared.course.Course.{Course}
use Rattle.ts_session.specs.declared.response.Sending.{Sending}
use Rattle.ts_session.specs.declared.response.Sending.TheVariants as S
use Rattle.ts_session.specs.declared.spanned.Spanned.{Spanned}
use Rattle.ts_transform.specs.declared.transform.Transform as transform
use Rattle.ts_txn.specs.declared.making.TxnParts.{TxnParts}
use Rattle.ts_txn.specs.declared.retired.Noted.{Noted}
use Rattle.ts_txn.specs.declared.retired.Retired.{Retired}
use Rattle.ts_waiting.specs.Waiting.{HasEnded, IsSameSpan}

-- ---- nothing

-- of no response nothing is kept, and none of it was sent
no_kept : (kept : List ℕ) → IsKept [] kept → ⊥
no_kept kept is =
    let lengths = ap (λ (l : List ℕ). length l) is.response_is in
    let parts = length-append is.lines (close_line ++ is.behind) in
    let more = length-append close_line is.behind in
    let some : length close_line ≡ 19 = refl in
    omega (arith, lengths, parts, more, some)

none_sent : (goes_on : Bool) (waits sent : List ℕ) → IsSent goes_on waits [] sent → sent ≡ []
none_sent true waits sent is = absurd (no_kept sent is)
none_sent false waits [] is = refl
none_sent false waits (b ∷ sent) is = absurd (cc)

-- where the line was dropped, none of it waits
none_waits : (x : Sending) → is_dropped x ≡ true → waiting x ≡ []
none_waits S.Head is = absurd (cc)
none_waits (S.Line count) is = absurd (cc)
none_waits (S.Owed from to) is = absurd (cc)
none_waits S.Passing is = absurd (cc)
none_waits S.Dropped is = refl

-- no bytes are no request, so where they are the first one of some bytes, these are none
none_asked : (bytes : List ℕ) → [] ≡ first_request bytes → bytes ≡ []
none_asked bytes is =
    ⊎_elim
    (λ (all : first_request bytes ≡ bytes). sym all ∙ sym is)
    (λ (cut : (more : List ℕ) × (bytes ≡ first_request bytes ++ more) × IsRequest (first_request bytes)).
    absurd (omega (arith, some_request (first_request bytes) cut.2, ap length is)))
    (finds_first.next bytes)

-- what stands in a connection behind what came before its client
behind_came : (before came all span stands bytes : List ℕ) → before ≡ came → before ++ all ≡ span ++ bytes
    → span ≡ came ++ stands → all ≡ stands ++ bytes
behind_came before came all span stands bytes since gave is =
    append_cancel_left came all (stands ++ bytes)
    (ap (λ (l : List ℕ). l ++ all) (sym since) ∙ gave ∙ ap (λ (l : List ℕ). l ++ bytes) is
    ∙ append_assoc came stands bytes)

-- what failed since has more faults than it was made with
rose_since : (base old new : ℕ) → base ≤ old → Rose old new → (base < new) ⊎ (greatest ≤ new)
rose_since base old new low rose =
    ⊎_elim
    (λ (more : base < new). inl more)
    (λ (none : new ≤ base). inr (omega (arith, low, rose, none)))
    (cases_lt base new)

module _ {C : Type 0} (client : link.Ghosts C) where
  -- a connection gives nothing behind a request of which nothing was given and nothing is left
  no_more : (s : Course C) (c : C) (last : IsLastClient client s c) (tells : client.tells ≡ true)
      → (shown client s).given ≡ [] → (shown client s).left ≡ [] → (last.session tells).bytes ≡ []
  no_more s c last tells given left =
      none_asked (last.session tells).bytes
      (sym (ap₂ (λ (a b : List ℕ). a ++ b) given left) ∙ (last.session tells).request)

-- ---- from one transaction to the next

module _ {C O P : Type 0} (client : link.Ghosts C) (origin : link.Ghosts O)
    (stage : transform.Ghosts P TransformLine) (setup : Setup) (plugins_at : ℕ) where
  -- THE STEP: the span of the next request stands behind this transaction too
  pub next_stands : (number : ℕ) (notes : List (Noted O)) (note : Noted O)
      (parts : TxnParts (Course C) (Spanned O)) (next : Course C) → IsNextSpan client parts.client next → client.tells ≡ true
      → StandsAt client origin stage setup plugins_at number notes parts.client
      → IsNoteOf client origin stage setup plugins_at number (request_of client parts)
      (response_of client parts) note
      → note.place ≡ parts.client.place
      → StandsAt client origin stage setup plugins_at number (notes ++ note ∷ []) next
  next_stands number notes note parts next goes tells stands is place =
      let behind = goes.behind tells in
      let whole : request_of client parts ≡ (shown client parts.client).given =
      ap (λ (l : List ℕ). (shown client parts.client).given ++ l) behind.no_left
      ∙ append-nil (shown client parts.client).given in
      let gave : (shown client next).before.0
      ≡ (shown client parts.client).before.0 ++ request_of client parts =
      behind.gave ∙ ap (λ (l : List ℕ). (shown client parts.client).before.0 ++ l) (sym whole) in
      let on : StandsBehind (IsNoteOf client origin stage setup plugins_at number) (λ n. n.place)
      (before_client client.look parts.client) (notes ++ note ∷ []) (parts.client.place + 1)
      (shown client next) =
      stands_on (IsNoteOf client origin stage setup plugins_at number) (λ n. n.place)
      (before_client client.look parts.client) notes note parts.client.place (request_of client parts)
      (response_of client parts) behind.sent (shown client parts.client) (shown client next) stands is place
      (subst IsRequest (sym whole) behind.request) behind.is_sent gave behind.took in
      subst (λ came. StandsBehind (IsNoteOf client origin stage setup plugins_at number) (λ n. n.place)
      came (notes ++ note ∷ []) next.place (shown client next)) (sym goes.since)
      (subst (λ p. StandsBehind (IsNoteOf client origin stage setup plugins_at number) (λ n. n.place)
      (before_client client.look parts.client) (notes ++ note ∷ []) p (shown client next))
      (sym goes.place_is) on)

  -- a span that is polled stands behind what it stood behind
  pub waits_behind : (number : ℕ) (notes : List (Noted O)) (old new : Course C) → IsSameSpan client old new
      → StandsAt client origin stage setup plugins_at number notes old
      → StandsAt client origin stage setup plugins_at number notes new
  waits_behind number notes old new same stands = record {
    requests = stands.requests;
    responses = stands.responses;
    history = stands.history;
    place_is = same.still.place ∙ stands.place_is;
    gave = ap (λ (b : List ℕ × List ℕ). b.0) same.before ∙ stands.gave
        ∙ ap (λ (c : C). (client.look c).before.0 ++ concat stands.requests) (sym same.still.begun);
    took = ap (λ (b : List ℕ × List ℕ). b.1) same.before ∙ stands.took
        ∙ ap (λ (c : C). (client.look c).before.1 ++ concat stands.responses) (sym same.still.begun);
  }

  -- ---- the end

  -- THE END of a client whose last transaction this was
  pub last_session : (notes : List (Noted O)) (parts : TxnParts (Course C) (Spanned O)) (c : C)
      → IsLastClient client parts.client c → client.tells ≡ true
      → StandsAt client origin stage setup plugins_at parts.number notes parts.client
      → HasSession client origin stage setup plugins_at notes parts c
  last_session notes parts c last tells stands =
      let session = last.session tells in record {
        stands = stands;
        rest = session.bytes;
        gave = behind_came (client.look c).before.0 (before_client client.look parts.client).0
            (all_of (client.look c)) (shown client parts.client).before.0 (concat stands.requests)
            session.bytes (ap (λ (b : List ℕ × List ℕ). b.0) last.since) session.gave stands.gave;
        next = session.request;
        sent = session.sent;
        is_sent = session.is_sent;
        rule = last.rule tells;
        took = behind_came (client.look c).before.1 (before_client client.look parts.client).1
            (client.look c).taken (shown client parts.client).before.1 (concat stands.responses) session.sent
            (ap (λ (b : List ℕ × List ℕ). b.1) last.since) session.took stands.took;
        within_head = session.within_head;
      }

  -- THE END of a client that waited: its last transaction was the one behind which it waited
  pub last_waiting : (notes : List (Noted O)) (parts : TxnParts (Course C) (Spanned O)) (next s : Course C)
      (c : C) → MayGoOn parts → IsNextSpan client parts.client next → IsSameSpan client next s
      → IsLastClient client s c → client.tells ≡ true → StandsAt client origin stage setup plugins_at parts.number notes parts.client
      → HasSession client origin stage setup plugins_at notes parts c
  last_waiting notes parts next s c went goes same last tells stands =
      let behind = goes.behind tells in
      let session = last.session tells in
      let whole : request_of client parts ≡ (shown client parts.client).given =
      ap (λ (l : List ℕ). (shown client parts.client).given ++ l) behind.no_left
      ∙ append-nil (shown client parts.client).given in
      let no_taken : (shown client s).taken ≡ [] = same.taken tells ∙ behind.no_taken in
      let no_sent : session.sent ≡ [] =
      none_sent (is_dropped s.response.sending) (waiting s.response.sending) session.sent
      (subst (λ (t : List ℕ). IsSent (is_dropped s.response.sending) (waiting s.response.sending) t
      session.sent) no_taken session.is_sent) in
      let came : (client.look c).before ≡ before_client client.look parts.client =
      last.since ∙ ap (λ (k : C). (client.look k).before) same.still.begun ∙ goes.since in
      let gave : (shown client s).before.0
      ≡ (before_client client.look parts.client).0 ++ (concat stands.requests ++ request_of client parts) =
      ap (λ (b : List ℕ × List ℕ). b.0) same.before ∙ behind.gave
      ∙ ap₂ (λ (a b : List ℕ). a ++ b) stands.gave (sym whole)
      ∙ append_assoc (before_client client.look parts.client).0 (concat stands.requests)
      (request_of client parts) in
      let took : (shown client s).before.1
      ≡ (before_client client.look parts.client).1 ++ (concat stands.responses ++ behind.sent) =
      ap (λ (b : List ℕ × List ℕ). b.1) same.before ∙ behind.took
      ∙ ap (λ (l : List ℕ). l ++ behind.sent) stands.took
      ∙ append_assoc (before_client client.look parts.client).1 (concat stands.responses) behind.sent in
      record {
        stands = stands;
        rest = request_of client parts ++ session.bytes;
        gave = behind_came (client.look c).before.0 (before_client client.look parts.client).0
            (all_of (client.look c)) (shown client s).before.0
            (concat stands.requests ++ request_of client parts) session.bytes
            (ap (λ (b : List ℕ × List ℕ). b.0) came) session.gave gave
            ∙ append_assoc (concat stands.requests) (request_of client parts) session.bytes;
        next = sym (finds_first.whole (request_of client parts) session.bytes
            (subst IsRequest (sym whole) behind.request));
        sent = behind.sent;
        is_sent = subst (λ (d : Bool). IsSent d (waiting parts.client.response.sending)
            (response_of client parts) behind.sent) (sym went.dropped) behind.is_sent;
        rule = λ dropped. goes.rule tells;
        took = behind_came (client.look c).before.1 (before_client client.look parts.client).1
            (client.look c).taken (shown client s).before.1 (concat stands.responses ++ behind.sent)
            session.sent (ap (λ (b : List ℕ × List ℕ). b.1) came) session.took took
            ∙ ap (λ (l : List ℕ). (concat stands.responses ++ behind.sent) ++ l) no_sent
            ∙ append-nil (concat stands.responses ++ behind.sent);
        within_head = λ ended. none_waits parts.client.response.sending went.dropped;
      }

  -- AND NOTHING IS LEFT OVER, once its poll has answered that it has ended or that it failed
  pub last_spent : (notes : List (Noted O)) (r : Retired C O)
      (last : IsLastOf client origin stage setup plugins_at r) (next s : Course C) → MayGoOn last.parts
      → IsNextSpan client last.parts.client next → IsSameSpan client next s → IsLastClient client s r.parts.client
      → (client.tells ≡ true
      → StandsAt client origin stage setup plugins_at last.parts.number notes last.parts.client)
      → HasEnded client s ⊎ Rose (shown client next).faults (shown client s).faults
      → IsSpent client origin stage setup plugins_at notes r
  unfolding last_waiting
  last_spent notes r last next s went goes same is stands answered = record {
    session = record {
      last = last;
      told = λ tells. last_waiting notes last.parts next s r.parts.client went goes same is tells
          (stands tells);
    };
    spent = λ tells goes_on. ⊎_elim
        (λ (ended : HasEnded client s). inl (
        ap (λ (l : List ℕ). request_of client last.parts ++ l)
        (no_more client s r.parts.client is tells (same.given tells ∙ (goes.behind tells).no_given)
        ended.none_left)
        ∙ append-nil (request_of client last.parts)))
        (λ (rose : Rose (shown client next).faults (shown client s).faults).
        let counted = counts_left client origin stage setup plugins_at last.parts r.journal last.done in
        let faults : r.parts.client_faults ≡ last.parts.client_faults =
        ap (λ (p : TxnParts C O). p.client_faults) last.parts_are in
        let begun : (shown client next).faults ≡ (shown client last.parts.client).faults =
        ap (λ (c : C). (client.look c).faults) goes.client_is in
        let now : (client.look r.parts.client).faults ≡ (shown client s).faults =
        ap (λ (c : C). (client.look c).faults) is.client_is in
        inr (subst (λ n. (r.parts.client_faults < n) ⊎ (greatest ≤ n)) (sym now)
        (rose_since r.parts.client_faults (shown client next).faults (shown client s).faults
        (omega (arith, counted, faults, begun)) rose)))
        answered;
  }
