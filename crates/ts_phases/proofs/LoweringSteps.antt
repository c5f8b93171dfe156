-- Each step up to the head lowers what a transaction has left to do.
use Rattle.std.proofs.Common.{zero-le, ◌≡◌, ℕ, ◌+◌, ◌-◌, ◌*◌, ◌<◌, ◌≤◌, List, ◌++◌, length, Bool, true, false}
use Rattle.std.proofs.Common.{suc, arith, refl, sym, ap, subst, ◌∙◌, length-append}
use Rattle.std.proofs.Math.Nat.{add-le-add, le_refl}
use Rattle.std.specs.Prelude.{Option, Some, ⊤}
use Rattle.ts_config.specs.declared.setup.Setup.{Setup}
use Rattle.ts_hooks.specs.declared.txn_end.TxnEnd.{TxnEnd}
use Rattle.ts_link.specs.Link.{AgainsFall, Fewer, NoMore}
use Rattle.ts_upstream.specs.Uploads.{Rose8, both, taken_since}
use Rattle.ts_vconn.specs.declared.moves.Pulled.{Pulled}
use Rattle.ts_vconn.specs.declared.moves.Pushed.{Pushed}
use Rattle.ts_vconn.specs.MoveAnswers.{pull_again, push_again}
use Rattle.ts_hooks.specs.declared.hook.Hook.TheVariants as hook
use Rattle.ts_wire.specs.declared.fields.Field.{Field}
use Rattle.ts_wire.specs.declared.heads.RequestHead.{RequestHead}
use Rattle.ts_wire.specs.declared.heads.ResponseHead.{ResponseHead}
use Rattle.ts_block.specs.Block.{own_text, request_text}
use Rattle.ts_block.specs.Own.{own_body, own_sent}
use Rattle.ts_phases.specs.View.{LinkSide, View}
use Rattle.ts_phases.specs.Moving.{SeeksRequest, SeeksResponse, QueuesOwn, QueuesRequest, SideReads}
use Rattle.ts_phases.specs.Moving.{WritesClient, WritesOrigin}
use Rattle.ts_phases.specs.Lowering.{agains_left, all_asks, answer_room, answer_work, asks_at, asks_left}
use Rattle.ts_phases.specs.Lowering.{chain_room, end_room, enter_left, enter_work, head_room, own_length}
use Rattle.ts_phases.specs.Lowering.{own_room, phase_work, pump_weight, sending_asks, to_ask, to_hear}
use Rattle.ts_phases.specs.Lowering.{upload_in, work_left, written_weight}
use Rattle.ts_block.specs.declared.own_answer.OwnStatus.{OwnStatus}
use Rattle.ts_block.specs.declared.own_answer.OwnStatus.TheVariants as O
use Rattle.ts_phases.specs.declared.phase.OwnAnswer.{OwnAnswer}
use Rattle.ts_phases.specs.declared.phase.Phase.{Phase}
use Rattle.ts_phases.specs.declared.phase.Phase.TheVariants as P
use Rattle.ts_phases.specs.declared.phase.Request.{Request}
use Rattle.ts_phases.specs.declared.head_reader.Found.TheVariants as F
use Rattle.ts_phases.proofs.Lowering.{comes_ask, comes_hear, first_falls, least_came, least_went, none_fall}
use Rattle.ts_phases.proofs.Lowering.{none_left, none_rise, one_if, read_comes, same_length, second_falls}
use Rattle.ts_phases.proofs.Lowering.{told_fewer, told_no_more, used_hear, went_some, write_hear}

-- ---- sums

at_first : (a b c d : ℕ) → a ≤ b → a ≤ b + c + d
at_first a b c d less = omega (arith, less)

-- less waits for the client, or there was an Again
pub sent_next : (i l x x' out out' : ℕ) → x' + i ≤ x → out' + l ≤ out → 1 ≤ l + i
    → 2 + (x' + out') < 2 + (x + out)
sent_next i l x x' out out' again went some = omega (arith, again, went, some)

-- a phase's part behind its rank
over_one : (s r a : ℕ) → s ≤ r → s + a ≤ r + a
over_one s r a least = omega (arith, least)

over_two : (s r a b : ℕ) → s ≤ r → s + a ≤ r + a + b
over_two s r a b least = omega (arith, least)

over_three : (s r a b c : ℕ) → s ≤ r → s + a ≤ r + (a + b + c)
over_three s r a b c least = omega (arith, least)

over_four : (s r a b c d : ℕ) → s ≤ r → s + a ≤ r + (a + b + c + d)
over_four s r a b c d least = omega (arith, least)

-- a rank with what is asked at one hook, at two of them, and at all three
asks_one : (s r n : ℕ) → s ≤ r → s + n ≤ r + n
asks_one s r n least = omega (arith, least)

asks_two : (s r m n : ℕ) → s ≤ r → s + n ≤ r + (m + n)
asks_two s r m n least = omega (arith, least)

asks_three : (s r l m n : ℕ) → s ≤ r → s + n ≤ r + (l + (m + n))
asks_three s r l m n least = omega (arith, least)

-- the next rank, with what is asked behind it
one_less : (r s n : ℕ) → s < r → s + n < r + n
one_less r s n ranks = omega (arith, ranks)

hook_less : (r s m n : ℕ) → s < r → s + n < r + (m + n)
hook_less r s m n ranks = omega (arith, ranks)

-- a write to a client that tells its bytes
pub client_told : (t : Bool) (v w : View) (p : Pushed) → t ≡ true → WritesClient t v w p
    → WritesClient true v w p
client_told t v w p told writes = subst (λ (b : Bool). WritesClient b v w p) told writes

-- ---- what the phases up to the answer have left

one_of : (f : OwnStatus → ℕ) (s : OwnStatus) → f s ≤ f O.BadRequest + f O.Forbidden + f O.NotImplemented + f
    O.BadGateway
one_of f O.BadRequest = omega arith
one_of f _ = omega arith

-- no answer of the proxy's own was queued yet
abbrev pub IsEarly : Phase → Type 0
IsEarly (P.RuleResponse q h place fields) = ⊥
IsEarly (P.SendResponseHdr a) = ⊥
IsEarly (P.RuleAnswer a place fields) = ⊥
IsEarly (P.Sending a) = ⊥
IsEarly (P.TxnClose end) = ⊥
IsEarly (P.Ended end) = ⊥
IsEarly _ = ⊤

module _ (setup : Setup) where
  -- an answer of the proxy's own has room among all of them
  own_within : (s : OwnStatus) → own_length setup s ≤ answer_room setup
  own_within s = at_first (own_length setup s) (own_room setup) (head_room setup + end_room)
      (pump_weight * chain_room setup) (one_of (own_length setup) s)

  module _ (x y : ℕ) (v : View) where
    -- what the answer has before it
    abbrev least : ℕ
    least = 5 + asks_at setup hook.SendResponseHdr

    under_one : (r : ℕ) → 5 ≤ r → least ≤ r + asks_at setup hook.SendResponseHdr
    under_one r ranks = asks_one 5 r (asks_at setup hook.SendResponseHdr) ranks

    under_two : (r m : ℕ) → 5 ≤ r → least ≤ r + (m + asks_at setup hook.SendResponseHdr)
    under_two r m ranks = asks_two 5 r m (asks_at setup hook.SendResponseHdr) ranks

    under_all : (r l : ℕ) → 5 ≤ r → least ≤ r + (l + sending_asks setup)
    under_all r l ranks = asks_three 5 r l (asks_at setup hook.SendRequestHdr)
        (asks_at setup hook.SendResponseHdr) ranks

    -- how long the head of a request is that the origin gets
    abbrev text_long : Request → ℕ
    text_long q = length (request_text setup q.head q.target q.host)

    -- what so many bytes that are to be written weigh, behind those that wait
    abbrev long : ℕ → ℕ
    long n = written_weight * (length v.origin.outbox + n)

    -- all of them have the answer before them, and what is asked about that
    above : (p : Phase) → IsEarly p
        → 5 + asks_at setup hook.SendResponseHdr + answer_work setup x y v ≤ phase_work setup x y v p
    above P.Fresh early = over_four least (18 + all_asks setup) (answer_work setup x y v) y
        (long (head_room setup)) (to_ask v.client) (under_all 18 (asks_at setup hook.OsDns) (omega arith))
    above P.TxnStart early = over_four least (17 + all_asks setup) (answer_work setup x y v) y
        (long (head_room setup)) (to_ask v.client) (under_all 17 (asks_at setup hook.OsDns) (omega arith))
    above P.ReadRequest early = over_four least (16 + all_asks setup) (answer_work setup x y v) y
        (long (head_room setup)) (to_ask v.client) (under_all 16 (asks_at setup hook.OsDns) (omega arith))
    above (P.ReadRequestHdr q) early = over_three least (15 + all_asks setup) (answer_work setup x y v) y
        (long (text_long q)) (under_all 15 (asks_at setup hook.OsDns) (omega arith))
    above (P.OsDns q place) early =
        over_three least (14 + (asks_left setup hook.OsDns place + sending_asks setup))
        (answer_work setup x y v) y (long (text_long q))
        (under_all 14 (asks_left setup hook.OsDns place) (omega arith))
    above (P.SendRequestHdr q) early = over_three least (13 + sending_asks setup) (answer_work setup x y v) y
        (long (text_long q)) (under_two 13 (asks_at setup hook.SendRequestHdr) (omega arith))
    above (P.RuleRequest q place fields) early =
        over_three least
        (12 + (asks_left setup hook.SendRequestHdr place + asks_at setup hook.SendResponseHdr))
        (answer_work setup x y v) y (long (text_long q))
        (under_two 12 (asks_left setup hook.SendRequestHdr place) (omega arith))
    above (P.SendRequest q) early = over_three least (11 + asks_at setup hook.SendResponseHdr)
        (answer_work setup x y v) y (long 0) (under_one 11 (omega arith))
    above (P.Upload q) early = over_two least (10 + asks_at setup hook.SendResponseHdr)
        (answer_work setup x y v) y (under_one 10 (omega arith))
    above (P.ReadResponse q) early = over_one least (9 + asks_at setup hook.SendResponseHdr)
        (answer_work setup x y v) (under_one 9 (omega arith))
    above (P.ReadResponseHdr q h) early = over_one least (8 + asks_at setup hook.SendResponseHdr)
        (answer_work setup x y v) (under_one 8 (omega arith))
    above (P.ResponseTransform q h) early = over_one least (7 + asks_at setup hook.SendResponseHdr)
        (answer_work setup x y v) (under_one 7 (omega arith))
    above _ early = absurd early

  -- ---- nothing rose

  pub record Calm (b : Bool) (v w : View) : Type 0 where
    pub again : AgainsFall b (agains_left v) (agains_left w)
    pub out : length w.client.outbox ≤ length v.client.outbox
    pub hear : to_hear setup w.origin ≤ to_hear setup v.origin

  -- where nothing moved, or a call moved one side
  pub stays_calm : (v w : View) → w ≡ v → Calm false v w
  stays_calm v w same = subst (λ (x : View). Calm false v x) (sym same)
      (record {
        again = none_fall (agains_left v);
        out = le_refl (length v.client.outbox);
        hear =
            le_refl (to_hear setup v.origin);
      })

  client_calm : (b : Bool) (v w : View) (s : LinkSide) → w ≡ record v { client = s }
      → AgainsFall b v.client.look.agains s.look.agains
      → length s.outbox ≤ length v.client.outbox → Calm b v w
  client_calm b v w s same again out = subst (λ (x : View). Calm b v x) (sym same)
      (record {
        again = first_falls b v.client.look.agains s.look.agains v.origin.look.agains again;
        out =
            out;
        hear = le_refl (to_hear setup v.origin);
      })

  origin_calm : (b : Bool) (v w : View) (s : LinkSide) → w ≡ record v { origin = s }
      → AgainsFall b v.origin.look.agains s.look.agains
      → to_hear setup s ≤ to_hear setup v.origin → Calm b v w
  origin_calm b v w s same again hear = subst (λ (x : View). Calm b v x) (sym same)
      (record {
        again = second_falls b v.client.look.agains v.origin.look.agains s.look.agains again;
        out =
            le_refl (length v.client.outbox);
        hear = hear;
      })

  -- ---- where a step leads that raised nothing

  module _ (b : Bool) (k : ℕ) (v w : View) (u u' : Option ℕ) (calm : Calm b v w) (rose : Rose8 u u' k) where
    -- where the sums of two phases fall, what is left falls
    pub work_falls : (p p' : Phase) → Rose8 (upload_in u p) (upload_in u' p') k
        → ((x x' y y' : ℕ) → x' + one_if b ≤ x → y' ≤ y + 8 * k
        → phase_work setup x' y' w p' < phase_work setup x y v p)
        → Fewer (work_left setup u v p) (work_left setup u' w p')
    work_falls p p' risen falls = told_fewer (λ x y. phase_work setup x y v p)
        (λ x y. phase_work setup x y w p') b k (agains_left v) (agains_left w) (upload_in u p)
        (upload_in u' p') calm.again risen falls

    -- to an answer of the proxy's own
    own_next : (n i x x' out out' room hear own all : ℕ) → x' + i ≤ x → out' ≤ out → own ≤ room
        → 5 + n + (x + out + room + hear) ≤ all → 4 + n + (x' + out' + own) < all
    own_next n i x x' out out' room hear own all again less fits least =
        omega (arith, again, less, fits, least)

    pub to_own : (p : Phase) (a : OwnAnswer) → IsEarly p → Fewer (work_left setup u v p)
        (work_left setup u' w (P.SendResponseHdr a))
    to_own p a early = work_falls p (P.SendResponseHdr a) (none_left (upload_in u p) k)
        (λ x x' y y' again upload.
        own_next (asks_at setup hook.SendResponseHdr) (one_if b) x x' (length v.client.outbox)
        (length w.client.outbox) (answer_room setup) (to_hear setup v.origin) (own_length setup a.status)
        (phase_work setup x y v p) again calm.out (own_within a.status) (above x y v p early))

    -- to the close
    close_next : (n a all : ℕ) → 5 + n + a ≤ all → 1 < all
    close_next n a all least = omega (arith, least)

    close_sent : (a : ℕ) → 1 < 2 + a
    close_sent a = omega arith

    pub to_close : (p : Phase) (end : TxnEnd) → IsEarly p → Fewer (work_left setup u v p)
        (work_left setup u' w (P.TxnClose end))
    to_close p end early = work_falls p (P.TxnClose end) (none_left (upload_in u p) k)
        (λ x x' y y' again upload. close_next (asks_at setup hook.SendResponseHdr) (answer_work setup x y v)
        (phase_work setup x y v p) (above x y v p early))

    pub sent_close : (a : OwnAnswer) (end : TxnEnd) → Fewer (work_left setup u v (P.Sending a))
        (work_left setup u' w (P.TxnClose end))
    sent_close a end = work_falls (P.Sending a) (P.TxnClose end) (none_left (Some 0) k)
        (λ x x' y y' again upload. close_sent (x + length v.client.outbox))

    -- to the end
    pub to_end : (p : Phase) (end : TxnEnd) → NoMore (work_left setup u v p)
        (work_left setup u' w (P.Ended end))
    to_end p end = told_no_more (λ x y. phase_work setup x y v p)
        (λ x y. phase_work setup x y w (P.Ended end)) b k (agains_left v) (agains_left w) (upload_in u p)
        (Some 0) calm.again (none_left (upload_in u p) k)
        (λ x x' y y' again upload. zero-le)

    -- from one phase that has only the answer before it to the next
    answer_next : (r s i x x' out out' room hear hear' : ℕ) → s < r → x' + i ≤ x → out' ≤ out → hear' ≤ hear
        → s + (x' + out' + room + hear') < r + (x + out + room + hear)
    answer_next r s i x x' out out' room hear hear' ranks again less heard =
        omega (arith, ranks, again, less, heard)

    upload_next : (r s i x x' out out' room hear hear' y : ℕ) → s < r → x' + i ≤ x → out' ≤ out → hear' ≤ hear
        → s + (x' + out' + room + hear') < r + (x + out + room + hear) + y
    upload_next r s i x x' out out' room hear hear' y ranks again less heard =
        omega (arith, ranks, again, less, heard)

    -- the phases from the upload to the head that is passed on
    pub upload_done : (q : Request) → Fewer (work_left setup u v (P.Upload q))
        (work_left setup u' w (P.ReadResponse q))
    upload_done q = work_falls (P.Upload q) (P.ReadResponse q) (none_left u k) (λ x x' y y' again upload.
        upload_next (10 + asks_at setup hook.SendResponseHdr) (9 + asks_at setup hook.SendResponseHdr)
        (one_if b) x x' (length v.client.outbox) (length w.client.outbox) (answer_room setup)
        (to_hear setup v.origin) (to_hear setup w.origin) y
        (one_less 10 9 (asks_at setup hook.SendResponseHdr) (omega arith)) again calm.out calm.hear)

    pub response_heard : (q : Request) (h : ResponseHead) → Fewer (work_left setup u v (P.ReadResponse q))
        (work_left setup u' w (P.ReadResponseHdr q h))
    response_heard q h = work_falls (P.ReadResponse q) (P.ReadResponseHdr q h) (none_left (Some 0) k)
        (λ x x' y y' again upload.
        answer_next (9 + asks_at setup hook.SendResponseHdr) (8 + asks_at setup hook.SendResponseHdr)
        (one_if b) x x' (length v.client.outbox) (length w.client.outbox) (answer_room setup)
        (to_hear setup v.origin) (to_hear setup w.origin)
        (one_less 9 8 (asks_at setup hook.SendResponseHdr) (omega arith)) again calm.out calm.hear)

    pub response_passed : (q : Request) (h : ResponseHead) → Fewer
        (work_left setup u v (P.ReadResponseHdr q h)) (work_left setup u' w (P.ResponseTransform q h))
    response_passed q h = work_falls (P.ReadResponseHdr q h) (P.ResponseTransform q h) (none_left (Some 0) k)
        (λ x x' y y' again upload.
        answer_next (8 + asks_at setup hook.SendResponseHdr) (7 + asks_at setup hook.SendResponseHdr)
        (one_if b) x x' (length v.client.outbox) (length w.client.outbox) (answer_room setup)
        (to_hear setup v.origin) (to_hear setup w.origin)
        (one_less 8 7 (asks_at setup hook.SendResponseHdr) (omega arith)) again calm.out calm.hear)

  -- ---- the phases in which nothing moves

  module _ (v : View) (u : Option ℕ) where
    -- where nothing moved, a phase with less ahead has less left
    same_less : (p p' : Phase) → Rose8 (upload_in u p) (upload_in u p') 0
        → ((x x' y y' : ℕ) → x' + one_if false ≤ x → y' ≤ y + 8 * 0
        → phase_work setup x' y' v p' < phase_work setup x y v p)
        → Fewer (work_left setup u v p) (work_left setup u v p')
    same_less p p' risen falls = work_falls false 0 v v u u (stays_calm v v refl) (none_rise u) p p' risen
        falls

    ask_next : (r s i x x' out room hear y y' z t : ℕ) → s < r → x' + i ≤ x → y' ≤ y + 8 * 0
        → s + (x' + out + room + hear + y' + z + t) < r + (x + out + room + hear + y + z + t)
    ask_next r s i x x' out room hear y y' z t ranks again upload = omega (arith, ranks, again, upload)

    text_next : (r s i x x' out room hear y y' z : ℕ) → s < r → x' + i ≤ x → y' ≤ y + 8 * 0
        → s + (x' + out + room + hear + y' + z) < r + (x + out + room + hear + y + z)
    text_next r s i x x' out room hear y y' z ranks again upload = omega (arith, ranks, again, upload)

    -- the phases before the request is sent
    pub begins : Fewer (work_left setup u v P.Fresh) (work_left setup u v P.TxnStart)
    begins = same_less P.Fresh P.TxnStart (none_rise u) (λ x x' y y' again upload.
        ask_next (18 + all_asks setup) (17 + all_asks setup) (one_if false) x x'
        (length v.client.outbox) (answer_room setup) (to_hear setup v.origin) y y'
        (written_weight * (length v.origin.outbox + head_room setup)) (to_ask v.client)
        (one_less 18 17 (all_asks setup) (omega arith)) again upload)

    pub started : Fewer (work_left setup u v P.TxnStart) (work_left setup u v P.ReadRequest)
    started = same_less P.TxnStart P.ReadRequest (none_rise u) (λ x x' y y' again upload.
        ask_next (17 + all_asks setup) (16 + all_asks setup) (one_if false) x x'
        (length v.client.outbox) (answer_room setup) (to_hear setup v.origin) y y'
        (written_weight * (length v.origin.outbox + head_room setup)) (to_ask v.client)
        (one_less 17 16 (all_asks setup) (omega arith)) again upload)

    pub request_read : (q : Request) → Fewer (work_left setup u v (P.ReadRequestHdr q))
        (work_left setup u v (P.OsDns q 0))
    request_read q = same_less (P.ReadRequestHdr q) (P.OsDns q 0) (none_rise u) (λ x x' y y' again upload.
        text_next (15 + all_asks setup) (14 + all_asks setup) (one_if false) x x' (length v.client.outbox)
        (answer_room setup) (to_hear setup v.origin) y y'
        (written_weight * (length v.origin.outbox + length (request_text setup q.head q.target q.host)))
        (one_less 15 14 (all_asks setup) (omega arith)) again upload)

    pub request_goes : (q : Request) (place : ℕ) → Fewer (work_left setup u v (P.OsDns q place))
        (work_left setup u v (P.SendRequestHdr q))
    request_goes q place = same_less (P.OsDns q place) (P.SendRequestHdr q) (none_rise u)
        (λ x x' y y' again upload.
        text_next (14 + (asks_left setup hook.OsDns place + sending_asks setup)) (13 + sending_asks setup)
        (one_if false) x x' (length v.client.outbox) (answer_room setup) (to_hear setup v.origin) y y'
        (written_weight * (length v.origin.outbox + length (request_text setup q.head q.target q.host)))
        (hook_less 14 13 (asks_left setup hook.OsDns place) (sending_asks setup) (omega arith)) again upload)

    -- where nothing moved, and a phase has no less ahead, no more is left
    same_more : (p p' : Phase) → Rose8 (upload_in u p) (upload_in u p') 0
        → ((x x' y y' : ℕ) → x' + one_if false ≤ x → y' ≤ y + 8 * 0
        → phase_work setup x' y' v p' ≤ phase_work setup x y v p)
        → NoMore (work_left setup u v p) (work_left setup u v p')
    same_more p p' risen falls = told_no_more (λ x y. phase_work setup x y v p)
        (λ x y. phase_work setup x y v p') false 0 (agains_left v) (agains_left v) (upload_in u p)
        (upload_in u p') (none_fall (agains_left v)) risen falls

    text_begins : (i x x' out room hear y y' z m n : ℕ) → x' + i ≤ x → y' ≤ y + 8 * 0
        → 12 + (m + n) + (x' + out + room + hear + y' + z) ≤ 13 + (m + n) + (x + out + room + hear + y + z)
    text_begins i x x' out room hear y y' z m n again upload = omega (arith, again, upload)

    answer_begins : (i x x' out room hear n : ℕ) → x' + i ≤ x
        → n + (6 + (x' + out + room + hear)) ≤ 7 + n + (x + out + room + hear)
    answer_begins i x x' out room hear n again = omega (arith, again)

    own_begins : (i x x' out own n : ℕ) → x' + i ≤ x → 3 + n + (x' + out + own) ≤ 4 + n + (x + out + own)
    own_begins i x x' out own n again = omega (arith, again)

    enter_begins : (i x x' out room hear n : ℕ) → x' + i ≤ x
        → 6 + (x' + out + room + hear) ≤ n + (6 + (x + out + room + hear))
    enter_begins i x x' out room hear n again = omega (arith, again)

    -- the first plugin of a hook is asked
    pub request_asked : (q : Request) (fields : List Field)
        → NoMore (work_left setup u v (P.SendRequestHdr q))
        (work_left setup u v (P.RuleRequest q 0 fields))
    request_asked q fields = same_more (P.SendRequestHdr q) (P.RuleRequest q 0 fields) (none_rise u)
        (λ x x' y y' again upload. text_begins (one_if false) x x' (length v.client.outbox)
        (answer_room setup) (to_hear setup v.origin) y y'
        (written_weight * (length v.origin.outbox + length (request_text setup q.head q.target q.host)))
        (asks_at setup hook.SendRequestHdr) (asks_at setup hook.SendResponseHdr) again upload)

    pub response_asked : (q : Request) (h : ResponseHead) (fields : List Field)
        → NoMore (work_left setup u v (P.ResponseTransform q h))
        (work_left setup u v (P.RuleResponse q h 0 fields))
    response_asked q h fields = same_more (P.ResponseTransform q h) (P.RuleResponse q h 0 fields)
        (none_left (Some 0) 0) (λ x x' y y' again upload. answer_begins (one_if false) x x'
        (length v.client.outbox) (answer_room setup) (to_hear setup v.origin)
        (asks_at setup hook.SendResponseHdr) again)

    pub own_asked : (a : OwnAnswer) (fields : List Field) → NoMore (work_left setup u v (P.SendResponseHdr a))
        (work_left setup u v (P.RuleAnswer a 0 fields))
    own_asked a fields = same_more (P.SendResponseHdr a) (P.RuleAnswer a 0 fields) (none_left (Some 0) 0)
        (λ x x' y y' again upload. own_begins (one_if false) x x' (length v.client.outbox)
        (own_length setup a.status) (asks_at setup hook.SendResponseHdr) again)

    -- none is left, and a body begins
    pub body_begins : (q : Request) (h : ResponseHead) (place : ℕ) (fields : List Field)
        → NoMore (work_left setup u v (P.RuleResponse q h place fields)) (enter_left setup v)
    body_begins q h place fields = told_no_more
        (λ x y. phase_work setup x y v (P.RuleResponse q h place fields)) (λ x y. enter_work setup x y v) false 0 (agains_left v) (agains_left v) (Some 0) (Some 0)
        (none_fall (agains_left v)) (none_left (Some 0) 0)
        (λ x x' y y' again upload. enter_begins (one_if false) x x' (length v.client.outbox)
        (answer_room setup) (to_hear setup v.origin) (asks_left setup hook.SendResponseHdr place) again)

    -- a plugin has answered, and one less is left to ask
    asks_fewer : (r k l s : ℕ) → k ≡ suc l → r + (l + s) < r + (k + s)
    asks_fewer r k l s one = omega (arith, one)

    enter_fewer : (i x x' out room hear k l : ℕ) → x' + i ≤ x → k ≡ suc l
        → l + (6 + (x' + out + room + hear)) < k + (6 + (x + out + room + hear))
    enter_fewer i x x' out room hear k l again one = omega (arith, again, one)

    own_fewer : (i x x' out own k l : ℕ) → x' + i ≤ x → k ≡ suc l
        → 3 + l + (x' + out + own) < 3 + k + (x + out + own)
    own_fewer i x x' out own k l again one = omega (arith, again, one)

    pub dns_answered : (q : Request) (place : ℕ)
        → asks_left setup hook.OsDns place ≡ suc (asks_left setup hook.OsDns (place + 1))
        → Fewer (work_left setup u v (P.OsDns q place)) (work_left setup u v (P.OsDns q (place + 1)))
    dns_answered q place one = same_less (P.OsDns q place) (P.OsDns q (place + 1)) (none_rise u)
        (λ x x' y y' again upload.
        text_next (14 + (asks_left setup hook.OsDns place + sending_asks setup))
        (14 + (asks_left setup hook.OsDns (place + 1) + sending_asks setup)) (one_if false) x x'
        (length v.client.outbox) (answer_room setup) (to_hear setup v.origin) y y'
        (written_weight * (length v.origin.outbox + length (request_text setup q.head q.target q.host)))
        (asks_fewer 14 (asks_left setup hook.OsDns place) (asks_left setup hook.OsDns (place + 1))
        (sending_asks setup) one) again upload)

    pub request_answered : (q : Request) (place : ℕ) (fields after : List Field)
        → asks_left setup hook.SendRequestHdr place ≡ suc (asks_left setup hook.SendRequestHdr (place + 1))
        → Fewer (work_left setup u v (P.RuleRequest q place fields))
        (work_left setup u v (P.RuleRequest q (place + 1) after))
    request_answered q place fields after one = same_less (P.RuleRequest q place fields)
        (P.RuleRequest q (place + 1) after) (none_rise u) (λ x x' y y' again upload.
        text_next (12 + (asks_left setup hook.SendRequestHdr place + asks_at setup hook.SendResponseHdr))
        (12 + (asks_left setup hook.SendRequestHdr (place + 1) + asks_at setup hook.SendResponseHdr))
        (one_if false) x x' (length v.client.outbox) (answer_room setup) (to_hear setup v.origin) y y'
        (written_weight * (length v.origin.outbox + length (request_text setup q.head q.target q.host)))
        (asks_fewer 12 (asks_left setup hook.SendRequestHdr place)
        (asks_left setup hook.SendRequestHdr (place + 1)) (asks_at setup hook.SendResponseHdr) one)
        again upload)

    pub response_answered : (q : Request) (h : ResponseHead) (place : ℕ) (fields after : List Field)
        → asks_left setup hook.SendResponseHdr place ≡ suc (asks_left setup hook.SendResponseHdr (place + 1))
        → Fewer (work_left setup u v (P.RuleResponse q h place fields))
        (work_left setup u v (P.RuleResponse q h (place + 1) after))
    response_answered q h place fields after one = same_less (P.RuleResponse q h place fields)
        (P.RuleResponse q h (place + 1) after) (none_left (Some 0) 0) (λ x x' y y' again upload.
        enter_fewer (one_if false) x x' (length v.client.outbox) (answer_room setup) (to_hear setup v.origin)
        (asks_left setup hook.SendResponseHdr place) (asks_left setup hook.SendResponseHdr (place + 1))
        again one)

    pub own_answered : (a : OwnAnswer) (place : ℕ) (fields after : List Field)
        → asks_left setup hook.SendResponseHdr place ≡ suc (asks_left setup hook.SendResponseHdr (place + 1))
        → Fewer (work_left setup u v (P.RuleAnswer a place fields))
        (work_left setup u v (P.RuleAnswer a (place + 1) after))
    own_answered a place fields after one = same_less (P.RuleAnswer a place fields)
        (P.RuleAnswer a (place + 1) after) (none_left (Some 0) 0) (λ x x' y y' again upload.
        own_fewer (one_if false) x x' (length v.client.outbox) (own_length setup a.status)
        (asks_left setup hook.SendResponseHdr place) (asks_left setup hook.SendResponseHdr (place + 1))
        again one)

  -- ---- the client's head is read

  long_less : (o o' n n' : ℕ) → o' + n' ≤ o + n → written_weight * (o' + n') ≤ written_weight * (o + n)
  long_less o o' n n' less = omega (arith, less)

  plus_same : (o o' n : ℕ) → o' ≤ o → o' + n ≤ o + n
  plus_same o o' n less = omega (arith, less)

  asks_again : (r i l x x' out out' room hear hear' y y' z z' t t' : ℕ) → x' + i ≤ x → y' ≤ y + 8 * 0
      → out' ≤ out → hear' ≤ hear → z' ≤ z → t' + l ≤ t → 1 ≤ l + i
      → r + (x' + out' + room + hear' + y' + z' + t') < r + (x + out + room + hear + y + z + t)
  asks_again r i l x x' out out' room hear hear' y y' z z' t t' again upload less heard long read some =
      omega (arith, again, upload, less, heard, long, read, some)

  asked_next : (n i x x' out out' room hear hear' y y' z z' t : ℕ) → x' + i ≤ x → y' ≤ y + 8 * 0
      → out' ≤ out → hear' ≤ hear → z' ≤ z
      → 15 + n + (x' + out' + room + hear' + y' + z') < 16 + n + (x + out + room + hear + y + z + t)
  asked_next n i x x' out out' room hear hear' y y' z z' t again upload less heard long =
      omega (arith, again, upload, less, heard, long)

  module _ (v w : View) where
    -- a read of the client leaves what waits for the origin
    unsent : w ≡ record v { client = w.client } → length w.origin.outbox ≤ length v.origin.outbox
    unsent same = same_length v.origin.outbox w.origin.outbox (ap (λ (x : View). x.origin.outbox) same)

    -- nor does it raise anything, with or without a head
    pub asks_calm : (p : Pulled) → SeeksRequest true v w (F.Read p) → Calm (pull_again p) v w
    asks_calm p hears = client_calm (pull_again p) v w w.client hears.others
        hears.finds.1.pulls.pulls.calls.agains
        (same_length v.client.outbox w.client.outbox hears.finds.1.outbox)

    pub head_calm : (head : RequestHead) → SeeksRequest true v w (F.Head head) → Calm false v w
    head_calm head hears = client_calm false v w w.client hears.others
        (subst (λ (s : LinkSide). AgainsFall false v.client.look.agains s.look.agains) (sym hears.finds.2)
        (none_fall v.client.look.agains))
        (same_length v.client.outbox w.client.outbox (ap (λ (s : LinkSide). s.outbox) hears.finds.2))

  module _ (v w : View) (u u' : Option ℕ) (rose : Rose8 u u' 0) where
    -- some of it came, or there was an Again
    pub asks_on : (p : Pulled) → 1 ≤ least_came p + one_if (pull_again p) → SeeksRequest true v w (F.Read p)
        → Fewer (work_left setup u v P.ReadRequest) (work_left setup u' w P.ReadRequest)
    asks_on p some hears =
        let calm = asks_calm v w p hears in
        let come = comes_ask v.client w.client (least_came p) (read_comes v.client w.client p hears.finds.1)
        in
        let sends = unsent v w hears.others in
        work_falls (pull_again p) 0 v w u u' calm rose P.ReadRequest P.ReadRequest rose
        (λ x x' y y' again upload.
        asks_again (16 + all_asks setup) (one_if (pull_again p)) (least_came p) x x' (length v.client.outbox)
        (length w.client.outbox) (answer_room setup)
        (to_hear setup v.origin) (to_hear setup w.origin) y y'
        (written_weight * (length v.origin.outbox + head_room setup))
        (written_weight * (length w.origin.outbox + head_room setup))
        (to_ask v.client) (to_ask w.client) again upload calm.out calm.hear
        (long_less (length v.origin.outbox) (length w.origin.outbox) (head_room setup) (head_room setup)
        (plus_same (length v.origin.outbox) (length w.origin.outbox) (head_room setup) sends))
        come some)

    -- a head that passes the check was found, and what the origin gets of it is no longer than a head may be
    pub asked : (head : RequestHead) (q : Request) → length (request_text setup q.head q.target q.host)
        ≤ head_room setup → SeeksRequest true v w (F.Head head)
        → Fewer (work_left setup u v P.ReadRequest) (work_left setup u' w (P.ReadRequestHdr q))
    asked head q fits hears =
        let calm = head_calm v w head hears in
        let sends = unsent v w hears.others in
        let text = length (request_text setup q.head q.target q.host) in
        let longer : length w.origin.outbox + text ≤ length v.origin.outbox + head_room setup =
        add-le-add sends fits in
        work_falls false 0 v w u u' calm rose P.ReadRequest (P.ReadRequestHdr q) rose
        (λ x x' y y' again upload.
        asked_next (all_asks setup) (one_if false) x x' (length v.client.outbox) (length w.client.outbox)
        (answer_room setup)
        (to_hear setup v.origin) (to_hear setup w.origin) y y'
        (written_weight * (length v.origin.outbox + head_room setup))
        (written_weight * (length w.origin.outbox + text))
        (to_ask v.client) again upload calm.out calm.hear
        (long_less (length v.origin.outbox) (length w.origin.outbox) (head_room setup) text longer))

  -- ---- the request is written

  queue_next : (k n i x x' out out' room hear hear' y y' z z' : ℕ) → x' + i ≤ x → y' ≤ y + 8 * 0
      → out' ≤ out → hear' ≤ hear → z' ≤ z
      → 11 + n + (x' + out' + room + hear' + y' + z') < 12 + (k + n) + (x + out + room + hear + y + z)
  queue_next k n i x x' out out' room hear hear' y y' z z' again upload less heard long =
      omega (arith, again, upload, less, heard, long)

  -- the head of the request is queued
  pub queued : (v w : View) (u u' : Option ℕ) (q : Request) (place : ℕ) (fields : List Field) → Rose8 u u' 0
      → QueuesRequest (request_text setup q.head q.target q.host) v w
      → Fewer (work_left setup u v (P.RuleRequest q place fields)) (work_left setup u' w (P.SendRequest q))
  queued v w u u' q place fields rose queues =
      let text = request_text setup q.head q.target q.host in
      let calm : Calm false v w = origin_calm false v w (record v.origin { outbox = v.origin.outbox ++ text })
      queues (none_fall v.origin.look.agains) (le_refl (to_hear setup v.origin)) in
      let len : length w.origin.outbox ≡ length v.origin.outbox + length text =
      ap (λ (x : View). length x.origin.outbox) queues ∙ length-append v.origin.outbox text in
      work_falls false 0 v w u u' calm rose (P.RuleRequest q place fields) (P.SendRequest q) rose
      (λ x x' y y' again upload.
      queue_next (asks_left setup hook.SendRequestHdr place) (asks_at setup hook.SendResponseHdr)
      (one_if false) x x' (length v.client.outbox) (length w.client.outbox) (answer_room setup)
      (to_hear setup v.origin) (to_hear setup w.origin) y y'
      (written_weight * (length v.origin.outbox + length text))
      (written_weight * (length w.origin.outbox + 0)) again upload calm.out calm.hear
      (long_less (length v.origin.outbox) (length w.origin.outbox) (length text) 0
      (end_less (length v.origin.outbox) (length w.origin.outbox) (length text) len)))
    where
      end_less : (o o' n : ℕ) → o' ≡ o + n → o' + 0 ≤ o + n
      end_less o o' n len = omega (arith, len)

  write_next : (r i l k x x' out out' room hear hear' y y' o o' : ℕ) → x' + i ≤ x → y' ≤ y + 8 * k
      → out' ≤ out
      → hear' ≤ hear → o' + k ≡ o → o' + l ≤ o → 1 ≤ l + i
      → r + (x' + out' + room + hear' + y' + written_weight * (o' + 0)) < r
      + (x + out + room + hear + y + written_weight * (o + 0))
  write_next r i l k x x' out out' room hear hear' y y' o o' again upload less heard went wrote some =
      omega (arith, again, upload, less, heard, went, wrote, some)

  written_next : (n i k x x' out out' room hear hear' y y' o o' : ℕ) → x' + i ≤ x → y' ≤ y + 8 * k
      → out' ≤ out → hear' ≤ hear → o' + k ≡ o → 10 + n + (x' + out' + room + hear') + y'
      < 11 + n + (x + out + room + hear + y + written_weight * (o + 0))
  written_next n i k x x' out out' room hear hear' y y' o o' again upload less heard went =
      omega (arith, again, upload, less, heard, went)

  -- what went is what the link took
  went_taken : (old new before after : List ℕ) → new ++ after ≡ old ++ before → length after ≤ length before
      → length after + (length new - length old) ≡ length before
  went_taken old new before after same less =
      let all : length new + length after ≡ length old + length before =
      sym (length-append new after) ∙ ap length same ∙ length-append old before in
      omega (arith, all, less)

  -- what is less by some is no more
  less_plus : (a b n : ℕ) → a + n ≤ b → a ≤ b
  less_plus a b n less = omega (arith, less)

  module _ (v w : View) (u u' : Option ℕ) (rose : Rose8 u u' (taken_since v.origin.look w.origin.look))
      (p : Pushed) (writes : WritesOrigin true v w p) where
    -- a write to the origin raises nothing
    pub write_calm : Calm (push_again p) v w
    write_calm = origin_calm (push_again p) v w w.origin writes.others writes.origin.pushes.calls.agains
        (write_hear setup v.origin w.origin p writes.origin)

    went_least : length w.origin.outbox + least_went p ≤ length v.origin.outbox
    went_least = went_some p v.origin.outbox w.origin.outbox writes.origin.pushes.went

    went_all : length w.origin.outbox + taken_since v.origin.look w.origin.look ≡ length v.origin.outbox
    went_all = went_taken v.origin.look.taken w.origin.look.taken v.origin.outbox w.origin.outbox
        (writes.origin.pushes.text refl)
        (less_plus (length w.origin.outbox) (length v.origin.outbox) (least_went p) went_least)

    -- some of it went, or there was an Again
    pub writes_on : (q : Request) → 1 ≤ least_went p + one_if (push_again p)
        → Fewer (work_left setup u v (P.SendRequest q)) (work_left setup u' w (P.SendRequest q))
    writes_on q some = work_falls (push_again p) (taken_since v.origin.look w.origin.look) v w u u' write_calm
        rose (P.SendRequest q) (P.SendRequest q) rose (λ x x' y y' again upload.
        write_next (11 + asks_at setup hook.SendResponseHdr) (one_if (push_again p)) (least_went p)
        (taken_since v.origin.look w.origin.look) x x'
        (length v.client.outbox) (length w.client.outbox) (answer_room setup)
        (to_hear setup v.origin) (to_hear setup w.origin) y y' (length v.origin.outbox)
        (length w.origin.outbox) again upload write_calm.out write_calm.hear went_all went_least some)

    -- all of it went, and the upload comes next
    pub written : (q : Request) → Fewer (work_left setup u v (P.SendRequest q))
        (work_left setup u' w (P.Upload q))
    written q = work_falls (push_again p) (taken_since v.origin.look w.origin.look) v w u u' write_calm rose
        (P.SendRequest q) (P.Upload q) rose (λ x x' y y' again upload.
        written_next (asks_at setup hook.SendResponseHdr) (one_if (push_again p))
        (taken_since v.origin.look w.origin.look) x x'
        (length v.client.outbox) (length w.client.outbox) (answer_room setup)
        (to_hear setup v.origin) (to_hear setup w.origin) y y' (length v.origin.outbox)
        (length w.origin.outbox) again upload write_calm.out write_calm.hear went_all)

    -- the origin's link failed, and an answer of the proxy's own comes next
    pub write_fails : (q : Request) (a : OwnAnswer) → Fewer (work_left setup u v (P.SendRequest q))
        (work_left setup u' w (P.SendResponseHdr a))
    write_fails q a = to_own (push_again p) (taken_since v.origin.look w.origin.look) v w u u' write_calm rose
        (P.SendRequest q) a tt

  -- ---- the origin's head is read

  hears_next : (r i l x x' out out' room hear hear' : ℕ) → x' + i ≤ x → out' ≤ out → hear' + l ≤ hear
      → 1 ≤ l + i
      → r + (x' + out' + room + hear') < r + (x + out + room + hear)
  hears_next r i l x x' out out' room hear hear' again less heard some =
      omega (arith, again, less, heard, some)

  module _ (v w : View) where
    -- a read of the origin raises nothing, whatever it found
    pub reads_calm : (p : Pulled) → w ≡ record v { origin = w.origin } → SideReads true v.origin w.origin p
        → Calm (pull_again p) v w
    reads_calm p others reads = origin_calm (pull_again p) v w w.origin others reads.pulls.pulls.calls.agains
        (less_plus (to_hear setup w.origin) (to_hear setup v.origin) (least_came p)
        (comes_hear setup v.origin w.origin (least_came p) (read_comes v.origin w.origin p reads)))

    pub hears_calm : (p : Pulled) → SeeksResponse true v w (F.Read p) → Calm (pull_again p) v w
    hears_calm p hears = reads_calm p hears.others hears.finds.1

    -- a head that was found is taken away in front
    head_used : (head : ResponseHead) → SeeksResponse true v w (F.Head head)
        → to_hear setup w.origin + 1 ≤ to_hear setup v.origin
    head_used head hears = used_hear setup v.origin w.origin 1
        (plus_one (length w.origin.inbox) (length v.origin.inbox) hears.finds.1)
        (same_length v.origin.look.left w.origin.look.left (ap (λ (s : LinkSide). s.look.left) hears.finds.2))
      where
        plus_one : (a b : ℕ) → a < b → a + 1 ≤ b
        plus_one a b less = omega (arith, less)

    pub heard_calm : (head : ResponseHead) → SeeksResponse true v w (F.Head head) → Calm false v w
    heard_calm head hears = origin_calm false v w w.origin hears.others
        (subst (λ (s : LinkSide). AgainsFall false v.origin.look.agains s.look.agains) (sym hears.finds.2)
        (none_fall v.origin.look.agains))
        (less_plus (to_hear setup w.origin) (to_hear setup v.origin) 1 (head_used head hears))

  module _ (v w : View) (u u' : Option ℕ) (rose : Rose8 u u' 0) where
    -- some of it came, or there was an Again
    pub hears_on : (q : Request) (p : Pulled) → 1 ≤ least_came p + one_if (pull_again p)
        → SeeksResponse true v w (F.Read p)
        → Fewer (work_left setup u v (P.ReadResponse q)) (work_left setup u' w (P.ReadResponse q))
    hears_on q p some hears =
        let calm = hears_calm v w p hears in
        work_falls (pull_again p) 0 v w u u' calm rose (P.ReadResponse q) (P.ReadResponse q)
        (none_left (Some 0) 0) (λ x x' y y' again upload.
        hears_next (9 + asks_at setup hook.SendResponseHdr) (one_if (pull_again p)) (least_came p) x x'
        (length v.client.outbox)
        (length w.client.outbox) (answer_room setup)
        (to_hear setup v.origin) (to_hear setup w.origin) again calm.out
        (comes_hear setup v.origin w.origin (least_came p) (read_comes v.origin w.origin p hears.finds.1))
        some)

    -- an interim head was dropped
    pub hears_interim : (q : Request) (head : ResponseHead) → SeeksResponse true v w (F.Head head)
        → Fewer (work_left setup u v (P.ReadResponse q)) (work_left setup u' w (P.ReadResponse q))
    hears_interim q head hears =
        let calm = heard_calm v w head hears in
        work_falls false 0 v w u u' calm rose (P.ReadResponse q) (P.ReadResponse q) (none_left (Some 0) 0)
        (λ x x' y y' again upload.
        hears_next (9 + asks_at setup hook.SendResponseHdr) (one_if false) 1 x x' (length v.client.outbox)
        (length w.client.outbox) (answer_room setup)
        (to_hear setup v.origin) (to_hear setup w.origin) again calm.out (head_used v w head hears)
        (omega arith))

  -- ---- an answer of the proxy's own

  own_queued : (k i x x' out out' own : ℕ) → x' + i ≤ x → out' ≤ out + own
      → 2 + (x' + out') < 3 + k + (x + out + own)
  own_queued k i x x' out out' own again more = omega (arith, again, more)

  -- what is sent of an answer is no longer than its body
  sent_within : (to_head : Bool) (s : OwnStatus) → length (own_sent to_head s) ≤ length (own_body s)
  sent_within true s = zero-le
  sent_within false s = le_refl (length (own_body s))

  -- it is queued whole
  pub own_text_queued : (v w : View) (u u' : Option ℕ) (a : OwnAnswer) (place : ℕ) (fields : List Field)
      → Rose8 u u' 0 → QueuesOwn (own_text setup a.status) (own_sent a.to_head a.status) v w
      → Fewer (work_left setup u v (P.RuleAnswer a place fields)) (work_left setup u' w (P.Sending a))
  own_text_queued v w u u' a place fields rose queues =
      let head = own_text setup a.status in
      let body = own_sent a.to_head a.status in
      let len : length w.client.outbox ≡ length v.client.outbox + length (head ++ body) =
      ap (λ (s : LinkSide). length s.outbox) queues.client ∙ length-append v.client.outbox (head ++ body) in
      let again : AgainsFall false (agains_left v) (agains_left w) =
      subst (λ (s : LinkSide). AgainsFall false (agains_left v) (both w.client.look.agains s.look.agains))
      (sym queues.origin)
      (subst (λ (s : LinkSide). AgainsFall false (agains_left v) (both s.look.agains v.origin.look.agains))
      (sym queues.client) (none_fall (agains_left v))) in
      told_fewer (λ x y. phase_work setup x y v (P.RuleAnswer a place fields))
      (λ x y. phase_work setup x y w (P.Sending a)) false 0 (agains_left v) (agains_left w) (Some 0)
      (Some 0) again (none_left (Some 0) 0)
      (λ x x' y y' falls upload. own_queued (asks_left setup hook.SendResponseHdr place)
      (one_if false) x x' (length v.client.outbox)
      (length w.client.outbox) (own_length setup a.status) falls
      (longer (length v.client.outbox) (length w.client.outbox) (length (head ++ body)) (length head)
      (length body) (length (own_body a.status))
      len (length-append head body) (sent_within a.to_head a.status)))
    where
      longer : (out out' both head body most : ℕ) → out' ≡ out + both → both ≡ head + body → body ≤ most
          → out' ≤ out + (head + most)
      longer out out' both head body most len parts within = omega (arith, len, parts, within)

  module _ (v w : View) (p : Pushed) (writes : WritesClient true v w p) where
    sent_least : length w.client.outbox + least_went p ≤ length v.client.outbox
    sent_least = went_some p v.client.outbox w.client.outbox writes.client.pushes.went

    -- a write to the client raises nothing
    pub sends_calm : Calm (push_again p) v w
    sends_calm = client_calm (push_again p) v w w.client writes.others writes.client.pushes.calls.agains
        (less_plus (length w.client.outbox) (length v.client.outbox) (least_went p) sent_least)

    -- some of it went, or there was an Again
    pub sends_on : (u u' : Option ℕ) → Rose8 u u' 0 → (a : OwnAnswer)
        → 1 ≤ least_went p + one_if (push_again p) → Fewer (work_left setup u v (P.Sending a))
        (work_left setup u' w (P.Sending a))
    sends_on u u' rose a some = work_falls (push_again p) 0 v w u u' sends_calm rose (P.Sending a)
        (P.Sending a) (none_left (Some 0) 0) (λ x x' y y' again upload.
        sent_next (one_if (push_again p)) (least_went p) x x' (length v.client.outbox)
        (length w.client.outbox) again sent_least some)
