-- Each step of a body lowers what a transaction has left to do.
use Rattle.std.proofs.Common.{◌≡◌, ℕ, ◌+◌, ◌*◌, ◌<◌, ◌≤◌, List, [], ◌∷◌, ◌++◌, length, Bool, true, false}
use Rattle.std.proofs.Common.{arith, refl, sym, ap, subst, ◌∙◌, length-append}
use Rattle.std.specs.Prelude.{Some}
use Rattle.ts_config.specs.declared.setup.Setup.{Setup}
use Rattle.ts_config.specs.declared.setup.TransformLine.{TransformLine}
use Rattle.ts_link.specs.Link.{AgainsFall, Fewer}
use Rattle.ts_transform.specs.Flow.{ChainState, TakesAway, left_to_do, passing}
use Rattle.ts_transform.specs.Stage.{to_end}
use Rattle.ts_transform.specs.declared.pump.Stage.{Stage}
use Rattle.ts_vconn.specs.declared.moves.Pulled.{Pulled}
use Rattle.ts_vconn.specs.declared.moves.Pushed.{Pushed}
use Rattle.ts_vconn.specs.MoveAnswers.{pull_again, push_again}
use Rattle.ts_wire.specs.Frames.{IsPiece, end_of, frame_of}
use Rattle.ts_wire.proofs.FrameLemmas.{length-frame_of}
use Rattle.ts_upstream.specs.Uploads.{both}
use Rattle.ts_phases.specs.View.{LinkSide, View}
use Rattle.ts_phases.specs.Moving.{WritesClient}
use Rattle.ts_phases.specs.RelayMoves.{FramesEnd, FramesPiece, QueuesText, ReadsOrigin}
use Rattle.ts_relay.specs.Feeding.{DrainsOrigin}
use Rattle.ts_phases.specs.Lowering.{agains_left, end_room, if_told, pump_weight, to_hear}
use Rattle.ts_passing.specs.Lines.{passes}
use Rattle.ts_relay.specs.LoweringBody.{IsOfLines, body_left, body_work, chain_work, close_left, ended_left}
use Rattle.ts_relay.specs.LoweringBody.{finish_left}
use Rattle.ts_passing.proofs.Inserted.{changed_append, changed_behind, passing_more, stage_passes}
use Rattle.ts_phases.proofs.Lowering.{comes_hear, least_came, least_went, none_fall, one_if, passes_less}
use Rattle.ts_phases.proofs.Lowering.{read_comes, told_fewer, went_some}
use Rattle.ts_phases.proofs.LoweringSteps.{Calm, reads_calm, sends_calm}
use Rattle.ts_relay.proofs.Queueing.{end_few}

-- ---- sums

passes_sum : (ls : List TransformLine) (m n : ℕ) → passes ls (m + n) ≡ passes ls m + passes ls n
passes_sum [] m n = refl
passes_sum (l ∷ ls) m n = let rest : passes ls (m + n) ≡ passes ls m + passes ls n = passes_sum ls m
    n in omega (arith, rest)

-- bytes pass one boundary at least
passes_least : (ls : List TransformLine) (n : ℕ) → n ≤ passes ls n
passes_least [] n = omega arith
passes_least (l ∷ ls) n = omega arith

-- a chain has no more boundaries than the configuration asks for
stages_within : {P : Type 0} (ss : List (Stage P)) (ls : List TransformLine) (n : ℕ) → length ss ≤ length ls
    → stage_passes ss n ≤ passes ls n
stages_within [] ls n few = passes_least ls n
stages_within (s ∷ ss) [] n few = absurd (omega (arith, few))
stages_within (s ∷ ss) (l ∷ ls) n few = let rest : stage_passes ss n ≤ passes ls n = stages_within ss ls n
    (omega (arith, few)) in omega (arith, rest)

-- what was queued calls no link
pub queues_same : (v w : View) (text cuts : List ℕ) → QueuesText text cuts v w
    → AgainsFall false (agains_left v) (agains_left w)
queues_same v w text cuts queues =
    subst (λ (s : LinkSide). AgainsFall false (agains_left v) (both w.client.look.agains s.look.agains))
    (sym queues.origin)
    (subst (λ (s : LinkSide). AgainsFall false (agains_left v) (both s.look.agains v.origin.look.agains))
    (sym queues.client) (none_fall (agains_left v)))

module _ {P : Type 0} (setup : Setup) (rest : P → List ℕ → List ℕ) (calls : ℕ) where
  -- where the sums fall, what is left of a body falls
  body_falls : (b : Bool) (v w : View) (c d : ChainState P) (come now : Bool)
      → AgainsFall b (agains_left v) (agains_left w)
      → ((x x' : ℕ) → x' + one_if b ≤ x → body_work setup rest calls x' w d now < body_work setup rest calls x
      v
      c come)
      → Fewer (body_left setup rest calls v c come) (body_left setup rest calls w d now)
  body_falls b v w c d come now again falls = told_fewer (λ x y. body_work setup rest calls x v c come)
      (λ x y. body_work setup rest calls x w d now) b 0 (agains_left v) (agains_left w) (Some 0) (Some 0)
      again (omega arith) (λ x x' y y' less upload. falls x x' less)

  -- ---- one read of the origin, and one write to the client

  read_next : (end i l x x' out out' hear hear' work given : ℕ) → x' + i ≤ x → out' ≤ out → hear' + l ≤ hear
      → 1 ≤ l + i
      → end + (x' + out') + hear' + work + given < end + (x + out) + hear + work + given
  read_next end i l x x' out out' hear hear' work given again less came some = omega (
    arith,
    again,
    less,
    came,
    some,
  )

  write_next : (end i l x x' out out' hear hear' work given : ℕ) → x' + i ≤ x → out' + l ≤ out → hear' ≤ hear
      → 1 ≤ l + i
      → end + (x' + out') + hear' + work + given < end + (x + out) + hear + work + given
  write_next end i l x x' out out' hear hear' work given again went heard some = omega (
    arith,
    again,
    went,
    heard,
    some,
  )

  module _ (v w : View) (c : ChainState P) (come : Bool) where
    -- some of it came, or there was an Again
    pub reads_on : (p : Pulled) → ReadsOrigin true v w p → 1 ≤ least_came p + one_if (pull_again p)
        → Fewer (body_left setup rest calls v c come) (body_left setup rest calls w c come)
    reads_on p reads some =
        let came : to_hear setup w.origin + least_came p ≤ to_hear setup v.origin = comes_hear setup v.origin
        w.origin (least_came p) (read_comes v.origin w.origin p reads.origin) in
        let calm = reads_calm setup v w p reads.others reads.origin in
        body_falls (pull_again p) v w c c come come calm.again (λ x x' again.
        read_next end_room (one_if (pull_again p)) (least_came p) x x' (length v.client.outbox)
        (length w.client.outbox) (to_hear setup v.origin) (to_hear setup w.origin)
        (chain_work setup rest calls c) (to_end come) again calm.out came some)

    -- some of it went, or there was an Again
    pub writes_on : (p : Pushed) → WritesClient true v w p → 1 ≤ least_went p + one_if (push_again p)
        → Fewer (body_left setup rest calls v c come) (body_left setup rest calls w c come)
    writes_on p writes some =
        let went : length w.client.outbox + least_went p ≤ length v.client.outbox = went_some p
        v.client.outbox w.client.outbox writes.client.pushes.went in
        let calm = sends_calm setup v w p writes in
        body_falls (push_again p) v w c c come come calm.again (λ x x' again.
        write_next end_room (one_if (push_again p)) (least_went p) x x' (length v.client.outbox)
        (length w.client.outbox) (to_hear setup v.origin) (to_hear setup w.origin)
        (chain_work setup rest calls c) (to_end come) again went calm.hear some)

  -- ---- a part of the body is given to the chain

  -- what waited of it passed on
  drained : (v w : View) → DrainsOrigin v w → (piece : List ℕ) → v.origin.inbox ≡ piece ++ w.origin.inbox
      → to_hear setup w.origin + pump_weight * passes setup.transforms.items (length piece) + length piece
      ≤ to_hear setup v.origin
  drained v w drains piece taken =
      let ls = setup.transforms.items in
      let held = length w.origin.inbox in
      let left = length v.origin.look.left in
      let same : length w.origin.look.left ≡ left = ap (λ (x : View). length x.origin.look.left) drains in
      let len : length v.origin.inbox ≡ length piece + held = ap length taken ∙ length-append piece
      w.origin.inbox in
      let all : passes ls (left + length v.origin.inbox) ≡ passes ls (length piece) + passes ls
      (left + held) =
      ap (passes ls) (turned left (length piece) held (length v.origin.inbox) len) ∙ passes_sum ls
      (length piece) (left + held) in
      let also : passes ls (length w.origin.look.left + held) ≡ passes ls (left + held) =
      ap (λ (k : ℕ). passes ls (k + held)) same in
      drained_sum left (length w.origin.look.left) held (length v.origin.inbox) (length piece)
      (passes ls (left + length v.origin.inbox)) (passes ls (length piece))
      (passes ls (left + held)) (passes ls (length w.origin.look.left + held)) same len all also
    where
      turned : (left piece held all : ℕ) → all ≡ piece + held → left + all ≡ piece + (left + held)
      turned left piece held all len = omega (arith, len)

      drained_sum : (left left' held all piece passed more was now : ℕ) → left' ≡ left → all ≡ piece + held
          → passed ≡ more + was → now ≡ was
          → pump_weight * now + 2 * left' + held + pump_weight * more + piece ≤ pump_weight * passed + 2 *
          left + all
      drained_sum left left' held all piece passed more was now same len sum also = omega (
        arith,
        same,
        len,
        sum,
        also,
      )

  -- what the chain has left to do rose by as much as the part passes its boundaries
  given_more : (c d : ChainState P) (part : List ℕ) → IsOfLines setup rest c → d.stages ≡ c.stages
      → d.first ≡ c.first ++ part
      → left_to_do rest d [] ≤ left_to_do rest c [] + passes setup.transforms.items (length part)
  given_more c d part lines stages first =
      let put = changed_append [] (length part) c.first (c.first ++ part) (changed_behind c.first part) in
      let more : passing rest c.stages ((c.first ++ part) ++ []) ≤ passing rest c.stages (c.first ++ [])
      + stage_passes c.stages (length part) =
      passing_more rest c.stages lines.changes (length part) (c.first ++ []) ((c.first ++ part) ++ []) put in
      let within : stage_passes c.stages (length part) ≤ passes setup.transforms.items (length part) =
      stages_within c.stages setup.transforms.items (length part) lines.few in
      let same : left_to_do rest d [] ≡ passing rest c.stages ((c.first ++ part) ++ []) =
      ap (λ (ss : List (Stage P)). passing rest ss (d.first ++ [])) stages ∙ ap (λ (xs : List ℕ). passing rest
      c.stages (xs ++ [])) first in
      more_sum (left_to_do rest d []) (passing rest c.stages ((c.first ++ part) ++ [])) (passing rest c.stages
      (c.first ++ [])) (stage_passes c.stages (length part))
      (passes setup.transforms.items (length part)) same more within
    where
      more_sum : (now was before step most : ℕ) → now ≡ was → was ≤ before + step → step ≤ most
          → now ≤ before + most
      more_sum now was before step most same more within = omega (arith, same, more, within)

  fed_next : (end i x x' out hear hear' work work' calls more part piece given given' : ℕ) → x' + i ≤ x
      → hear' + pump_weight * part + piece ≤ hear → work' ≤ work + more → more ≤ part
      → given' + 1 ≤ given + piece → end + (x' + out) + hear' + pump_weight * (work' + calls) + given' < end
      + (x + out) + hear + pump_weight * (work + calls) + given
  fed_next end i x x' out hear hear' work work' calls more part piece given given' again came rose fits
      some = omega (arith, again, came, rose, fits, some)

  -- A front of what waited is fed, and a part of it came to the chain: some of it is taken, or no more comes.
  pub feeds_on : (v w : View) (c d : ChainState P) (come now : Bool) (piece part : List ℕ) → DrainsOrigin v w
      → v.origin.inbox ≡ piece ++ w.origin.inbox → IsOfLines setup rest c
      → d.stages ≡ c.stages → d.first ≡ c.first ++ part → length part ≤ length piece
      → to_end now + 1 ≤ to_end come + length piece
      → Fewer (body_left setup rest calls v c come) (body_left setup rest calls w d now)
  feeds_on v w c d come now piece part drains taken lines stages first fits some =
      let ls = setup.transforms.items in
      let again : AgainsFall false (agains_left v) (agains_left w) = subst (λ (x : View). AgainsFall false
      (agains_left v) (agains_left x)) (sym drains) (none_fall (agains_left v)) in
      let out : length w.client.outbox ≡ length v.client.outbox = ap (λ (x : View). length x.client.outbox)
      drains in
      body_falls false v w c d come now again (λ x x' less.
      subst (λ (n : ℕ). end_room + (x' + n) + to_hear setup w.origin + chain_work setup rest calls d + to_end
      now < body_work setup rest calls x v c come) (sym out)
      (fed_next end_room (one_if false) x x' (length v.client.outbox) (to_hear setup v.origin) (to_hear setup
      w.origin) (left_to_do rest c []) (left_to_do rest d []) calls
      (passes ls (length part)) (passes ls (length piece)) (length piece) (to_end come) (to_end now)
      less (drained v w drains piece taken)
      (given_more c d part lines stages first) (passes_less ls (length part) (length piece) fits) some))

  -- ---- no more comes: the chain's input ends, or the body stops short

  closed_next : (end i x x' out hear hear' work work' given given' : ℕ) → x' + i ≤ x → hear' ≤ hear → work' ≡
      work
      → given ≡ 1 → given' ≡ 0
      → end + (x' + out) + hear' + work' + given' < end + (x + out) + hear + work + given
  closed_next end i x x' out hear hear' work work' given given' again less same is none = omega (
    arith,
    again,
    less,
    same,
    is,
    none,
  )

  pub closes : (b : Bool) (v w : View) (c d : ChainState P) (come now : Bool) → Calm setup b v w
      → length w.client.outbox ≡ length v.client.outbox → left_to_do rest d [] ≡ left_to_do rest c []
      → come ≡ false → now ≡ true
      → Fewer (body_left setup rest calls v c come) (body_left setup rest calls w d now)
  closes b v w c d come now calm out same goes stops =
      body_falls b v w c d come now calm.again (λ x x' again.
      subst (λ (n : ℕ). end_room + (x' + n) + to_hear setup w.origin + chain_work setup rest calls d + to_end
      now
      < body_work setup rest calls x v c come) (sym out)
      (closed_next end_room (one_if b) x x' (length v.client.outbox) (to_hear setup v.origin)
      (to_hear setup w.origin) (chain_work setup rest calls c) (chain_work setup rest calls d) (to_end come)
      (to_end now) again calm.hear (ap (λ n. pump_weight * (n + calls)) same) (ap to_end goes)
      (ap to_end stops)))

  -- ---- a piece is framed

  framed_next : (end i x x' out out' frame piece hear hear' work work' calls given given' : ℕ) → x' + i ≤ x
      → out' ≡ out + frame → frame ≤ 9 * piece → 1 ≤ piece → hear' ≡ hear
      → work' + piece ≡ work → given' ≡ given
      → end + (x' + out') + hear' + pump_weight * (work' + calls) + given' < end + (x + out) + hear
      + pump_weight * (work + calls) + given
  framed_next end i x x' out out' frame piece hear hear' work work' calls given given' again len fits some
      heard fell same =
      omega (arith, again, len, fits, some, heard, fell, same)

  pub frames_piece : (v w : View) (c d : ChainState P) (come now : Bool) (piece : List ℕ) → IsPiece piece
      → FramesPiece piece v w → TakesAway rest (length piece) c d → now ≡ come
      → Fewer (body_left setup rest calls v c come) (body_left setup rest calls w d now)
  frames_piece v w c d come now piece is frames takes still =
      let frame = frame_of v.sent.mode piece in
      let len : length w.client.outbox ≡ length v.client.outbox + length frame = ap length frames.adds.outbox
      ∙ length-append v.client.outbox frame in
      let again : AgainsFall false (agains_left v) (agains_left w) = queues_same v w (frame_of v.sent.mode
      piece) (length piece ∷ []) frames in
      body_falls false v w c d come now again (λ x x' less.
      framed_next end_room (one_if false) x x' (length v.client.outbox) (length w.client.outbox)
      (length frame) (length piece) (to_hear setup v.origin) (to_hear setup w.origin)
      (left_to_do rest c []) (left_to_do rest d []) calls (to_end come) (to_end now) less len
      (length-frame_of v.sent.mode piece is) is.0
      (ap (to_hear setup) frames.origin) (takes.falls []) (ap to_end still))

  -- ---- the end of the body is framed

  ended_next : (i x x' out out' end hear work given : ℕ) → x' + i ≤ x → out' ≡ out + end → end ≤ 5
      → 2 + (x' + out') < end_room + (x + out) + hear + work + given
  ended_next i x x' out out' end hear work given again len few = omega (arith, again, len, few)

  pub frames_end : (v w : View) (c : ChainState P) (come : Bool) → FramesEnd v w
      → Fewer (body_left setup rest calls v c come) (finish_left w)
  frames_end v w c come frames =
      let end = end_of v.sent.mode in
      let len : length w.client.outbox ≡ length v.client.outbox + length end = ap length frames.adds.outbox
      ∙ length-append v.client.outbox end in
      let again : AgainsFall false (agains_left v) (agains_left w) = queues_same v w (end_of v.sent.mode) []
      frames in
      told_fewer (λ x y. body_work setup rest calls x v c come) (λ x y. 2 + (x + length w.client.outbox))
      false 0
      (agains_left v) (agains_left w) (Some 0) (Some 0) again (omega arith)
      (λ x x' y y' less upload. ended_next (one_if false) x x' (length v.client.outbox)
      (length w.client.outbox) (length end) (to_hear setup v.origin) (chain_work setup rest calls c)
      (to_end come) less len (end_few v.sent.mode))

  -- ---- the body is left

  finished_next : (i x x' out out' hear work given : ℕ) → x' + i ≤ x → out' ≤ out → 2 + (x' + out') < end_room
      + (x + out) + hear + work + given
  finished_next i x x' out out' hear work given again less = omega (arith, again, less)

  left_next : (n x out hear work given : ℕ) → n ≤ 1 → n < end_room + (x + out) + hear + work + given
  left_next n x out hear work given few = omega (arith, few)

  module _ (b : Bool) (v w : View) (c : ChainState P) (come : Bool) (calm : Calm setup b v w) where
    leaves_to : (g : ℕ → ℕ) → ((x x' : ℕ) → x' + one_if b ≤ x → g x' < body_work setup rest calls x v c come)
        → Fewer (body_left setup rest calls v c come) (if_told (agains_left w) (Some 0) (λ x y. g x))
    leaves_to g falls = told_fewer (λ x y. body_work setup rest calls x v c come) (λ x y. g x) b 0
        (agains_left v)
        (agains_left w) (Some 0) (Some 0) calm.again (omega arith)
        (λ x x' y y' less upload. falls x x' less)

    pub to_finish : Fewer (body_left setup rest calls v c come) (finish_left w)
    to_finish = leaves_to (λ x. 2 + (x + length w.client.outbox)) (λ x x' again.
        finished_next (one_if b) x x' (length v.client.outbox) (length w.client.outbox) (to_hear setup
        v.origin) (chain_work setup rest calls c) (to_end come) again calm.out)

    pub to_close : Fewer (body_left setup rest calls v c come) (close_left w)
    to_close = leaves_to (λ x. 1) (λ x x' again. left_next 1 x (length v.client.outbox) (to_hear setup
        v.origin) (chain_work setup rest calls c) (to_end come) (omega arith))

    pub to_ended : Fewer (body_left setup rest calls v c come) (ended_left w)
    to_ended = leaves_to (λ x. 0) (λ x x' again. left_next 0 x (length v.client.outbox) (to_hear setup
        v.origin) (chain_work setup rest calls c) (to_end come) (omega arith))
