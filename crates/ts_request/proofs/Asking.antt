-- A step that lets the origin inside move some of an upload of its own.
use Rattle.std.proofs.Common.{◌≡◌, ℕ, ◌+◌, ◌≤◌, ◌⊎◌, inl, inr, List, [], ◌++◌, length, Bool, true, false}
use Rattle.std.proofs.Common.{refl, sym, ap, subst, ◌∙◌, arith, append_assoc}
use Rattle.std.specs.Prelude.{Option, Some, None}
use Rattle.std.proofs.lemmas.Bool.{false≢true}
use Rattle.std.proofs.lemmas.List.{append-nil, append_cancel_left}
use Rattle.ts_config.specs.declared.setup.TransformLine.{TransformLine}
use Rattle.ts_link.specs.Link.{Fewer, IsSurePlan, Look, NoMore, all_of}
use Rattle.ts_link.specs.declared.link.Link as link
use Rattle.ts_transform.specs.declared.transform.Transform as transform
use Rattle.ts_upstream.specs.Uploads.{StayPaired, UploadCauses, UploadCounts, UploadFalls, UploadKeeps}
use Rattle.ts_upstream.specs.Uploads.{UploadLacks, UploadRefuses, Uploads, UploadsClient, UploadsOrigin}
use Rattle.ts_upstream.specs.Uploads.{UploadsSurely, both, upload_failed, upload_waits}
use Rattle.ts_upstream.specs.declared.upstream.Uploaded.{Uploaded}
use Rattle.ts_upstream.specs.declared.upstream.Uploaded.TheVariants as U
use Rattle.ts_upstream.specs.declared.upstream.Upstream as upstream
use Rattle.ts_request.specs.Begun.{IsBegun}
use Rattle.ts_request.specs.BodyWay.{to_come}
use Rattle.ts_request.specs.Carried.{UploadsStep, answer_asked, is_done}
use Rattle.ts_request.specs.Carrying.{behind_head, carrier_look, look_over, request_lines, stays_plan}
use Rattle.ts_request.specs.Carrying.{without_line}
use Rattle.ts_request.specs.Front.{FrontSeen, body_given_by, body_left_by, body_most, body_most_by}
use Rattle.ts_request.specs.Front.{front_look, given_by, left_by}
use Rattle.ts_request.specs.Pairing.{CarrierPair, CarrierRefuses, StandsFirst, WayBy, all_sent, carrier_left}
use Rattle.ts_request.specs.Pairing.{handed_of, left_if, own_of, source_of, work_left}
use Rattle.ts_request.specs.Sent.{sent_framing, sent_head}
use Rattle.ts_request.specs.Text.{Text}
use Rattle.ts_request.specs.Upload.{LacksUpload}
use Rattle.ts_request.specs.declared.carrier.Carrier.{Carrier}
use Rattle.ts_request.specs.declared.carrier.HeadState.{HeadState}
use Rattle.ts_request.specs.declared.carrier.HeadState.TheVariants as H
use Rattle.ts_request.specs.declared.passage.Passage.{Passage}
use Rattle.ts_request.specs.declared.stage.Stage.{Stage}
use Rattle.ts_request.specs.declared.stage.Stage.TheVariants as S
use Rattle.ts_request.proofs.Steps.{ends_if, lacks_if, plan_inside, stays_inside}
use Rattle.ts_request.proofs.Told.{Unlines, carried_grown, taken_grown, told_is, unlines_framed}
use Rattle.ts_request.proofs.Told.{unlines_plain}

-- ---- answers

refuses_asked : (a : Uploaded) (R Q : Type 0) → UploadRefuses a R → UploadRefuses (answer_asked a) (Q ⊎ R)
refuses_asked U.Done R Q r = tt
refuses_asked U.More R Q r = tt
refuses_asked U.Again R Q r = tt
refuses_asked U.ClientFailed R Q r = tt
refuses_asked U.OriginFailed R Q r = tt
refuses_asked U.Refused R Q r = inr r
refuses_asked U.NoMemory R Q r = tt

counts_asked : (a : Uploaded) (c c' o o' d d' p p' : Look) → UploadCounts a c c' o o' → d.waits ≡ c.waits
    → d'.waits ≡ c'.waits → d.faults ≡ c.faults → d'.faults ≡ c'.faults → p.waits ≡ o.waits
    → p'.waits ≡ o'.waits
    → p.faults ≡ o.faults → p'.faults ≡ o'.faults → UploadCounts (answer_asked a) d d' p p'
counts_asked U.Done c c' o o' d d' p p' counts a b e f g h i j = tt
counts_asked U.More c c' o o' d d' p p' counts a b e f g h i j = tt
counts_asked U.Again c c' o o' d d' p p' counts a b e f g h i j =
    elim counts [
      | inl w ↦ inl (omega (arith, w, a, b))
      | inr w ↦ inr (omega (arith, w, g, h))
    ]
counts_asked U.ClientFailed c c' o o' d d' p p' counts a b e f g h i j = omega (arith, counts, e, f)
counts_asked U.OriginFailed c c' o o' d d' p p' counts a b e f g h i j = omega (arith, counts, i, j)
counts_asked U.Refused c c' o o' d d' p p' counts a b e f g h i j = tt
counts_asked U.NoMemory c c' o o' d d' p p' counts a b e f g h i j = tt

never_done : (a : Uploaded) → answer_asked a ≡ U.Done → ⊥
never_done U.Done is = let wrong : U.More ≡ U.Done = is in cc
never_done U.More is = let wrong : U.More ≡ U.Done = is in cc
never_done U.Again is = let wrong : U.Again ≡ U.Done = is in cc
never_done U.ClientFailed is = let wrong : U.ClientFailed ≡ U.Done = is in cc
never_done U.OriginFailed is = let wrong : U.OriginFailed ≡ U.Done = is in cc
never_done U.Refused is = let wrong : U.Refused ≡ U.Done = is in cc
never_done U.NoMemory is = let wrong : U.NoMemory ≡ U.Done = is in cc

pub was_done : (a : Uploaded) → is_done a ≡ true → a ≡ U.Done
was_done U.Done is = refl
was_done U.More is = absurd (false≢true is)
was_done U.Again is = absurd (false≢true is)
was_done U.ClientFailed is = absurd (false≢true is)
was_done U.OriginFailed is = absurd (false≢true is)
was_done U.Refused is = absurd (false≢true is)
was_done U.NoMemory is = absurd (false≢true is)

-- want of memory is that of the origin's own
lacks_asked : (a : Uploaded) (c c' o o' : Look) (R : Type 0) → answer_asked a ≡ U.NoMemory
    → UploadLacks a c c' o o'
    → ((c' ≡ c) → (o' ≡ o) → (is_done a ≡ false) → R) → R
lacks_asked U.NoMemory c c' o o' R is lacks go = go lacks.0 lacks.1 refl
lacks_asked U.Done c c' o o' R is lacks go = absurd (let wrong : U.More ≡ U.NoMemory = is in cc)
lacks_asked U.More c c' o o' R is lacks go = absurd (let wrong : U.More ≡ U.NoMemory = is in cc)
lacks_asked U.Again c c' o o' R is lacks go = absurd (let wrong : U.Again ≡ U.NoMemory = is in cc)
lacks_asked U.ClientFailed c c' o o' R is lacks go = absurd (let wrong : U.ClientFailed ≡ U.NoMemory = is in
    cc)
lacks_asked U.OriginFailed c c' o o' R is lacks go = absurd (let wrong : U.OriginFailed ≡ U.NoMemory = is in
    cc)
lacks_asked U.Refused c c' o o' R is lacks go = absurd (let wrong : U.Refused ≡ U.NoMemory = is in cc)

failed_asked : (a : Uploaded) → upload_failed (answer_asked a) ≡ upload_failed a
failed_asked U.Done = refl
failed_asked U.More = refl
failed_asked U.Again = refl
failed_asked U.ClientFailed = refl
failed_asked U.OriginFailed = refl
failed_asked U.Refused = refl
failed_asked U.NoMemory = refl

waits_asked : (a : Uploaded) → upload_waits (answer_asked a) ≡ upload_waits a
waits_asked U.Done = refl
waits_asked U.More = refl
waits_asked U.Again = refl
waits_asked U.ClientFailed = refl
waits_asked U.OriginFailed = refl
waits_asked U.Refused = refl
waits_asked U.NoMemory = refl

-- ---- what is left

pub inside_less : (ct ot : Bool) (i j : Option ℕ) (a b : ℕ) → Fewer i j → b ≤ a
    → Fewer (left_if ct ot i a) (left_if ct ot j b)
inside_less false ot i j a b fell less = tt
inside_less true false i j a b fell less = tt
inside_less true true None j a b fell less = tt
inside_less true true (Some k) None a b fell less = absurd fell
inside_less true true (Some k) (Some m) a b fell less = omega (arith, fell, less)

pub inside_step : (ct ot : Bool) (i j : Option ℕ) (a b : ℕ) → NoMore i j → b + 1 ≤ a
    → Fewer (left_if ct ot i a) (left_if ct ot j b)
inside_step false ot i j a b calm less = tt
inside_step true false i j a b calm less = tt
inside_step true true None j a b calm less = tt
inside_step true true (Some k) None a b calm less = absurd calm
inside_step true true (Some k) (Some m) a b calm less = omega (arith, calm, less)

pub inside_calm : (ct ot : Bool) (i j : Option ℕ) (a b : ℕ) → NoMore i j → b ≤ a
    → NoMore (left_if ct ot i a) (left_if ct ot j b)
inside_calm false ot i j a b calm less = tt
inside_calm true false i j a b calm less = tt
inside_calm true true None j a b calm less = tt
inside_calm true true (Some k) None a b calm less = absurd calm
inside_calm true true (Some k) (Some m) a b calm less = omega (arith, calm, less)

falls_asked : (ct ot : Bool) (a : Uploaded) (i j m n : Option ℕ) (w w' : ℕ) → w' + 1 ≡ w + to_come (is_done a)
    → UploadFalls a i j m n → UploadFalls (answer_asked a) (left_if ct ot i w) (left_if ct ot j w') m n
falls_asked ct ot U.Done i j m n w w' is falls =
    (inside_step ct ot i j w w' falls.0 (omega (arith, is)), falls.1)
falls_asked ct ot U.More i j m n w w' is falls =
    (inside_less ct ot i j w w' falls.0 (omega (arith, is)), falls.1)
falls_asked ct ot U.Again i j m n w w' is falls =
    (inside_calm ct ot i j w w' falls.0 (omega (arith, is)), falls.1)
falls_asked ct ot U.ClientFailed i j m n w w' is falls =
    (inside_calm ct ot i j w w' falls.0 (omega (arith, is)), falls.1)
falls_asked ct ot U.OriginFailed i j m n w w' is falls =
    (inside_calm ct ot i j w w' falls.0 (omega (arith, is)), falls.1)
falls_asked ct ot U.Refused i j m n w w' is falls =
    (inside_calm ct ot i j w w' falls.0 (omega (arith, is)), falls.1)
falls_asked ct ot U.NoMemory i j m n w w' is falls =
    (inside_calm ct ot i j w w' falls.0 (omega (arith, is)), falls.1)

-- what is not told is not measured
falls_untold : (a : Uploaded) (i j m n : Option ℕ) → UploadFalls a i j m n
    → UploadFalls (answer_asked a) None None m n
falls_untold U.Done i j m n falls = (tt, falls.1)
falls_untold U.More i j m n falls = (tt, falls.1)
falls_untold U.Again i j m n falls = (tt, falls.1)
falls_untold U.ClientFailed i j m n falls = (tt, falls.1)
falls_untold U.OriginFailed i j m n falls = (tt, falls.1)
falls_untold U.Refused i j m n falls = (tt, falls.1)
falls_untold U.NoMemory i j m n falls = (tt, falls.1)

-- ---- what a front shows of a client that is the same

most_same : (s : Stage) (t : Text) (l l' : Look) → all_of l' ≡ all_of l → l'.left ≡ l.left
    → body_most_by s t l' ≡ body_most_by s t l
most_same S.Heading t l l' all left = ap length all
most_same S.Passing t l l' all left = refl
most_same (S.Uploading framing) t l l' all left =
    ap (λ (xs : List ℕ). length (body_left_by (S.Uploading framing) t xs)) left

module _ {C O P : Type 0} (client : link.Ghosts C) (origin : link.Ghosts O) (inner : upstream.Ghosts O C)
    (stage : transform.Ghosts P TransformLine) (f : FrontSeen C) (c : Carrier O P) (k : C) (o : O)
    (a : Uploaded)
    (pair : CarrierPair client origin inner stage f c) (begun : IsBegun c.head) (none : c.out ≡ [])
    (unasked : c.asked ≡ false)
    (stay : StayPaired client.still origin.still inner.paired inner.refuses f.client k c.origin o)
    (causes : UploadCauses client.tells (inner.refuses c.origin) a (client.look f.client) (client.look k)
    (origin.look c.origin) (origin.look o))
    (bytes : Uploads client.tells origin.tells (client.look f.client) (client.look k) (origin.look c.origin)
    (origin.look o))
    (keeps : UploadKeeps (client.look f.client) (client.look k) (origin.look c.origin) (origin.look o))
    (falls : UploadFalls a (inner.upload_left f.client c.origin) (inner.upload_left k o)
    (both (client.look f.client).agains (origin.look c.origin).agains)
    (both (client.look k).agains (origin.look o).agains))
    (sure : Rattle.ts_link.specs.Link.IsSure (client.look f.client)
    → Rattle.ts_link.specs.Link.IsSure (origin.look c.origin)
    → UploadsSurely a (client.look f.client) (client.look k) (origin.look c.origin) (origin.look o)) where
  abbrev pub front_on : FrontSeen C
  front_on = record f { client = k }

  abbrev pub asked_on : Carrier O P
  asked_on = record c { origin = o; asked = is_done a }

  left_same : client.tells ≡ true → (client.look k).left ≡ (client.look f.client).left
  left_same told =
      let of = bytes.client told in
      append_cancel_left (client.look f.client).given (client.look k).left (client.look f.client).left
      (ap (λ xs. xs ++ (client.look k).left) (sym of.given) ∙ of.all)

  handed_same : client.tells ≡ true → handed_of client.look front_on ≡ handed_of client.look f
  handed_same told = ap (λ xs. body_given_by f.text.stage f.text xs) (bytes.client told).given

  front_client : client.tells ≡ true
      → UploadsClient (front_look client.look f) (front_look client.look front_on)
  front_client told =
      let of = bytes.client told in
      record {
        all = λ i. given_by f.text.stage f.text (of.given i)
            ++ left_by f.text.stage f.text (left_same told i);
        given = ap (given_by f.text.stage f.text) of.given;
        taken = of.taken;
      }

  -- the origin inside took some more, behind the head
  sent_more : (told : origin.tells ≡ true)
      → all_sent origin.look asked_on ≡ all_sent origin.look c ++ (bytes.origin told).more
  sent_more told =
      let of = bytes.origin told in
      ap (λ xs. (origin.look o).taken ++ xs) none ∙ append-nil (origin.look o).taken ∙ of.taken
      ∙ ap (λ xs. xs ++ of.more) (sym (append-nil (origin.look c.origin).taken)
      ∙ ap (λ xs. (origin.look c.origin).taken ++ xs) (sym none))

  stands_more : (len : ℕ) (sent : List ℕ → List ℕ) (told : origin.tells ≡ true)
      → (s : StandsFirst origin.look len sent (own_of origin.look c) c)
      → StandsFirst origin.look len sent (own_of origin.look asked_on) asked_on
  stands_more len sent told s =
      let of = bytes.origin told in
      record {
        head = s.head;
        long = s.long;
        text = sent_more told ∙ ap (λ xs. xs ++ of.more) s.text
            ∙ append_assoc (sent s.head) (own_of origin.look c) of.more
            ∙ ap (λ xs. sent s.head ++ xs) (sym of.carried);
      }

  -- the head and what stands behind it, of a body of which nothing was framed yet
  unbehind : (len : ℕ) (sent : List ℕ → List ℕ) (text : List ℕ) (d : Carrier O P) → text ≡ []
      → StandsFirst origin.look len sent (own_of origin.look d ++ text) d
      → StandsFirst origin.look len sent (own_of origin.look d) d
  unbehind len sent text d empty s = record {
    head = s.head;
    long = s.long;
    text = s.text ∙ ap (λ xs. sent s.head ++ (own_of origin.look d ++ xs)) empty
        ∙ ap (λ xs. sent s.head ++ xs) (append-nil (own_of origin.look d));
  }

  behind_on : (len : ℕ) (sent : List ℕ → List ℕ) (text : List ℕ) (d : Carrier O P) → text ≡ []
      → StandsFirst origin.look len sent (own_of origin.look d) d
      → StandsFirst origin.look len sent (own_of origin.look d ++ text) d
  behind_on len sent text d empty s = record {
    head = s.head;
    long = s.long;
    text = s.text ∙ ap (λ xs. sent s.head ++ xs) (sym (append-nil (own_of origin.look d)))
        ∙ ap (λ xs. sent s.head ++ (own_of origin.look d ++ xs)) (sym empty);
  }

  source_same : source_of client.look front_on ≡ source_of client.look f
  source_same = keeps.client.source

  way_on : (head : HeadState) (passage : Option (Passage P)) → IsBegun head
      → WayBy client origin inner stage head passage f c
      → WayBy client origin inner stage head passage front_on asked_on
  way_on H.Held passage (len, line, is) way = absurd (let wrong : H.Held ≡ H.Sent len line = is in cc)
  way_on (H.Sent len line) None is way = record {
    line_is = way.line_is;
    lacks = λ told. subst (λ (list : List ℕ). LacksUpload list) (sym source_same) (way.lacks told);
    stands = λ told. stands_more len (λ head. head) told (way.stands told);
  }
  way_on (H.Sent len line) (Some p) is way =
      let empty = way.before unasked in
      record {
        framing = way.framing;
        uploading = way.uploading;
        line_is = way.line_is;
        mode_is = way.mode_is;
        fed = way.fed;
        read = way.read;
        text = way.text;
        came = λ told. handed_same told ∙ way.came told;
        writes = way.writes;
        before = λ waits. empty;
        stands = λ told. behind_on len (sent_head way.framing (request_lines c)) way.text asked_on empty
            (stands_more len (sent_head way.framing (request_lines c)) told
            (unbehind len (sent_head way.framing (request_lines c)) way.text c empty (way.stands told)));
      }

  refuses_before : (list : List ℕ) → CarrierRefuses inner.refuses asked_on list
      → CarrierRefuses inner.refuses c list
  refuses_before list (inl r) = inl r
  refuses_before list (inr r) = inr (stay.refusal.before list r)

  refuses_still : (list : List ℕ) → CarrierRefuses inner.refuses c list
      → CarrierRefuses inner.refuses asked_on list
  refuses_still list (inl r) = inl r
  refuses_still list (inr r) = inr (stay.refusal.still list r)

  not_over : c.over ≡ true → ⊥
  not_over over = false≢true (sym unasked ∙ (pair.done over).asked)

  pair_asked : CarrierPair client origin inner stage front_on asked_on
  pair_asked = record {
    inside = stay.pair;
    acts = pair.acts;
    way = way_on c.head c.passage begun pair.way;
    own_done = λ is told refused.
        subst (λ (x : Uploaded). UploadRefuses x (inner.refuses c.origin (source_of client.look f)))
        (was_done a is)
        (causes.refusal told)
        (subst (λ (list : List ℕ). inner.refuses c.origin list) source_same (stay.refusal.before _ refused));
    done = λ over. absurd (not_over over);
  }

  -- what is told of the origin grew by what it took
  abbrev TellsAsked : HeadState → (told : origin.tells ≡ true) → Type 0
  TellsAsked head told =
      (without_line head (all_sent origin.look asked_on)
      ≡ without_line head (all_sent origin.look c) ++ (bytes.origin told).more)
      × (behind_head head (own_of origin.look asked_on) (all_sent origin.look asked_on)
      ≡ behind_head head (own_of origin.look c) (all_sent origin.look c) ++ (bytes.origin told).more)

  tells_by : (len line : ℕ) (sent : List ℕ → List ℕ) (told : origin.tells ≡ true) → Unlines len line sent
      → StandsFirst origin.look len sent (own_of origin.look c) c → TellsAsked (H.Sent len line) told
  tells_by len line sent told unlines s = (
    taken_grown len line sent (own_of origin.look c) (own_of origin.look asked_on) s.head
        (own_of origin.look c)
        (bytes.origin told).more (all_sent origin.look c)
        (all_sent origin.look asked_on) unlines s.long s.text
        (sent_more told),
    carried_grown len line sent (own_of origin.look c) (own_of origin.look asked_on) s.head
        (own_of origin.look c)
        (bytes.origin told).more (all_sent origin.look c)
        (all_sent origin.look asked_on) unlines s.long s.text
        (sent_more told),
  )

  tells_on : (head : HeadState) (passage : Option (Passage P)) (told : origin.tells ≡ true) → IsBegun head
      → WayBy client origin inner stage head passage f c → TellsAsked head told
  tells_on H.Held passage told (len, line, is) way = absurd (let wrong : H.Held ≡ H.Sent len line = is in cc)
  tells_on (H.Sent len line) None told is way =
      tells_by len line (λ head. head) told (unlines_plain len line way.line_is) (way.stands told)
  tells_on (H.Sent len line) (Some p) told is way =
      tells_by len line (sent_head way.framing (request_lines c)) told
      (unlines_framed len line (sent_framing way.framing (request_lines c)) way.line_is)
      (unbehind len (sent_head way.framing (request_lines c)) way.text c (way.before unasked)
      (way.stands told))

  asked_origin : (told : origin.tells ≡ true)
      → UploadsOrigin (carrier_look origin.tells origin.look c)
      (carrier_look origin.tells origin.look asked_on)
  asked_origin told =
      let of = bytes.origin told in
      let tells = tells_on c.head c.passage told begun pair.way in
      record {
        given = of.given;
        left = of.left;
        more = of.more;
        taken = told_is origin.tells _ [] told ∙ tells.0
            ∙ ap (λ xs. xs ++ of.more) (sym (told_is origin.tells _ [] told));
        carried = told_is origin.tells _ [] told ∙ tells.1
            ∙ ap (λ xs. xs ++ of.more) (sym (told_is origin.tells _ [] told));
      }

  -- what is left
  abbrev pub most : ℕ
  most = body_most f.text (client.look f.client)

  most_on : client.tells ≡ true → body_most f.text (client.look k) ≡ most
  most_on told = most_same f.text.stage f.text (client.look f.client) (client.look k) (bytes.client told).all
      (left_same told)

  work_by : (head : HeadState) → IsBegun head → (n : ℕ)
      → work_left stage.rest n head asked_on + 1 ≡ work_left stage.rest n head c + to_come (is_done a)
  work_by H.Held (len, line, is) n = absurd (let wrong : H.Held ≡ H.Sent len line = is in cc)
  work_by (H.Sent len line) is n =
      let waits : to_come c.asked ≡ 1 = ap to_come unasked in omega (arith, waits)

  falls_on : UploadFalls (answer_asked a) (carrier_left client origin inner stage f c)
      (carrier_left client origin inner stage front_on asked_on)
      (both (client.look f.client).agains (origin.look c.origin).agains)
      (both (client.look k).agains (origin.look o).agains)
  falls_on = by_told client.tells (λ is. is)
    where
      by_told : (t : Bool) → (t ≡ true → client.tells ≡ true)
          → UploadFalls (answer_asked a) (left_if t origin.tells (inner.upload_left f.client c.origin)
          (work_left stage.rest most c.head c))
          (left_if t origin.tells (inner.upload_left k o)
          (work_left stage.rest (body_most f.text (client.look k)) c.head asked_on))
          (both (client.look f.client).agains (origin.look c.origin).agains)
          (both (client.look k).agains (origin.look o).agains)
      by_told true told =
          subst (λ (n : ℕ). UploadFalls (answer_asked a)
          (left_if true origin.tells (inner.upload_left f.client c.origin)
          (work_left stage.rest most c.head c))
          (left_if true origin.tells (inner.upload_left k o) (work_left stage.rest n c.head asked_on))
          (both (client.look f.client).agains (origin.look c.origin).agains)
          (both (client.look k).agains (origin.look o).agains)) (sym (most_on (told refl)))
          (falls_asked true origin.tells a (inner.upload_left f.client c.origin) (inner.upload_left k o) _ _
          (work_left stage.rest most c.head c) (work_left stage.rest most c.head asked_on)
          (work_by c.head begun most) falls)
      by_told false told = falls_untold a (inner.upload_left f.client c.origin)
          (inner.upload_left k o) _ _ falls

  pub ask_step : UploadsStep client origin inner stage (answer_asked a) f front_on c asked_on
  ask_step =
      let fl = front_look client.look f in
      let gl = front_look client.look front_on in
      let cl = carrier_look origin.tells origin.look c in
      let dl = carrier_look origin.tells origin.look asked_on in
      record {
        paired = record {
          client = stay.client;
          origin = record { inside = stay.origin; setup = refl };
          pair = pair_asked;
          refusal = record { still = refuses_still; before = refuses_before };
        };
        causes = record {
          refusal = λ told. refuses_asked a _ _ (causes.refusal told);
          counts = counts_asked a (client.look f.client) (client.look k) (origin.look c.origin)
              (origin.look o)
              fl gl cl dl causes.counts refl refl refl refl refl refl refl refl;
          lacks = lacks_if (answer_asked a) fl gl cl dl (λ is.
              lacks_asked a (client.look f.client) (client.look k) (origin.look c.origin) (origin.look o)
              ((gl ≡ fl) × (dl ≡ cl)) is causes.lacks (λ same also still. (
                ap (λ l. record (Rattle.ts_request.specs.Front.shown_through f.text l) { reads = f.reads })
                    same,
                ap (λ l. look_over origin.tells l c) also,
              )));
          ends = ends_if (answer_asked a) dl (λ is. absurd (never_done a is));
        };
        bytes = record { client = front_client; origin = asked_origin };
        keeps = record {
          client = record {
            source = keeps.client.source;
            name = keeps.client.name;
            plan = keeps.client.plan;
            before = keeps.client.before;
            faults = keeps.client.faults;
            waits = keeps.client.waits;
          };
          reads = refl;
          writes = keeps.writes;
          carried = keeps.carried;
          uploaded = keeps.uploaded;
          origin = record {
            source = keeps.origin.source;
            name = keeps.origin.name;
            plan = ap stays_plan keeps.origin.plan;
            before = keeps.origin.before;
            faults = keeps.origin.faults;
            waits = keeps.origin.waits;
          };
        };
        falls = falls_on;
        sure = λ clients origins.
            let went = sure clients (plan_inside (origin.look c.origin).plan IsSurePlan origins) in
            record {
              faults = λ never.
                  let none = went.faults (stays_inside (origin.look c.origin).plan (λ q. q.leave ≡ None)
                  never) in
                  (failed_asked a ∙ none.0, none.1, none.2);
              waits = λ still also. waits_asked a
                  ∙ went.waits still (plan_inside (origin.look c.origin).plan _ also);
            };
      }
