-- The steps of a body's way that call no link, by the answer of the call that each makes.
use Rattle.std.proofs.Common.{◌≡◌, ◌≢◌, ℕ, ◌+◌, ◌*◌, ◌≤◌, ◌<◌, ◌⊎◌, inl, inr, List, [], ◌++◌, length, Bool}
use Rattle.std.proofs.Common.{true, false, refl, sym, ap, subst, ◌∙◌, arith, append_assoc, length-append}
use Rattle.std.specs.Prelude.{Option, Some, None, Result, Ok, Err, OnOk, OnErr, ⊤}
use Rattle.std.proofs.lemmas.Bool.{OnTrue_from}
use Rattle.std.proofs.lemmas.List.{append-nil}
use Rattle.ts_config.specs.declared.setup.TransformLine.{TransformLine}
use Rattle.ts_link.specs.declared.link.Link as link
use Rattle.ts_link.specs.declared.octets.NoMemory.{NoMemory}
use Rattle.ts_transform.specs.Flow.{ChainState, left_to_do}
use Rattle.ts_transform.specs.declared.transform.Transform as transform
use Rattle.ts_upstream.specs.declared.upstream.Uploaded.TheVariants as U
use Rattle.ts_upstream.specs.declared.upstream.Upstream as upstream
use Rattle.ts_wire.specs.declared.body.BodyState.{BodyState}
use Rattle.ts_wire.specs.declared.body.BodyState.TheVariants as B
use Rattle.ts_wire.specs.Frames.{end_of, frame_of}
use Rattle.ts_wire.specs.Place.{state_of}
use Rattle.ts_wire.proofs.FrameLemmas.{length-frame_of}
use Rattle.ts_request.specs.BodyWay.{end_cost, more_comes, passage_left, to_come, to_read}
use Rattle.ts_request.specs.Carried.{UploadsStep, answer_work}
use Rattle.ts_request.specs.Carrying.{request_lines}
use Rattle.ts_request.specs.Front.{FrontSeen, body_most}
use Rattle.ts_request.specs.Pairing.{CarrierPair, IsEnded}
use Rattle.ts_request.specs.PassageSteps.{FeedsPassage, FramesPiece, IsNext, IsNextBy, LosesPart, Stalls}
use Rattle.ts_request.specs.PassageSteps.{Works}
use Rattle.ts_request.specs.declared.carrier.Carrier.{Carrier}
use Rattle.ts_request.specs.declared.passage.Next.{Next}
use Rattle.ts_request.specs.declared.passage.Next.TheVariants as N
use Rattle.ts_request.specs.declared.passage.Passage.{Passage}
use Rattle.ts_request.proofs.BodyWay.{writes_ended, writes_fed, writes_framed, writes_lost, writes_worked}
use Rattle.ts_request.proofs.Bodies.{comes_over, end_short, ended_cost, fed_cost, framed_cost, given_more}
use Rattle.ts_request.proofs.Bodies.{got_some, idle_step, lost_step, more_step, one_more_comes, open_stalls}
use Rattle.ts_request.proofs.Bodies.{way_body, worked_cost}

-- what comes next is said of the passage that the carrier has
pub next_is : {P : Type 0} (x : Option (Passage P)) (inbox : List ℕ) (next : Next) (p : Passage P)
    → IsNextBy x inbox next → x ≡ Some p → IsNext p inbox next
next_is {P} x inbox next p h is = subst (λ (y : Option (Passage P)). IsNextBy y inbox next) is h

-- it has one, where the upload does not finish
pub has_passage : {P : Type 0} (x : Option (Passage P)) (inbox : List ℕ) (next : Next) → IsNextBy x inbox next
    → (next ≡ N.Finish → ⊥) → (p : Passage P) × (x ≡ Some p) × IsNext p inbox next
has_passage None inbox next h more = absurd (more h)
has_passage (Some p) inbox next h more = (p, refl, h)

-- and where it does, the body's end was framed
pub is_ended : {P : Type 0} (x : Option (Passage P)) (inbox : List ℕ) → IsNextBy x inbox N.Finish → IsEnded x
is_ended None inbox h = tt
is_ended (Some p) inbox h = h

-- a body that has neither ended nor is bad goes on
pub goes_on : (state : BodyState) → state ≢ B.Ended → state ≢ B.Bad → state ≡ B.Unfinished
goes_on B.Unfinished a b = refl
goes_on B.Ended a b = absurd (a refl)
goes_on B.Bad a b = absurd (b refl)

module _ {C O P : Type 0} (client : link.Ghosts C) (origin : link.Ghosts O) (inner : upstream.Ghosts O C)
    (stage : transform.Ghosts P TransformLine) (client_still : (c : C) → client.still c c)
    (origin_still : (o : O) → origin.still o o) (f : FrontSeen C) (c : Carrier O P) (p q : Passage P)
    (pair : CarrierPair client origin inner stage f c) (is : c.passage ≡ Some p) where
  -- nothing changed, and memory lacked
  unchanged : (out inbox : List ℕ) → q ≡ p → out ≡ c.out → inbox ≡ c.inbox
      → UploadsStep client origin inner stage U.NoMemory f f c
      (record c { out = out; inbox = inbox; passage = Some q })
  unchanged out inbox same sent waits =
      let all : ◌≡◌ {A = Carrier O P} c (record c { out = out; inbox = inbox; passage = Some q }) =
      λ i. record c {
        out = sym sent i;
        inbox = sym waits i;
        passage = (is ∙ ap (λ (x : Passage P). Some x) (sym same)) i;
      } in
      subst (λ (x : Carrier O P). UploadsStep client origin inner stage U.NoMemory f f c x) all
      (idle_step client origin inner stage client_still origin_still f c U.NoMemory refl
      (λ e. let wrong : U.NoMemory ≡ U.More = e in cc) (λ e. absurd (let wrong : U.NoMemory ≡ U.Done = e in
      cc))
      (λ told. tt) pair)

  module _ (asked : c.asked ≡ true) (unended : p.ended ≡ false) where
    abbrev lines : List TransformLine
    lines = request_lines c

    abbrev pub most : ℕ
    most = body_most f.text (client.look f.client)

    pub frame_by : (out : List ℕ) (r : Result ⊤ NoMemory) → OnOk r (FramesPiece stage.rest p q c.out out)
        → OnErr r ((q ≡ p) × (out ≡ c.out))
        → UploadsStep client origin inner stage (answer_work r) f f c (record c {
          out = out;
          passage = Some q;
        })
    frame_by out (Err lack) ok err = unchanged out c.inbox err.0 err.1 refl
    frame_by out (Ok x) ok err =
        let (len, line, head_is, b) = way_body client origin inner stage client_still origin_still f c p is
        pair in
        let frame = frame_of p.mode ok.piece in
        more_step client origin inner stage client_still origin_still f c p q out c.inbox frame asked unended
        is pair
        len line head_is b ok.frame b.fed b.read (ap (λ (x : Passage P). x.mode) ok.others) b.came
        (writes_framed stage lines b.framing b.fed b.read b.text c.out out p q ok unended b.writes)
        (subst (λ (x : Passage P). Rattle.ts_request.specs.BodyWay.write_cost * length out
        + (to_read lines most (length c.inbox) + passage_left stage.rest x) + 1
        ≤ Rattle.ts_request.specs.BodyWay.write_cost * length c.out
        + (to_read lines most (length c.inbox) + passage_left stage.rest p)) (sym ok.others)
        (framed_cost (length c.out) (length out) (length frame) (length ok.piece)
        (left_to_do stage.rest p.chain [])
        (left_to_do stage.rest q.chain []) (to_read lines most (length c.inbox)) (to_come p.ended)
        (more_comes (state_of p.body.phase)) (ap length ok.frame ∙ length-append c.out frame)
        (length-frame_of p.mode ok.piece ok.good) (ok.takes.falls []) ok.good.0))

    pub work_by : (r : Result ⊤ NoMemory) → OnOk r (Works stage.rest stage.soon p q) → OnErr r (q ≡ p)
        → UploadsStep client origin inner stage (answer_work r) f f c (record c { passage = Some q })
    work_by (Err lack) ok err = unchanged c.out c.inbox err refl refl
    work_by (Ok x) ok err =
        let (len, line, head_is, b) = way_body client origin inner stage client_still origin_still f c p is
        pair in
        more_step client origin inner stage client_still origin_still f c p q c.out c.inbox [] asked unended
        is pair len
        line head_is b (sym (append-nil c.out)) b.fed b.read (ap (λ (x : Passage P). x.mode) ok.others) b.came
        (subst (λ (t : List ℕ). Rattle.ts_request.specs.BodyWay.Writes stage lines b.framing b.fed b.read t q)
        (sym (append-nil b.text))
        (writes_worked stage lines b.framing b.fed b.read b.text p q ok unended b.writes))
        (subst (λ (x : Passage P). Rattle.ts_request.specs.BodyWay.write_cost * length c.out
        + (to_read lines most (length c.inbox) + passage_left stage.rest x) + 1
        ≤ Rattle.ts_request.specs.BodyWay.write_cost * length c.out
        + (to_read lines most (length c.inbox) + passage_left stage.rest p)) (sym ok.others)
        (worked_cost (length c.out) (left_to_do stage.rest p.chain []) (left_to_do stage.rest q.chain [])
        (to_read lines most (length c.inbox)) (to_come p.ended) (more_comes (state_of p.body.phase))
        (ok.falls [] (OnTrue_from p.chain.given (◌≡◌ {A = List ℕ} [] []) (λ given. refl)))))

    pub end_by : (out : List ℕ) (r : Result ⊤ NoMemory) → Rattle.ts_transform.specs.Flow.IsFinished p.chain
        → OnOk r (out ≡ c.out ++ end_of p.mode) → OnOk r (q ≡ record p { ended = true })
        → OnErr r ((q ≡ p) × (out ≡ c.out))
        → UploadsStep client origin inner stage (answer_work r) f f c (record c {
          out = out;
          passage = Some q;
        })
    end_by out (Err lack) ends ok also err = unchanged out c.inbox err.0 err.1 refl
    end_by out (Ok x) ends ok also err =
        let (len, line, head_is, b) = way_body client origin inner stage client_still origin_still f c p is
        pair in
        more_step client origin inner stage client_still origin_still f c p q out c.inbox
        (end_of p.mode) asked unended is
        pair len line head_is b ok b.fed b.read (ap (λ (x : Passage P). x.mode) also) b.came
        (writes_ended stage lines b.framing b.fed b.read b.text p q also unended ends b.writes)
        (subst (λ (x : Passage P). Rattle.ts_request.specs.BodyWay.write_cost * length out
        + (to_read lines most (length c.inbox) + passage_left stage.rest x) + 1
        ≤ Rattle.ts_request.specs.BodyWay.write_cost * length c.out
        + (to_read lines most (length c.inbox) + passage_left stage.rest p)) (sym also)
        (subst (λ (e : Bool). Rattle.ts_request.specs.BodyWay.write_cost * length out
        + (to_read lines most (length c.inbox)
        + (Rattle.ts_request.specs.BodyWay.pass_cost * left_to_do stage.rest p.chain []
        + end_cost * to_come true
        + more_comes (state_of p.body.phase))) + 1
        ≤ Rattle.ts_request.specs.BodyWay.write_cost * length c.out
        + (to_read lines most (length c.inbox)
        + (Rattle.ts_request.specs.BodyWay.pass_cost * left_to_do stage.rest p.chain [] + end_cost * to_come e
        + more_comes (state_of p.body.phase)))) (sym unended)
        (ended_cost (length c.out) (length out) (length (end_of p.mode)) (left_to_do stage.rest p.chain [])
        (to_read lines most (length c.inbox)) (more_comes (state_of p.body.phase))
        (ap length ok ∙ length-append c.out (end_of p.mode)) (end_short p.mode))))

    pub feed_by : (inbox : List ℕ) (r : Result ⊤ NoMemory) → Stalls p → state_of p.body.phase ≢ B.Bad
        → OnOk r (FeedsPassage p q c.inbox inbox) → OnErr r (LosesPart p q × (inbox ≡ c.inbox))
        → UploadsStep client origin inner stage (answer_work r) f f c (record c {
          inbox = inbox;
          passage =
              Some q;
        })
    feed_by inbox (Err lack) stalls good ok err =
        let (len, line, head_is, b) = way_body client origin inner stage client_still origin_still f c p is
        pair in
        let going = open_stalls p stalls in
        let way = b.writes.way in
        let state : state_of p.body.phase ≡ B.Unfinished = goes_on (state_of p.body.phase)
        (λ e. way.goes_on going (sym (ap (λ x. state_of x.phase) (way.now stalls.kept)) ∙ e)) good in
        let one : more_comes (state_of p.body.phase) ≡ 1 = ap more_comes state in
        let fewer : more_comes (state_of q.body.phase) ≤ more_comes (state_of p.body.phase) =
        let least = one_more_comes (state_of q.body.phase) in omega (arith, one, least) in
        lost_step client origin inner stage client_still origin_still f c p q c.out inbox [] asked unended is
        pair len line
        head_is b (sym (append-nil c.out)) b.fed b.read err.0.mode
        (λ told. b.came told ∙ ap (λ xs. b.fed ++ xs) (sym err.1))
        (subst (λ (t : List ℕ). Rattle.ts_request.specs.BodyWay.Writes stage lines b.framing b.fed b.read t q)
        (sym (append-nil b.text)) (writes_lost stage lines b.framing b.fed b.read b.text p q err.0 b.writes))
        (let chain : left_to_do stage.rest q.chain [] ≡ left_to_do stage.rest p.chain [] =
        ap (λ (x : ChainState P). left_to_do stage.rest x []) err.0.chain in
        let ended : to_come q.ended ≡ to_come p.ended = ap to_come err.0.ended in
        let held : to_read lines most (length inbox) ≡ to_read lines most (length c.inbox) =
        ap (λ xs. to_read lines most (length xs)) err.1 in
        omega (arith, chain, ended, held, fewer)) refl
    feed_by inbox (Ok x) stalls good ok err =
        let (len, line, head_is, b) = way_body client origin inner stage client_still origin_still f c p is
        pair in
        let going = open_stalls p stalls in
        let way = b.writes.way in
        let state : state_of p.body.phase ≡ B.Unfinished = goes_on (state_of p.body.phase)
        (λ e. way.goes_on going (sym (ap (λ x. state_of x.phase) (way.now stalls.kept)) ∙ e)) good in
        let feeds = ok.feeds in
        let got = got_some (state_of q.body.phase) feeds.part p.chain q.chain feeds.gets in
        let ended : to_come q.ended ≡ to_come p.ended = ap to_come ok.ended in
        let cost = fed_cost lines (length c.out) most (length c.inbox) (length inbox) (length feeds.piece)
        (length feeds.part) (length got.some) (left_to_do stage.rest p.chain [])
        (left_to_do stage.rest q.chain [])
        (to_come p.ended) (more_comes (state_of p.body.phase)) (more_comes (state_of q.body.phase))
        (ap length feeds.taken ∙ length-append feeds.piece inbox) got.within feeds.within
        (given_more lines stage.rest p.chain q.chain got.some way.of_lines got.stages got.first)
        (moved (state_of q.body.phase) (length feeds.piece) (ap more_comes state) (feeds.progress state)) in
        more_step client origin inner stage client_still origin_still f c p q c.out inbox [] asked unended is
        pair len line
        head_is b (sym (append-nil c.out)) (b.fed ++ feeds.piece) (b.read ++ feeds.part) ok.mode
        (λ told. b.came told ∙ ap (λ xs. b.fed ++ xs) feeds.taken
        ∙ sym (append_assoc b.fed feeds.piece inbox))
        (subst (λ (t : List ℕ). Rattle.ts_request.specs.BodyWay.Writes stage lines b.framing
        (b.fed ++ feeds.piece)
        (b.read ++ feeds.part) t q) (sym (append-nil b.text))
        (writes_fed stage lines b.framing b.fed b.read b.text c.inbox inbox p q stalls.kept going ok unended
        b.writes))
        (omega (arith, cost, ended))
      where
        moved : (s : BodyState) (n : ℕ) → more_comes (state_of p.body.phase) ≡ 1
            → (0 < n) ⊎ (s ≢ B.Unfinished)
            → more_comes s + 1 ≤ more_comes (state_of p.body.phase) + n
        moved s n one (inl some) = let least = one_more_comes s in omega (arith, one, least, some)
        moved s n one (inr over) = let none = comes_over s over in omega (arith, one, none)
