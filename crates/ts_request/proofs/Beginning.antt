-- An upload begins: the head gets its framing line, and the body sets out.
use Rattle.std.proofs.Common.{◌≡◌, ℕ, ◌+◌, ◌*◌, ◌-◌, ◌≤◌, List, [], ◌∷◌, ◌++◌, length, take, drop, map, Bool}
use Rattle.std.proofs.Common.{true, false, refl, sym, ap, subst, ◌∙◌, arith, length-append}
use Rattle.std.specs.Prelude.{Option, Some, None}
use Rattle.std.proofs.lemmas.Bool.{true≢false}
use Rattle.std.proofs.lemmas.List.{append-nil, length-map, take-append-drop}
use Rattle.std.proofs.lemmas.List.Elements.{All-nil}
use Rattle.httparse.specs.Ascii.{crlf_bytes}
use Rattle.ts_config.specs.declared.setup.TransformLine.{TransformLine}
use Rattle.ts_link.specs.Link.{NoMore}
use Rattle.ts_link.specs.declared.link.Link as link
use Rattle.ts_passing.specs.Inserted.{AllChangeNoMore, AreOfLines}
use Rattle.ts_passing.specs.Lines.{lines_length, passes}
use Rattle.ts_passing.specs.Sends.{Sends}
use Rattle.ts_passing.proofs.Early.{behind_none}
use Rattle.ts_passing.proofs.InsertedStages.{fresh_changes, fresh_work}
use Rattle.ts_passing.proofs.Parting.{compose_of_lines, soon_of_lines}
use Rattle.ts_transform.specs.Flow.{fresh_stage, left_to_do, passing, soon_flow}
use Rattle.ts_transform.specs.declared.pump.Stage.{Stage}
use Rattle.ts_transform.specs.declared.transform.Transform as transform
use Rattle.ts_upstream.specs.declared.upstream.Upstream as upstream
use Rattle.ts_wire.specs.Limits.{framing_limit}
use Rattle.ts_wire.specs.Printed.{framing_line, with_framing}
use Rattle.ts_wire.specs.declared.body.BodyState.TheVariants as B
use Rattle.ts_wire.specs.declared.framing.Framing.{Framing}
use Rattle.ts_wire.specs.declared.frames.Mode.{Mode}
use Rattle.ts_wire.specs.declared.printed.ClientFraming.{ClientFraming}
use Rattle.ts_wire.specs.Frames.{IsPiece}
use Rattle.ts_wire.specs.Place.{state_of}
use Rattle.ts_wire.proofs.ShortLines.{framing_short}
use Rattle.ts_request.specs.BodyWay.{Passes, Writes, mode_said, more_comes, passage_left, to_come, to_read}
use Rattle.ts_request.specs.Begun.{Begins}
use Rattle.ts_request.specs.Carrying.{behind_head, carrier_look, look_over, request_lines, without_line}
use Rattle.ts_request.specs.Front.{FrontSeen, body_most}
use Rattle.ts_request.specs.Making.{IsFreshPassage}
use Rattle.ts_request.specs.Pairing.{CarrierPair, HoldsBack, StandsFirst, WayBy, all_sent, carrier_left}
use Rattle.ts_request.specs.Pairing.{fresh_left, held_left, own_of, source_of, way_left, work_left}
use Rattle.ts_request.specs.Sent.{sent_framing, sent_head}
use Rattle.ts_request.specs.Upload.{LacksUpload}
use Rattle.ts_request.specs.declared.carrier.Carrier.{Carrier}
use Rattle.ts_request.specs.declared.carrier.HeadState.{HeadState}
use Rattle.ts_request.specs.declared.carrier.HeadState.TheVariants as H
use Rattle.ts_request.specs.declared.carrier.TheConstants.{MOST_HELD}
use Rattle.ts_request.specs.declared.passage.Passage.{Passage}
use Rattle.ts_request.specs.declared.stage.Stage.TheVariants as S
use Rattle.ts_request.proofs.Bodies.{calm_work}
use Rattle.ts_request.proofs.Told.{behind_told, told_is, unlines_framed, unlines_plain}

-- ---- a body that sets out

same_count : {P : Type 0} (stage : transform.Ghosts P TransformLine) (ls : List TransformLine) (ps : List P)
    → AreOfLines stage ls ps → length ps ≡ length ls
same_count stage [] [] of = refl
same_count stage [] (p ∷ ps) of = absurd of
same_count stage (l ∷ ls) [] of = absurd of
same_count stage (l ∷ ls) (p ∷ ps) of = let rest = same_count stage ls ps of.3 in omega (arith, rest)

module _ {P : Type 0} (stage : transform.Ghosts P TransformLine) (lines : List TransformLine)
    (framing : Framing)
    (mode : Mode) (p : Passage P) (h : IsFreshPassage stage lines framing mode p) where
  fresh_sends : Sends stage.rest stage.soon lines [] [] p.chain
  fresh_sends = record {
    flows = λ z last. h.composes.flow z ∙ compose_of_lines stage lines h.parts h.of_lines z;
    so = λ going z. sym (soon_of_lines stage lines h.parts h.of_lines z) ∙ sym (h.composes.soon_too z)
        ∙ sym (behind_none (soon_flow stage.soon p.chain z));
    settled = h.composes.settled;
  }

  pub fresh_passes : Passes stage lines framing [] [] [] p
  fresh_passes = record {
    place = p.body;
    is_fed = h.fed;
    now = λ kept. refl;
    sends = fresh_sends;
    over = λ given. absurd (true≢false (sym given ∙ h.given));
    goes_on = λ going ended. let wrong : B.Unfinished ≡ B.Ended = sym h.waits ∙ ended in cc;
    of_lines = record {
      few =
          let count = same_count stage lines h.parts h.of_lines in
          let len = ap length h.stages ∙ length-map h.parts (fresh_stage stage.soon stage.pause) in
          omega (arith, count, len);
      changes = subst (λ (ss : List (Stage P)). AllChangeNoMore stage.rest ss) (sym h.stages)
          (fresh_changes stage lines h.parts h.of_lines);
    };
  }

  pub fresh_writes : Writes stage lines framing [] [] [] p
  fresh_writes = record {
    pieces = [];
    each = All-nil IsPiece;
    text_is = ap (λ (b : Bool). Rattle.ts_wire.specs.Frames.frames p.mode [] b) (sym h.unended);
    way = fresh_passes;
    finished = λ ended. absurd (true≢false (sym ended ∙ h.unended));
  }

  -- it has no more to do than its lines' texts
  pub fresh_least : passage_left stage.rest p ≤ fresh_left lines
  fresh_least =
      let left : left_to_do stage.rest p.chain []
      ≡ passing stage.rest (map (fresh_stage stage.soon stage.pause) h.parts) [] =
      λ i. passing stage.rest (h.stages i) (h.first i ++ []) in
      let room : passing stage.rest (map (fresh_stage stage.soon stage.pause) h.parts) [] + 2 * length h.parts
      ≤ passes lines (lines_length lines + 3) =
      fresh_work stage lines h.parts h.of_lines [] (lines_length lines) (omega arith) in
      let still : to_come p.ended ≡ 1 = ap to_come h.unended in
      let more : more_comes (state_of p.body.phase) ≡ 1 = ap more_comes h.waits in
      omega (arith, left, room, still, more)

-- ---- the head with its line

framed_length : (head : List ℕ) (said : ClientFraming)
    → length (with_framing head said) ≡ length head + length (framing_line said)
framed_length head said =
    let front = length head - length crlf_bytes in
    let whole = ap length (take-append-drop front head) in
    omega (
      arith,
      whole,
      length-append (take front head) (drop front head),
      length-append (take front head ++ framing_line said) (drop front head),
      length-append (take front head) (framing_line said),
    )

pub line_long : (head sent : List ℕ) (said : ClientFraming) → sent ≡ with_framing head said
    → (length head ≤ length sent) × (length sent - length head ≡ length (framing_line said))
line_long head sent said is =
    let len = ap length is ∙ framed_length head said in (omega (arith, len), omega (arith, len))

module _ {C O P : Type 0} (client : link.Ghosts C) (origin : link.Ghosts O) (inner : upstream.Ghosts O C)
    (stage : transform.Ghosts P TransformLine) (f : FrontSeen C) (c : Carrier O P) where
  -- the head was held
  way_held : (head : HeadState) → head ≡ H.Held → WayBy client origin inner stage head c.passage f c
      → HoldsBack client origin inner stage f c
  way_held H.Held is way = way
  way_held (H.Sent len line) is way = absurd (let wrong : H.Sent len line ≡ H.Held = is in cc)

  -- what is told stays: the head, and nothing behind it
  module _ (len line : ℕ) (sent : List ℕ → List ℕ) (out : List ℕ) (passage : Option (Passage P))
      (held : c.head ≡ H.Held)
      (h : HoldsBack client origin inner stage f c) (long : length c.out ≡ len) (text : out ≡ sent c.out)
      (unlines : Rattle.ts_request.proofs.Told.Unlines len line sent) where
    abbrev pub begun_with : Carrier O P
    begun_with = record c { out = out; head = H.Sent len line; passage = passage }

    sent_all : origin.tells ≡ true → all_sent origin.look begun_with ≡ sent c.out ++ []
    sent_all told = (λ i. h.taken told i ++ text i) ∙ sym (append-nil (sent c.out))

    pub head_stands : origin.tells ≡ true
        → StandsFirst origin.look len sent (own_of origin.look c) begun_with
    head_stands told = record {
      head = c.out;
      long = long;
      text = sent_all told ∙ ap (λ xs. sent c.out ++ xs) (sym (h.own told));
    }

    taken_before : origin.tells ≡ true → all_sent origin.look c ≡ c.out
    taken_before told = ap (λ xs. xs ++ c.out) (h.taken told)

    by_told : (t : Bool) → (t ≡ true → origin.tells ≡ true)
        → look_over t (origin.look c.origin) begun_with ≡ look_over t (origin.look c.origin) c
    by_told true told =
        let now = unlines c.out [] long in
        λ i. record (look_over true (origin.look c.origin) c) {
          taken = (ap (without_line (H.Sent len line)) (sent_all (told refl)) ∙ now ∙ append-nil c.out
              ∙ sym (taken_before (told refl))
              ∙ ap (λ (x : HeadState). without_line x (all_sent origin.look c)) (sym held)) i;
          carried = (ap (behind_head (H.Sent len line) (own_of origin.look c)) (sent_all (told refl))
              ∙ behind_told len line sent (own_of origin.look c) c.out [] unlines long
              ∙ sym (h.own (told refl))
              ∙ ap (λ (x : HeadState). behind_head x (own_of origin.look c) (all_sent origin.look c))
              (sym held)) i;
        }
    by_told false told = refl

    pub look_stays : carrier_look origin.tells origin.look begun_with
        ≡ carrier_look origin.tells origin.look c
    look_stays = by_told origin.tells (λ is. is)

    -- and no more is left to do than room was told for
    pub left_stays : length out ≤ MOST_HELD + framing_limit
        → way_left (request_lines c) stage.rest (body_most f.text (client.look f.client))
        (length c.inbox) passage
        ≤ to_read (request_lines c) (body_most f.text (client.look f.client)) 0 + fresh_left (request_lines c)
        → NoMore (carrier_left client origin inner stage f c)
        (carrier_left client origin inner stage f begun_with)
    left_stays fits way =
        let most = body_most f.text (client.look f.client) in
        let asked : to_come c.asked ≤ 1 = come_one c.asked in
        let over : to_come c.over ≤ 1 = come_one c.over in
        let before : work_left stage.rest most c.head c ≡ held_left (request_lines c) most =
        ap (λ (x : HeadState). work_left stage.rest most x c) held in
        calm_work client.tells origin.tells (inner.upload_left f.client c.origin)
        (work_left stage.rest most c.head c)
        (work_left stage.rest most (H.Sent len line) begun_with) (omega (
          arith,
          before,
          asked,
          over,
          fits,
          way,
        ))
      where
        come_one : (b : Bool) → to_come b ≤ 1
        come_one true = omega arith
        come_one false = omega arith

  -- ---- a request without an upload

  module _ (held : c.head ≡ H.Held) (pair : CarrierPair client origin inner stage f c)
      (lacks : client.tells ≡ true → LacksUpload (source_of client.look f)) (len : ℕ)
      (long : length c.out ≡ len) where
    abbrev pub plain_on : Carrier O P
    plain_on = record c { head = H.Sent len 0 }

    pub begins_plain : Begins client origin inner stage f c plain_on
    begins_plain =
        let h = way_held c.head held pair.way in
        let unlines = unlines_plain len 0 refl in
        let plain : WayBy client origin inner stage (H.Sent len 0) None f plain_on = record {
          line_is = refl;
          lacks = lacks;
          stands = λ told.
              let s = head_stands len 0 (λ head. head) c.out c.passage held h long refl unlines told in
              record { head = s.head; long = s.long; text = s.text };
        } in
        record {
          begun = (len, 0, refl);
          pair = record {
            inside = pair.inside;
            acts = pair.acts;
            way = subst
                (λ (x : Option (Passage P)). WayBy client origin inner stage (H.Sent len 0) x f plain_on)
                (sym h.passage) plain;
            own_done = pair.own_done;
            done = λ over. absurd (true≢false (sym over ∙ h.over));
          };
          look = look_stays len 0 (λ head. head) c.out c.passage held h long refl unlines;
          origin_is = refl;
          setup = refl;
          left = left_stays len 0 (λ head. head) c.out c.passage held h long refl unlines
              (let few = h.few in omega (arith, few))
              (subst (λ (x : Option (Passage P)). way_left (request_lines c) stage.rest
              (body_most f.text (client.look f.client)) (length c.inbox) x
              ≤ to_read (request_lines c) (body_most f.text (client.look f.client)) 0
              + fresh_left (request_lines c))
              (sym h.passage) (omega arith));
        }

  -- ---- a request with one

  module _ (held : c.head ≡ H.Held) (pair : CarrierPair client origin inner stage f c) (framing : Framing)
      (uploading : f.text.stage ≡ S.Uploading framing) (out : List ℕ)
      (text : out ≡ with_framing c.out (sent_framing framing (request_lines c))) (p : Passage P)
      (fresh : IsFreshPassage stage (request_lines c) framing
      (mode_said (sent_framing framing (request_lines c))) p)
      (len line : ℕ) (long : length c.out ≡ len)
      (line_is : line ≡ length (framing_line (sent_framing framing (request_lines c)))) where
    abbrev pub body_on : Carrier O P
    body_on = record c { out = out; head = H.Sent len line; passage = Some p }

    pub begins_body : Begins client origin inner stage f c body_on
    begins_body =
        let said = sent_framing framing (request_lines c) in
        let h = way_held c.head held pair.way in
        let unlines = unlines_framed len line said line_is in
        record {
          begun = (len, line, refl);
          pair = record {
            inside = pair.inside;
            acts = pair.acts;
            way = record {
              framing = framing;
              uploading = uploading;
              line_is = line_is;
              mode_is = fresh.mode_is;
              fed = [];
              read = [];
              text = [];
              came = λ told. h.handed told ∙ sym h.inbox;
              writes = fresh_writes stage (request_lines c) framing (mode_said said) p fresh;
              before = λ waits. refl;
              stands = λ told.
                  let s = head_stands len line (sent_head framing (request_lines c)) out (Some p) held h long
                  text
                  unlines told in
                  record {
                    head = s.head;
                    long = s.long;
                    text = s.text ∙ ap (λ xs. sent_head framing (request_lines c) s.head ++ xs)
                        (sym (append-nil (own_of origin.look c)));
                  };
            };
            own_done = pair.own_done;
            done = λ over. absurd (true≢false (sym over ∙ h.over));
          };
          look = look_stays len line (sent_head framing (request_lines c)) out
              (Some p) held h long text unlines;
          origin_is = refl;
          setup = refl;
          left = left_stays len line (sent_head framing (request_lines c)) out
              (Some p) held h long text unlines
              (let few = h.few in
              let short = framing_short said in
              let all = ap length text ∙ framed_length c.out said in
              omega (arith, few, short, all))
              (let none : length c.inbox ≡ 0 = ap length h.inbox in
              let least = fresh_least stage (request_lines c) framing (mode_said said) p fresh in
              subst (λ (n : ℕ). to_read (request_lines c) (body_most f.text (client.look f.client)) n
              + passage_left stage.rest p
              ≤ to_read (request_lines c) (body_most f.text (client.look f.client)) 0
              + fresh_left (request_lines c))
              (sym none) (omega (arith, least)));
        }
