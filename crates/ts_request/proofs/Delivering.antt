-- What holds of a front and a carrier that belong together says what the origin took.
use Rattle.std.proofs.Common.{◌≡◌, ℕ, inl, inr, List, [], ◌++◌, length, true, refl, sym, ap, subst, ◌∙◌}
use Rattle.std.proofs.Common.{arith}
use Rattle.std.specs.Prelude.{Option, Some, None}
use Rattle.std.proofs.lemmas.Bool.{false≢true}
use Rattle.std.proofs.lemmas.List.{append-nil}
use Rattle.ts_config.specs.declared.setup.TransformLine.{TransformLine}
use Rattle.ts_config.specs.declared.setup.Setup.{Setup}
use Rattle.ts_passing.specs.Lines.{ActsAsLines}
use Rattle.ts_link.specs.declared.link.Link as link
use Rattle.ts_transform.specs.declared.transform.Transform as transform
use Rattle.ts_upstream.specs.declared.upstream.Upstream as upstream
use Rattle.ts_wire.specs.Body.{BodyOf}
use Rattle.ts_wire.specs.Frames.{cut_body, frames}
use Rattle.ts_wire.specs.Place.{state_of}
use Rattle.ts_request.specs.Carrying.{IsFreshCarrier, behind_head, request_lines, without_line}
use Rattle.ts_request.specs.Delivered.{Delivers, Took, held, plain, upload, upload_text}
use Rattle.ts_request.specs.Front.{FrontSeen, fresh_front}
use Rattle.ts_request.specs.Pairing.{CarrierPair, HoldsBack, IsDone, SendsBody, SendsPlain, StandsFirst}
use Rattle.ts_request.specs.Pairing.{WayBy, all_sent, handed_of, own_of, source_of}
use Rattle.ts_request.specs.Sent.{sent_framing, sent_head}
use Rattle.ts_request.specs.declared.carrier.Carrier.{Carrier}
use Rattle.ts_request.specs.declared.carrier.HeadState.{HeadState}
use Rattle.ts_request.specs.declared.carrier.HeadState.TheVariants as H
use Rattle.ts_request.specs.declared.passage.Passage.{Passage}
use Rattle.ts_request.proofs.BodyWay.{finished_whole, passes_front}
use Rattle.ts_request.proofs.Judging.{body_fed}
use Rattle.ts_request.proofs.Told.{Unlines, behind_told, told_is, unlines_framed, unlines_plain}

module _ {C O P : Type 0} (client : link.Ghosts C) (origin : link.Ghosts O) (inner : upstream.Ghosts O C)
    (stage : transform.Ghosts P TransformLine) (f : FrontSeen C) (c : Carrier O P)
    (pair : CarrierPair client origin inner stage f c) (tells : origin.tells ≡ true)
    (none : own_of origin.look c ≡ []) where
  abbrev taken : List ℕ
  taken = (origin.look c.origin).taken

  -- all was taken once nothing waits
  all_taken : (text : List ℕ) → all_sent origin.look c ≡ text → c.out ≡ [] → taken ≡ text
  all_taken text is empty = sym (append-nil taken) ∙ ap (λ xs. taken ++ xs) (sym empty) ∙ is

  -- what is told, by what stands first
  abbrev Tells : HeadState → List ℕ → Type 0
  Tells h head = without_line h (all_sent origin.look c)
      ≡ head ++ behind_head h (own_of origin.look c) (all_sent origin.look c)

  told_by : (len line : ℕ) (sent : List ℕ → List ℕ) (head behind : List ℕ) → Unlines len line sent
      → length head ≡ len → all_sent origin.look c ≡ sent head ++ behind → Tells (H.Sent len line) head
  told_by len line sent head behind unlines long is =
      ap (without_line (H.Sent len line)) is ∙ unlines head behind long
      ∙ ap (λ xs. head ++ xs) (sym (behind_told len line sent (own_of origin.look c) head behind unlines long)
      ∙ sym (ap (behind_head (H.Sent len line) (own_of origin.look c)) is))

  took_body : (len line : ℕ) (p : Passage P) → c.passage ≡ Some p
      → (b : SendsBody client origin inner stage len line p f c) → (s : StandsFirst origin.look len
      (sent_head b.framing (request_lines c)) (own_of origin.look c ++ b.text) c)
      → Took client origin f c s.head
  took_body len line p is b s =
      let lines = request_lines c in
      let way = b.writes.way in
      let text : all_sent origin.look c ≡ upload_text b.framing lines s.head b.writes.pieces p.ended =
      s.text ∙ ap (λ own. sent_head b.framing lines s.head ++ (own ++ b.text)) none
      ∙ ap (λ xs. sent_head b.framing lines s.head ++ xs) b.writes.text_is
      ∙ ap (λ m. sent_head b.framing lines s.head ++ frames m b.writes.pieces p.ended) b.mode_is in
      upload b.framing b.uploading (record {
        fed = b.fed;
        waits = c.inbox;
        came_is = b.came;
        read = b.read;
        state = state_of way.place.phase;
        body = subst (λ (x : List ℕ). BodyOf b.framing x b.read (state_of way.place.phase)) (append-nil b.fed)
            (body_fed b.framing b.fed b.read [] way.place (state_of way.place.phase) way.is_fed refl
            (λ e. refl));
        pieces = b.writes.pieces;
        each = b.writes.each;
        fin = p.ended;
        took = text;
        ended = p.chain.given;
        ends = way.over;
        front = passes_front stage lines b.framing b.fed b.read (cut_body b.writes.pieces) p way;
        closes = λ fin. finished_whole stage lines b.framing b.fed b.read (cut_body b.writes.pieces) p
            (b.writes.finished fin) way;
        whole = λ over.
            let done = pair.done over in
            let ended : p.ended ≡ true =
            subst (λ (x : Option (Passage P)). Rattle.ts_request.specs.Pairing.IsEnded x) is done.ended in
            let whole = finished_whole stage lines b.framing b.fed b.read (cut_body b.writes.pieces) p
            (b.writes.finished ended) way in
            record {
              text = all_taken (upload_text b.framing lines s.head b.writes.pieces true)
                  (text ∙ ap (λ fin. upload_text b.framing lines s.head b.writes.pieces fin) ended) done.sent;
              whole = whole.whole;
              over = elim whole.over [ inl given ↦ inl (way.over given) | inr early ↦ inr early ];
            };
      })

  by_state : (h : HeadState) (passage : Option (Passage P)) → c.head ≡ h → c.passage ≡ passage
      → WayBy client origin inner stage h passage f c
      → (head : List ℕ) × Tells h head × Took client origin f c head
  by_state H.Held passage at same way =
      let empty : taken ≡ [] = way.taken tells in (
        all_sent origin.look c,
        sym (append-nil (all_sent origin.look c)) ∙ ap (λ xs. all_sent origin.look c ++ xs) (sym none),
        held at empty way.over,
      )
  by_state (H.Sent len line) None at same way =
      let s = way.stands tells in
      let text = s.text ∙ ap (λ own. s.head ++ own) none ∙ append-nil s.head in (
        s.head,
        told_by len line (λ head. head) s.head (own_of origin.look c)
            (unlines_plain len line way.line_is) s.long s.text,
        plain way.lacks text (λ over. all_taken s.head text (pair.done over).sent),
      )
  by_state (H.Sent len line) (Some p) at same way =
      let s = way.stands tells in (
        s.head,
        told_by len line (sent_head way.framing (request_lines c)) s.head (own_of origin.look c ++ way.text)
            (unlines_framed len line (sent_framing way.framing (request_lines c)) way.line_is) s.long s.text,
        took_body len line p same way s,
      )

  pub delivers : Delivers client origin f c
  delivers =
      let found = by_state c.head c.passage refl refl pair.way in
      record {
        head = found.0;
        told = told_is origin.tells _ [] tells ∙ found.1
            ∙ ap (λ xs. found.0 ++ xs) (sym (told_is origin.tells _ [] tells));
        took = found.2;
      }

-- ---- a front and a carrier of which no call was made

module _ {C O P : Type 0} (client : link.Ghosts C) (origin : link.Ghosts O) (inner : upstream.Ghosts O C)
    (stage : transform.Ghosts P TransformLine) (f : FrontSeen C) (c : Carrier O P) (l : C) (o : O)
    (setup : Setup)
    (fresh : f ≡ fresh_front l) (made : IsFreshCarrier o setup c) (inside : inner.paired l o)
    (acts : ActsAsLines stage)
    (new : origin.tells ≡ true → ((origin.look o).taken ≡ []) × ((origin.look o).carried ≡ [])) where
  held_fresh : HoldsBack client origin inner stage f c
  held_fresh = record {
    passage = made.passage;
    inbox = made.inbox;
    asked = made.asked;
    over = made.over;
    few = let none : length c.out ≡ 0 = ap length made.out in omega (arith, none);
    handed = λ told. ap (λ (x : FrontSeen C). handed_of client.look x) fresh;
    taken = λ told. ap (λ x. (origin.look x).taken) made.origin_is ∙ (new told).0;
    own = λ told. ap (λ x. (origin.look x).carried) made.origin_is ∙ (new told).1;
  }

  pub pairs_fresh : CarrierPair client origin inner stage f c
  pairs_fresh = record {
    inside = subst (λ (x : O). inner.paired f.client x) (sym made.origin_is)
        (subst (λ (x : FrontSeen C). inner.paired x.client o) (sym fresh) inside);
    acts = acts;
    way = subst (λ (h : HeadState). WayBy client origin inner stage h c.passage f c)
        (sym made.head) held_fresh;
    own_done = λ asked told refused. absurd (false≢true (sym made.asked ∙ asked));
    done = λ over. absurd (false≢true (sym made.over ∙ over));
  }
