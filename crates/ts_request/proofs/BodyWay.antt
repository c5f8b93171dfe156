-- The way of a request's body: each step keeps what holds of it, and what was framed is a front of the
-- request lines' work, and at the end the whole.
use Rattle.std.proofs.Common.{◌≡◌, ◌≢◌, ℕ, inl, inr, List, [], ◌∷◌, ◌++◌, length, Bool, true, false, arith}
use Rattle.std.proofs.Common.{refl, sym, ap, subst, ◌∙◌}
use Rattle.std.specs.Prelude.{Option, Some, flat_map}
use Rattle.std.specs.Bool.{OnTrue}
use Rattle.std.proofs.lemmas.Bool.{OnTrue_from, true≢false, false≢true}
use Rattle.std.proofs.lemmas.List.{append-nil}
use Rattle.std.proofs.lemmas.List.Elements.{All-append, All-cons, All-nil}
use Rattle.std.proofs.lemmas.Grind.{flat_map-append}
use Rattle.ts_config.specs.declared.setup.TransformLine.{TransformLine}
use Rattle.ts_config.specs.Bodies.{compose_lines, is_early}
use Rattle.ts_passing.specs.Feeding.{GetsPart}
use Rattle.ts_passing.specs.Inserted.{AllChangeNoMore, ChangesNoMore}
use Rattle.ts_passing.specs.Lines.{IsOfSome}
use Rattle.ts_passing.specs.Sends.{Sends}
use Rattle.ts_passing.proofs.Early.{finished_early, rests_soon, sends_given, sends_kept, sends_taken}
use Rattle.ts_passing.proofs.Early.{stays_short}
use Rattle.ts_passing.proofs.InsertedStages.{pumped_lines}
use Rattle.ts_transform.specs.Flow.{ChainState, IsFinished, Rests, Takes, TakesAway, flow, given_if, wants}
use Rattle.ts_transform.specs.Stage.{rest_of}
use Rattle.ts_transform.specs.declared.pump.Part.{Part}
use Rattle.ts_transform.specs.declared.pump.Stage.{Stage}
use Rattle.ts_transform.specs.declared.transform.Transform as transform
use Rattle.ts_transform.proofs.Flowing.{flow-finished}
use Rattle.ts_wire.specs.declared.body.BodyState.{BodyState}
use Rattle.ts_wire.specs.declared.body.BodyState.TheVariants as B
use Rattle.ts_wire.specs.declared.framing.Framing.{Framing}
use Rattle.ts_wire.specs.declared.frames.Mode.{Mode}
use Rattle.ts_wire.specs.Frames.{IsPiece, cut_body, end_of, frame_of, frames}
use Rattle.ts_wire.specs.Place.{IsFed, Place, state_of}
use Rattle.ts_request.specs.BodyWay.{IsFrontOfWork, IsWholeWork, Passes, Writes}
use Rattle.ts_request.specs.PassageSteps.{FeedsPassage, FramesPiece, LosesPart, Works}
use Rattle.ts_request.specs.declared.passage.Passage.{Passage}

-- ---- a chain stays one of the lines

taken_changes : {P : Type 0} (rest : P → List ℕ → List ℕ) (from : List ℕ) (ss : List (Stage P)) (n : ℕ)
    (from' : List ℕ) (ss' : List (Stage P)) → Takes from ss n from' ss' → AllChangeNoMore rest ss
    → AllChangeNoMore rest ss'
taken_changes {P} rest from [] n from' ss' takes all =
    subst (λ (xs : List (Stage P)). AllChangeNoMore rest xs) (sym takes.1) tt
taken_changes rest from (s ∷ ss) n from' [] takes all = tt
taken_changes {P} rest from (s ∷ ss) n from' (s' ∷ ss') takes all = (
  subst (λ (p : Option (Part P)). ChangesNoMore (rest_of rest p)) (sym takes.1) all.0,
  taken_changes rest s.after ss n s'.after ss' takes.2 all.1,
)

taken_lines : {P : Type 0} (lines : List TransformLine) (rest : P → List ℕ → List ℕ) (n : ℕ)
    (c d : ChainState P)
    → TakesAway rest n c d → IsOfSome lines rest c → IsOfSome lines rest d
taken_lines lines rest n c d takes of = record {
  few = omega (arith, takes.len, of.few);
  changes = taken_changes rest c.first c.stages n d.first d.stages takes.takes of.changes;
}

same_lines : {P : Type 0} (lines : List TransformLine) (rest : P → List ℕ → List ℕ) (c d : ChainState P)
    → d.stages ≡ c.stages → IsOfSome lines rest c → IsOfSome lines rest d
same_lines {P} lines rest c d same of = record {
  few = omega (arith, ap length same, of.few);
  changes = subst (λ (ss : List (Stage P)). AllChangeNoMore rest ss) (sym same) of.changes;
}

-- ---- the text of some pieces

-- one piece more is framed
pub framed_more : (mode : Mode) (pieces : List (List ℕ)) (piece : List ℕ)
    → frames mode pieces false ++ frame_of mode piece ≡ frames mode (pieces ++ piece ∷ []) false
framed_more mode pieces piece =
    ap (λ (x : List ℕ). x ++ frame_of mode piece) (append-nil (flat_map (frame_of mode) pieces))
    ∙ ap (λ (x : List ℕ). flat_map (frame_of mode) pieces ++ x) (sym (append-nil (frame_of mode piece)))
    ∙ sym (flat_map-append (frame_of mode) pieces (piece ∷ []))
    ∙ sym (append-nil (flat_map (frame_of mode) (pieces ++ piece ∷ [])))

cut_more : (pieces : List (List ℕ)) (piece : List ℕ)
    → cut_body (pieces ++ piece ∷ []) ≡ cut_body pieces ++ piece
cut_more pieces piece =
    flat_map-append (λ (p : List ℕ). p) pieces (piece ∷ [])
    ∙ ap (λ (x : List ℕ). cut_body pieces ++ x) (append-nil piece)

-- and so is the end
ended_more : (mode : Mode) (pieces : List (List ℕ))
    → frames mode pieces false ++ end_of mode ≡ frames mode pieces true
ended_more mode pieces = ap (λ (x : List ℕ). x ++ end_of mode) (append-nil (flat_map (frame_of mode) pieces))

module _ {P : Type 0} (stage : transform.Ghosts P TransformLine) (lines : List TransformLine)
    (framing : Framing)
  where
    -- ---- each step keeps what holds of the way

    -- what came of a part, by the state of the body
    got_sends : (state : BodyState) (read part sent : List ℕ) (c d : ChainState P) → c.given ≡ false
        → GetsPart state part c d → Sends stage.rest stage.soon lines read sent c
        → Sends stage.rest stage.soon lines (read ++ part) sent d
    got_sends B.Unfinished read part sent c d going gets s =
        subst (λ (x : ChainState P). Sends stage.rest stage.soon lines (read ++ part) sent x)
        (sym (gets
        ∙ ap (λ (b : Bool). record c { first = given_if (wants c) c.first part; given = b }) going))
        (sends_given stage.rest stage.soon lines read sent part c false going s)
    got_sends B.Ended read part sent c d going gets s =
        subst (λ (x : ChainState P). Sends stage.rest stage.soon lines (read ++ part) sent x) (sym gets)
        (sends_given stage.rest stage.soon lines read sent part c true going s)
    got_sends B.Bad read part sent c d going gets s =
        subst (λ (x : ChainState P). Sends stage.rest stage.soon lines (read ++ part) sent x)
        (sym (gets
        ∙ ap (λ (b : Bool). record c { first = given_if (wants c) c.first part; given = b }) going))
        (sends_given stage.rest stage.soon lines read sent part c false going s)

    got_over : (state : BodyState) (part : List ℕ) (c d : ChainState P) → c.given ≡ false
        → GetsPart state part c d
        → d.given ≡ true → state ≡ B.Ended
    got_over B.Unfinished part c d going gets given =
        absurd (true≢false (sym given ∙ ap (λ (x : ChainState P). x.given) gets ∙ going))
    got_over B.Ended part c d going gets given = refl
    got_over B.Bad part c d going gets given =
        absurd (true≢false (sym given ∙ ap (λ (x : ChainState P). x.given) gets ∙ going))

    got_open : (state : BodyState) (part : List ℕ) (c d : ChainState P) → GetsPart state part c d
        → d.given ≡ false → state ≢ B.Ended
    got_open B.Unfinished part c d gets goes is = let wrong : B.Unfinished ≡ B.Ended = is in cc
    got_open B.Ended part c d gets goes is =
        false≢true (sym goes ∙ ap (λ (x : ChainState P). x.given) gets)
    got_open B.Bad part c d gets goes is = let wrong : B.Bad ≡ B.Ended = is in cc

    got_stages : (state : BodyState) (part : List ℕ) (c d : ChainState P) → GetsPart state part c d
        → d.stages ≡ c.stages
    got_stages B.Unfinished part c d gets = ap (λ (x : ChainState P). x.stages) gets
    got_stages B.Ended part c d gets = ap (λ (x : ChainState P). x.stages) gets
    got_stages B.Bad part c d gets = ap (λ (x : ChainState P). x.stages) gets

    -- a block is fed
    pub passes_fed : (fed read sent before after : List ℕ) (p q : Passage P) → p.lost ≡ false
        → p.chain.given ≡ false
        → (f : FeedsPassage p q before after) → Passes stage lines framing fed read sent p
        → Passes stage lines framing (fed ++ f.feeds.piece) (read ++ f.feeds.part) sent q
    passes_fed fed read sent before after p q kept going f w =
        let state = state_of q.body.phase in
        record {
          place = q.body;
          is_fed = f.feeds.goes framing fed read
              (subst (λ (x : Place). IsFed framing fed read x) (sym (w.now kept)) w.is_fed);
          now = λ still. refl;
          sends = got_sends state read f.feeds.part sent p.chain q.chain going f.feeds.gets w.sends;
          over = λ given. got_over state f.feeds.part p.chain q.chain going f.feeds.gets given;
          goes_on = λ goes. got_open state f.feeds.part p.chain q.chain f.feeds.gets goes;
          of_lines = same_lines lines stage.rest p.chain q.chain
              (got_stages state f.feeds.part p.chain q.chain f.feeds.gets) w.of_lines;
        }

    -- the chain and the place that it is behind stay as they are
    passes_same : (fed read sent : List ℕ) (p q : Passage P) → q.chain ≡ p.chain
        → (w : Passes stage lines framing fed read sent p) → (q.lost ≡ false → q.body ≡ w.place)
        → Passes stage lines framing fed read sent q
    passes_same fed read sent p q same w now = record {
      place = w.place;
      is_fed = w.is_fed;
      now = now;
      sends = subst (λ (c : ChainState P). Sends stage.rest stage.soon lines read sent c) (sym same) w.sends;
      over = λ given. w.over (sym (ap (λ (c : ChainState P). c.given) same) ∙ given);
      goes_on = λ goes. w.goes_on (sym (ap (λ (c : ChainState P). c.given) same) ∙ goes);
      of_lines = subst (λ (c : ChainState P). IsOfSome lines stage.rest c) (sym same) w.of_lines;
    }

    -- memory lacks for a part
    passes_lost : (fed read sent : List ℕ) (p q : Passage P) → LosesPart p q
        → Passes stage lines framing fed read sent p → Passes stage lines framing fed read sent q
    passes_lost fed read sent p q loses w =
        passes_same fed read sent p q loses.chain w (λ kept. absurd (true≢false (sym loses.lost ∙ kept)))

    -- a stage works
    passes_worked : (fed read sent : List ℕ) (p q : Passage P) → Works stage.rest stage.soon p q
        → Passes stage lines framing fed read sent p → Passes stage lines framing fed read sent q
    passes_worked fed read sent p q works w = record {
      place = w.place;
      is_fed = w.is_fed;
      now = λ kept. ap (λ (x : Passage P). x.body) works.others
          ∙ w.now (sym (ap (λ (x : Passage P). x.lost) works.others) ∙ kept);
      sends = sends_kept stage.rest stage.soon lines read sent p.chain q.chain works.flow works.given w.sends;
      over = λ given. w.over (sym works.given ∙ given);
      goes_on = λ goes. w.goes_on (sym works.given ∙ goes);
      of_lines = pumped_lines lines stage.rest works.at p.chain q.chain works.pumps works.few w.of_lines;
    }

    -- a piece is framed
    passes_framed : (fed read sent before after : List ℕ) (p q : Passage P)
        → (f : FramesPiece stage.rest p q before after) → Passes stage lines framing fed read sent p
        → Passes stage lines framing fed read (sent ++ f.piece) q
    passes_framed fed read sent before after p q f w = record {
      place = w.place;
      is_fed = w.is_fed;
      now = λ kept. ap (λ (x : Passage P). x.body) f.others
          ∙ w.now (sym (ap (λ (x : Passage P). x.lost) f.others) ∙ kept);
      sends = sends_taken stage.rest stage.soon lines read sent f.piece
          (length f.piece) p.chain q.chain f.takes
          f.front w.sends;
      over = λ given. w.over (sym f.takes.given ∙ given);
      goes_on = λ goes. w.goes_on (sym f.takes.given ∙ goes);
      of_lines = taken_lines lines stage.rest (length f.piece) p.chain q.chain f.takes w.of_lines;
    }

    -- ---- and of the text

    pub writes_fed : (fed read text before after : List ℕ) (p q : Passage P) → p.lost ≡ false
        → p.chain.given ≡ false
        → (f : FeedsPassage p q before after) → p.ended ≡ false → Writes stage lines framing fed read text p
        → Writes stage lines framing (fed ++ f.feeds.piece) (read ++ f.feeds.part) text q
    writes_fed fed read text before after p q kept going f unended w = record {
      pieces = w.pieces;
      each = w.each;
      text_is = w.text_is ∙ (λ i. frames (sym f.mode i) w.pieces (sym f.ended i));
      way = passes_fed fed read (cut_body w.pieces) before after p q kept going f w.way;
      finished = λ ended. absurd (true≢false (sym ended ∙ f.ended ∙ unended));
    }

    pub writes_lost : (fed read text : List ℕ) (p q : Passage P) → LosesPart p q
        → Writes stage lines framing fed read text p → Writes stage lines framing fed read text q
    writes_lost fed read text p q loses w = record {
      pieces = w.pieces;
      each = w.each;
      text_is = w.text_is ∙ (λ i. frames (sym loses.mode i) w.pieces (sym loses.ended i));
      way = passes_lost fed read (cut_body w.pieces) p q loses w.way;
      finished = λ ended. subst (λ (c : ChainState P). IsFinished c) (sym loses.chain)
          (w.finished (sym loses.ended ∙ ended));
    }

    pub writes_worked : (fed read text : List ℕ) (p q : Passage P) → Works stage.rest stage.soon p q
        → p.ended ≡ false
        → Writes stage lines framing fed read text p → Writes stage lines framing fed read text q
    writes_worked fed read text p q works unended w = record {
      pieces = w.pieces;
      each = w.each;
      text_is = w.text_is
          ∙ sym (ap (λ (x : Passage P). frames x.mode w.pieces x.ended) works.others);
      way = passes_worked fed read (cut_body w.pieces) p q works w.way;
      finished = λ ended. absurd
          (true≢false (sym ended ∙ ap (λ (x : Passage P). x.ended) works.others ∙ unended));
    }

    pub writes_framed : (fed read text before after : List ℕ) (p q : Passage P)
        → (f : FramesPiece stage.rest p q before after) → p.ended ≡ false
        → Writes stage lines framing fed read text p
        → Writes stage lines framing fed read (text ++ frame_of p.mode f.piece) q
    writes_framed fed read text before after p q f unended w = record {
      pieces = w.pieces ++ f.piece ∷ [];
      each = All-append IsPiece w.pieces (f.piece ∷ []) w.each
          (All-cons IsPiece f.piece [] f.good (All-nil IsPiece));
      text_is =
          ap (λ (x : List ℕ). x ++ frame_of p.mode f.piece)
          (w.text_is ∙ ap (λ (b : Bool). frames p.mode w.pieces b) unended)
          ∙ framed_more p.mode w.pieces f.piece
          ∙ sym (ap (λ (b : Bool). frames p.mode (w.pieces ++ f.piece ∷ []) b) unended)
          ∙ sym (ap (λ (x : Passage P). frames x.mode (w.pieces ++ f.piece ∷ []) x.ended) f.others);
      way = subst (λ (s : List ℕ). Passes stage lines framing fed read s q) (sym (cut_more w.pieces f.piece))
          (passes_framed fed read (cut_body w.pieces) before after p q f w.way);
      finished = λ ended. absurd
          (true≢false (sym ended ∙ ap (λ (x : Passage P). x.ended) f.others ∙ unended));
    }

    pub writes_ended : (fed read text : List ℕ) (p q : Passage P) → q ≡ record p { ended = true }
        → p.ended ≡ false
        → IsFinished p.chain → Writes stage lines framing fed read text p
        → Writes stage lines framing fed read (text ++ end_of p.mode) q
    writes_ended fed read text p q others unended ends w = record {
      pieces = w.pieces;
      each = w.each;
      text_is =
          ap (λ (x : List ℕ). x ++ end_of p.mode)
          (w.text_is ∙ ap (λ (b : Bool). frames p.mode w.pieces b) unended)
          ∙ ended_more p.mode w.pieces
          ∙ sym (ap (λ (x : Passage P). frames x.mode w.pieces x.ended) others);
      way = passes_same fed read (cut_body w.pieces) p q (ap (λ (x : Passage P). x.chain) others) w.way
          (λ kept. ap (λ (x : Passage P). x.body) others
          ∙ w.way.now (sym (ap (λ (x : Passage P). x.lost) others) ∙ kept));
      finished = λ ended. subst (λ (c : ChainState P). IsFinished c)
          (sym (ap (λ (x : Passage P). x.chain) others)) ends;
    }

    -- ---- what was sent is a front of the lines' work

    front_by : (b : Bool) (read sent : List ℕ) (next : List ℕ → List ℕ)
        → ((z : List ℕ) → OnTrue b (z ≡ []) → sent ++ next z ≡ compose_lines lines (read ++ z))
        → IsFrontOfWork lines b read sent
    front_by true read sent next flows =
        (next [], sym (flows [] refl ∙ ap (compose_lines lines) (append-nil read)))
    front_by false read sent next flows = λ more. (next more, sym (flows more tt))

    pub passes_front : (fed read sent : List ℕ) (p : Passage P) → Passes stage lines framing fed read sent p
        → IsFrontOfWork lines p.chain.given read sent
    passes_front fed read sent p w = front_by p.chain.given read sent (flow stage.rest p.chain) w.sends.flows

    -- ---- where the chain has finished, it is the whole

    whole_by : (b : Bool) (fed read sent : List ℕ) (p : Passage P) → p.chain.given ≡ b → IsFinished p.chain
        → Passes stage lines framing fed read sent p → IsWholeWork lines b read sent
    whole_by true fed read sent p given ends w = record {
      whole =
          let last : OnTrue p.chain.given (◌≡◌ {A = List ℕ} [] []) =
          OnTrue_from p.chain.given (◌≡◌ {A = List ℕ} [] []) (λ is. refl) in
          sym (append-nil sent)
          ∙ ap (λ (x : List ℕ). sent ++ x) (sym (flow-finished stage.rest p.chain ends.0 ends.1 [] last))
          ∙ w.sends.flows [] last ∙ ap (compose_lines lines) (append-nil read);
      over = inl refl;
    }
    whole_by false fed read sent p going ends w =
        let early = finished_early stage.rest stage.soon lines read sent p.chain going ends w.sends in
        record {
          whole = early.whole [] ∙ ap (compose_lines lines) (append-nil read);
          over = inr early.early;
        }

    pub finished_whole : (fed read sent : List ℕ) (p : Passage P) → IsFinished p.chain
        → Passes stage lines framing fed read sent p → IsWholeWork lines p.chain.given read sent
    finished_whole fed read sent p ends w = whole_by p.chain.given fed read sent p refl ends w

    -- ---- where it rests before that, no line has finished early

    pub rests_late : ((t : P) (w : List ℕ) → stage.soon t [] ≡ Some w → w ≡ []) → (fed read sent : List ℕ)
        (p : Passage P) → Rests p.chain → (IsFinished p.chain → ⊥) → p.chain.given ≡ false
        → Passes stage lines framing fed read sent p → is_early lines read ≡ false
    rests_late silent fed read sent p rests more going w =
        let short = stays_short stage.rest stage.soon lines read sent p.chain going
        (rests_soon stage.soon silent p.chain w.sends.settled rests more going) w.sends in
        short.goes
