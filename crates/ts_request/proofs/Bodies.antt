-- The steps of a body's way that call no link: a piece is framed, a stage works, the end is framed, a block
-- is fed.
use Rattle.std.proofs.Common.{◌≡◌, ◌≢◌, ℕ, ◌+◌, ◌*◌, ◌≤◌, inl, List, [], ◌∷◌, ◌++◌, length, Bool, true, false}
use Rattle.std.proofs.Common.{refl, sym, ap, subst, ◌∙◌, arith, append_assoc}
use Rattle.std.specs.Prelude.{Option, Some, None}
use Rattle.std.proofs.lemmas.Bool.{false≢true, true≢false}
use Rattle.std.proofs.lemmas.List.{append-nil}
use Rattle.std.proofs.lemmas.Option.{same_Some}
use Rattle.ts_config.specs.declared.setup.TransformLine.{TransformLine}
use Rattle.ts_link.specs.Link.{Fewer, NoMore}
use Rattle.ts_link.specs.declared.link.Link as link
use Rattle.ts_lists.proofs.Cases.{split}
use Rattle.ts_passing.specs.Feeding.{GetsPart}
use Rattle.ts_passing.specs.Lines.{IsOfSome, passes}
use Rattle.ts_passing.proofs.Inserted.{changed_append, changed_behind, passing_more, stage_passes}
use Rattle.ts_transform.specs.Flow.{ChainState, given_if, left_to_do, passing, wants}
use Rattle.ts_transform.specs.declared.pump.Stage.{Stage}
use Rattle.ts_transform.specs.declared.transform.Transform as transform
use Rattle.ts_transform.proofs.Resting.{ended-rests}
use Rattle.ts_upstream.specs.Uploads.{UploadRefuses}
use Rattle.ts_upstream.specs.declared.upstream.Uploaded.{Uploaded}
use Rattle.ts_upstream.specs.declared.upstream.Uploaded.TheVariants as U
use Rattle.ts_upstream.specs.declared.upstream.Upstream as upstream
use Rattle.ts_wire.specs.declared.body.BodyState.{BodyState}
use Rattle.ts_wire.specs.declared.body.BodyState.TheVariants as B
use Rattle.ts_wire.specs.declared.frames.Mode.{Mode}
use Rattle.ts_wire.specs.declared.frames.Mode.TheVariants as M
use Rattle.ts_wire.specs.Frames.{end_of}
use Rattle.ts_request.specs.BodyWay.{Writes, end_cost, more_comes, pass_cost, passage_left, to_come, to_read}
use Rattle.ts_request.specs.BodyWay.{write_cost}
use Rattle.ts_request.specs.Carried.{UploadsStep}
use Rattle.ts_request.specs.CarrierLaws.{passes_less}
use Rattle.ts_request.specs.Carrying.{carrier_look, request_lines, without_line}
use Rattle.ts_request.specs.Front.{FrontSeen, body_most}
use Rattle.ts_request.specs.Pairing.{CarrierPair, CarrierRefuses, IsEnded, SendsBody, WayBy, all_sent}
use Rattle.ts_request.specs.Pairing.{carrier_left, handed_of, left_if, own_of, source_of, way_left, work_left}
use Rattle.ts_request.specs.PassageSteps.{Stalls}
use Rattle.ts_request.specs.Sent.{sent_framing, sent_head}
use Rattle.ts_request.specs.declared.carrier.Carrier.{Carrier}
use Rattle.ts_request.specs.declared.carrier.HeadState.{HeadState}
use Rattle.ts_request.specs.declared.carrier.HeadState.TheVariants as H
use Rattle.ts_request.specs.declared.passage.Passage.{Passage}
use Rattle.ts_request.proofs.Steps.{TellsMore, is_quiet, moved_on, no_more_self, quiet_step}
use Rattle.ts_request.proofs.Told.{carried_grown, taken_grown, unlines_framed}

-- ---- a chain that rests, and whose client has not all

pub open_stalls : {P : Type 0} (p : Passage P) → Stalls p → p.chain.given ≡ false
open_stalls p stalls = split p.chain.given (λ b. b ≡ false)
    (λ given. absurd (stalls.more (
      ended-rests p.chain.given p.chain.first p.chain.stages (inl given) stalls.rests.none
          stalls.rests.wait,
      stalls.rests.wait,
    )))
    (λ going. refl)

-- ---- numbers

-- where the work falls, what is left does
pub less_work : (ct ot : Bool) (inside : Option ℕ) (a b : ℕ) → b + 1 ≤ a
    → Fewer (left_if ct ot inside a) (left_if ct ot inside b)
less_work false ot inside a b less = tt
less_work true false inside a b less = tt
less_work true true None a b less = tt
less_work true true (Some k) a b less = omega (arith, less)

pub calm_work : (ct ot : Bool) (inside : Option ℕ) (a b : ℕ) → b ≤ a
    → NoMore (left_if ct ot inside a) (left_if ct ot inside b)
calm_work false ot inside a b less = tt
calm_work true false inside a b less = tt
calm_work true true None a b less = tt
calm_work true true (Some k) a b less = omega (arith, less)

pub passes_sum : (ls : List TransformLine) (m n : ℕ) → passes ls (m + n) ≡ passes ls m + passes ls n
passes_sum [] m n = refl
passes_sum (l ∷ ls) m n =
    let rest : passes ls (m + n) ≡ passes ls m + passes ls n = passes_sum ls m n in omega (arith, rest)

passes_least : (ls : List TransformLine) (n : ℕ) → n ≤ passes ls n
passes_least [] n = omega arith
passes_least (l ∷ ls) n = omega arith

stages_within : {P : Type 0} (ss : List (Stage P)) (ls : List TransformLine) (n : ℕ) → length ss ≤ length ls
    → stage_passes ss n ≤ passes ls n
stages_within [] ls n few = passes_least ls n
stages_within (s ∷ ss) [] n few = absurd (omega (arith, few))
stages_within (s ∷ ss) (l ∷ ls) n few =
    let rest : stage_passes ss n ≤ passes ls n = stages_within ss ls n (omega (arith, few)) in omega (
      arith,
      rest,
    )

-- what a chain has left to do rises by as much as what came to it passes its boundaries
pub given_more : {P : Type 0} (lines : List TransformLine) (rest : P → List ℕ → List ℕ) (c d : ChainState P)
    (some : List ℕ) → IsOfSome lines rest c → d.stages ≡ c.stages → d.first ≡ c.first ++ some
    → left_to_do rest d [] ≤ left_to_do rest c [] + passes lines (length some)
given_more lines rest c d some of stages first =
    let put = changed_append [] (length some) c.first (c.first ++ some) (changed_behind c.first some) in
    let more : passing rest c.stages ((c.first ++ some) ++ []) ≤ passing rest c.stages (c.first ++ [])
    + stage_passes c.stages (length some) =
    passing_more rest c.stages of.changes (length some) (c.first ++ []) ((c.first ++ some) ++ []) put in
    let within : stage_passes c.stages (length some) ≤ passes lines (length some) =
    stages_within c.stages lines (length some) of.few in
    let same : left_to_do rest d [] ≡ passing rest c.stages ((c.first ++ some) ++ []) =
    λ i. passing rest (stages i) (first i ++ []) in
    sum (left_to_do rest d []) (passing rest c.stages ((c.first ++ some) ++ []))
    (passing rest c.stages (c.first ++ [])) (stage_passes c.stages (length some))
    (passes lines (length some)) same more
    within
  where
    sum : (now was before step most : ℕ) → now ≡ was → was ≤ before + step → step ≤ most → now ≤ before + most
    sum now was before step most same more within = omega (arith, same, more, within)

-- what came of a part: all of it, or nothing
pub record GotSome {P : Type 0} (part : List ℕ) (c d : ChainState P) : Type 0 where
  pub some : List ℕ
  pub first : d.first ≡ c.first ++ some
  pub within : length some ≤ length part
  pub stages : d.stages ≡ c.stages

got_first : (wanted : Bool) (first part : List ℕ)
    → (some : List ℕ) × (given_if wanted first part ≡ first ++ some) × (length some ≤ length part)
got_first true first part = (part, refl, omega arith)
got_first false first part = ([], sym (append-nil first), omega arith)

pub got_some : {P : Type 0} (state : BodyState) (part : List ℕ) (c d : ChainState P) → GetsPart state part c d
    → GotSome part c d
got_some {P} B.Unfinished part c d gets =
    let front = got_first (wants c) c.first part in
    record {
      some = front.0;
      first = ap (λ (x : ChainState P). x.first) gets ∙ front.1;
      within = front.2;
      stages = ap (λ (x : ChainState P). x.stages) gets;
    }
got_some {P} B.Ended part c d gets =
    let front = got_first (wants c) c.first part in
    record {
      some = front.0;
      first = ap (λ (x : ChainState P). x.first) gets ∙ front.1;
      within = front.2;
      stages = ap (λ (x : ChainState P). x.stages) gets;
    }
got_some {P} B.Bad part c d gets =
    let front = got_first (wants c) c.first part in
    record {
      some = front.0;
      first = ap (λ (x : ChainState P). x.first) gets ∙ front.1;
      within = front.2;
      stages = ap (λ (x : ChainState P). x.stages) gets;
    }

pub one_more_comes : (state : BodyState) → more_comes state ≤ 1
one_more_comes B.Unfinished = omega arith
one_more_comes B.Ended = omega arith
one_more_comes B.Bad = omega arith

pub comes_over : (state : BodyState) → state ≢ B.Unfinished → more_comes state ≡ 0
comes_over B.Unfinished over = absurd (over refl)
comes_over B.Ended over = refl
comes_over B.Bad over = refl

pub end_short : (mode : Mode) → length (end_of mode) ≤ 5
end_short M.Plain = omega arith
end_short M.Chunked = omega arith

-- the costs of each step, of numbers alone
pub framed_cost : (out out' frame n left left' read ended came : ℕ) → out' ≡ out + frame → frame ≤ 9 * n
    → left' + n ≡ left → 1 ≤ n
    → write_cost * out' + (read + (pass_cost * left' + end_cost * ended + came)) + 1
    ≤ write_cost * out + (read + (pass_cost * left + end_cost * ended + came))
framed_cost out out' frame n left left' read ended came grows short taken some = omega (
  arith,
  grows,
  short,
  taken,
  some,
)

pub worked_cost : (out left left' read ended came : ℕ) → left' + 1 ≤ left
    → write_cost * out + (read + (pass_cost * left' + end_cost * ended + came)) + 1
    ≤ write_cost * out + (read + (pass_cost * left + end_cost * ended + came))
worked_cost out left left' read ended came less = omega (arith, less)

pub ended_cost : (out out' frame left read came : ℕ) → out' ≡ out + frame → frame ≤ 5
    → write_cost * out' + (read + (pass_cost * left + end_cost * to_come true + came)) + 1
    ≤ write_cost * out + (read + (pass_cost * left + end_cost * to_come false + came))
ended_cost out out' frame left read came grows short = omega (arith, grows, short)

pub fed_cost : (lines : List TransformLine)
    (out most held held' piece part some left left' ended came came' : ℕ)
    → held ≡ piece + held' → some ≤ part → part ≤ piece → left' ≤ left + passes lines some
    → came' + 1 ≤ came + piece
    → write_cost * out + (to_read lines most held' + (pass_cost * left' + end_cost * ended + came')) + 1
    ≤ write_cost * out + (to_read lines most held + (pass_cost * left + end_cost * ended + came))
fed_cost lines out most held held' piece part some left left' ended came came' split fewer within rose moved =
    let turned : most + held ≡ piece + (most + held') = omega (arith, split) in
    let all : passes lines (most + held) ≡ passes lines piece + passes lines (most + held') =
    ap (passes lines) turned ∙ passes_sum lines piece (most + held') in
    let more : passes lines some ≤ passes lines piece = passes_less lines some piece (omega (
      arith,
      fewer,
      within,
    )) in
    omega (arith, split, all, more, rose, moved)

pub lost_cost : (out read left ended came came' : ℕ) → came' ≤ came
    → write_cost * out + (read + (pass_cost * left + end_cost * ended + came'))
    ≤ write_cost * out + (read + (pass_cost * left + end_cost * ended + came))
lost_cost out read left ended came came' less = omega (arith, less)

module _ {C O P : Type 0} (client : link.Ghosts C) (origin : link.Ghosts O) (inner : upstream.Ghosts O C)
    (stage : transform.Ghosts P TransformLine) (client_still : (c : C) → client.still c c)
    (origin_still : (o : O) → origin.still o o) where
  -- a body's way is that of a begun upload
  way_by : (f : FrontSeen C) (c : Carrier O P) (p : Passage P) (head : HeadState)
      (passage : Option (Passage P))
      → c.passage ≡ passage → passage ≡ Some p → WayBy client origin inner stage head passage f c
      → (len : ℕ) × (line : ℕ) × (head ≡ H.Sent len line) × SendsBody client origin inner stage len line p f c
  way_by f c p H.Held passage same is way =
      absurd (let wrong : ◌≡◌ {A = Option (Passage P)} None (Some p) = sym way.passage ∙ same ∙ is in cc)
  way_by f c p (H.Sent len line) None same is way =
      absurd (let wrong : ◌≡◌ {A = Option (Passage P)} None (Some p) = is in cc)
  way_by f c p (H.Sent len line) (Some q) same is way = (
    len,
    line,
    refl,
    subst (λ (x : Passage P). SendsBody client origin inner stage len line x f c)
        (same_Some q p is) way,
  )

  pub way_body : (f : FrontSeen C) (c : Carrier O P) (p : Passage P) → c.passage ≡ Some p
      → CarrierPair client origin inner stage f c
      → (len : ℕ) × (line : ℕ) × (c.head ≡ H.Sent len line)
      × SendsBody client origin inner stage len line p f c
  way_body f c p is pair = way_by f c p c.head c.passage refl is pair.way

  -- nothing is done: the answer alone is given
  pub idle_step : (f : FrontSeen C) (c : Carrier O P) (answer : Uploaded) → is_quiet answer ≡ true
      → (answer ≡ U.More → ⊥) → (answer ≡ U.Done → c.over ≡ true)
      → (client.tells ≡ true
      → UploadRefuses answer (CarrierRefuses inner.refuses c (source_of client.look f)))
      → CarrierPair client origin inner stage f c → UploadsStep client origin inner stage answer f f c c
  idle_step f c answer quiet still done refusal pair =
      quiet_step client origin inner stage client_still origin_still f c c.out c.inbox c.head c.asked c.over
      c.passage
      answer quiet pair refusal
      (λ told. record {
        more = [];
        taken = sym (append-nil (without_line c.head (all_sent origin.look c)));
        carried = sym (append-nil (Rattle.ts_request.specs.Carrying.behind_head c.head (own_of origin.look c)
            (all_sent origin.look c)));
      })
      (λ is. refl) done (λ is. absurd (still is)) (no_more_self (carrier_left client origin inner stage f c))

  module _ (f : FrontSeen C) (c : Carrier O P) (p q : Passage P) (out inbox more : List ℕ)
      (asked : c.asked ≡ true) (unended : p.ended ≡ false) (is : c.passage ≡ Some p)
      (pair : CarrierPair client origin inner stage f c) where
    abbrev pub on_way : Carrier O P
    on_way = moved_on client origin inner stage client_still origin_still f c out inbox c.head c.asked c.over
        (Some q)

    not_over : c.over ≡ true → ⊥
    not_over over =
        false≢true (sym unended ∙ subst (λ (x : Option (Passage P)). IsEnded x) is
        (pair.done over).ended)

    pub module_way : (len : ℕ) (line : ℕ) → c.head ≡ H.Sent len line
        → SendsBody client origin inner stage len line q f on_way
        → CarrierPair client origin inner stage f on_way
    module_way len line head_is way = record {
      inside = pair.inside;
      acts = pair.acts;
      way = subst (λ (h : HeadState). WayBy client origin inner stage h (Some q) f on_way) (sym head_is) way;
      own_done = pair.own_done;
      done = λ over. absurd (not_over over);
    }

    module _ (len line : ℕ) (head_is : c.head ≡ H.Sent len line)
        (b : SendsBody client origin inner stage len line p f c)
        (grows : out ≡ c.out ++ more) where
      sent_grows : (origin.look c.origin).taken ++ out ≡ all_sent origin.look c ++ more
      sent_grows = ap (λ xs. (origin.look c.origin).taken ++ xs) grows
          ∙ sym (append_assoc (origin.look c.origin).taken c.out more)

      -- the body goes on
      sends_on : (fed read : List ℕ) → q.mode ≡ p.mode
          → (client.tells ≡ true → handed_of client.look f ≡ fed ++ inbox)
          → Writes stage (request_lines c) b.framing fed read (b.text ++ more) q
          → SendsBody client origin inner stage len line q f on_way
      sends_on fed read mode came writes = record {
        framing = b.framing;
        uploading = b.uploading;
        line_is = b.line_is;
        mode_is = mode ∙ b.mode_is;
        fed = fed;
        read = read;
        text = b.text ++ more;
        came = came;
        writes = writes;
        before = λ waits. absurd (true≢false (sym asked ∙ waits));
        stands = λ told.
            let s = b.stands told in
            record {
              head = s.head;
              long = s.long;
              text = sent_grows ∙ ap (λ xs. xs ++ more) s.text
                  ∙ append_assoc (sent_head b.framing (request_lines c) s.head)
                  (own_of origin.look c ++ b.text) more
                  ∙ ap (λ xs. sent_head b.framing (request_lines c) s.head ++ xs)
                  (append_assoc (own_of origin.look c) b.text more);
            };
      }

      -- and more of it is told
      tells_on : origin.tells ≡ true
          → TellsMore client origin inner stage client_still origin_still f c out inbox c.head c.asked c.over
          (Some q)
      tells_on told =
          let s = b.stands told in
          let said = sent_framing b.framing (request_lines c) in
          let unlines = unlines_framed len line said b.line_is in
          record {
            more = more;
            taken = subst (λ (h : HeadState). without_line h ((origin.look c.origin).taken ++ out)
                ≡ without_line h (all_sent origin.look c) ++ more) (sym head_is)
                (taken_grown len line (sent_head b.framing (request_lines c)) (own_of origin.look c)
                (own_of origin.look c) s.head (own_of origin.look c ++ b.text) more (all_sent origin.look c)
                ((origin.look c.origin).taken ++ out) unlines s.long s.text sent_grows);
            carried = subst
                (λ (h : HeadState). Rattle.ts_request.specs.Carrying.behind_head h (own_of origin.look c)
                ((origin.look c.origin).taken ++ out)
                ≡ Rattle.ts_request.specs.Carrying.behind_head h (own_of origin.look c)
                (all_sent origin.look c) ++ more)
                (sym head_is)
                (carried_grown len line (sent_head b.framing (request_lines c)) (own_of origin.look c)
                (own_of origin.look c) s.head (own_of origin.look c ++ b.text) more (all_sent origin.look c)
                ((origin.look c.origin).taken ++ out) unlines s.long s.text sent_grows);
          }

      -- what is left, of numbers
      abbrev pub most : ℕ
      most = body_most f.text (client.look f.client)

      abbrev pub cost_before : ℕ
      cost_before = write_cost * length c.out
          + (to_read (request_lines c) most (length c.inbox) + passage_left stage.rest p)

      abbrev pub cost_after : ℕ
      cost_after = write_cost * length out
          + (to_read (request_lines c) most (length inbox) + passage_left stage.rest q)

      work_before : work_left stage.rest most c.head c ≡ cost_before + (to_come c.asked + to_come c.over)
      work_before =
          ap (λ h. work_left stage.rest most h c) head_is
          ∙ ap (λ x. write_cost * length c.out + (to_come c.asked + to_come c.over)
          + way_left (request_lines c) stage.rest most (length c.inbox) x) is
          ∙ sum (write_cost * length c.out) (to_come c.asked + to_come c.over)
          (to_read (request_lines c) most (length c.inbox) + passage_left stage.rest p)
        where
          sum : (a b c : ℕ) → a + b + c ≡ a + c + b
          sum a b c = omega arith

      work_after : work_left stage.rest most c.head on_way ≡ cost_after + (to_come c.asked + to_come c.over)
      work_after =
          ap (λ h. work_left stage.rest most h on_way) head_is
          ∙ sum (write_cost * length out) (to_come c.asked + to_come c.over)
          (to_read (request_lines c) most (length inbox) + passage_left stage.rest q)
        where
          sum : (a b c : ℕ) → a + b + c ≡ a + c + b
          sum a b c = omega arith

      fewer_on : cost_after + 1 ≤ cost_before
          → Fewer (carrier_left client origin inner stage f c)
          (carrier_left client origin inner stage f on_way)
      fewer_on less =
          less_work client.tells origin.tells (inner.upload_left f.client c.origin)
          (work_left stage.rest most c.head c) (work_left stage.rest most c.head on_way)
          (let before = work_before in let after = work_after in omega (arith, before, after, less))

      calm_on : cost_after ≤ cost_before
          → NoMore (carrier_left client origin inner stage f c)
          (carrier_left client origin inner stage f on_way)
      calm_on less =
          calm_work client.tells origin.tells (inner.upload_left f.client c.origin)
          (work_left stage.rest most c.head c) (work_left stage.rest most c.head on_way)
          (let before = work_before in let after = work_after in omega (arith, before, after, less))

      -- a step of the way that moves something
      pub more_step : (fed read : List ℕ) → q.mode ≡ p.mode
          → (client.tells ≡ true → handed_of client.look f ≡ fed ++ inbox)
          → Writes stage (request_lines c) b.framing fed read (b.text ++ more) q
          → cost_after + 1 ≤ cost_before
          → UploadsStep client origin inner stage U.More f f c on_way
      more_step fed read mode came writes less =
          quiet_step client origin inner stage client_still origin_still f c out inbox c.head c.asked c.over
          (Some q)
          U.More refl (module_way len line head_is (sends_on fed read mode came writes)) (λ told. tt) tells_on
          (λ e. absurd (let wrong : U.More ≡ U.NoMemory = e in cc))
          (λ e. absurd (let wrong : U.More ≡ U.Done = e in cc)) (λ e. fewer_on less)
          (calm_on (omega (arith, less)))

      -- and one for which memory lacked, at which nothing that is seen changed
      pub lost_step : (fed read : List ℕ) → q.mode ≡ p.mode
          → (client.tells ≡ true → handed_of client.look f ≡ fed ++ inbox)
          → Writes stage (request_lines c) b.framing fed read (b.text ++ more) q → cost_after ≤ cost_before
          → out ≡ c.out → UploadsStep client origin inner stage U.NoMemory f f c on_way
      lost_step fed read mode came writes less same =
          quiet_step client origin inner stage client_still origin_still f c out inbox c.head c.asked c.over
          (Some q)
          U.NoMemory refl (module_way len line head_is (sends_on fed read mode came writes))
          (λ told. tt) tells_on
          (λ e. ap (λ xs. carrier_look origin.tells origin.look (record c { out = xs })) same)
          (λ e. absurd (let wrong : U.NoMemory ≡ U.Done = e in cc))
          (λ e. absurd (let wrong : U.NoMemory ≡ U.More = e in cc)) (calm_on less)
