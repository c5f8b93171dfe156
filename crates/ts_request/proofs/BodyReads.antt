-- A step that reads more of the body from the client.
use Rattle.std.proofs.Common.{◌≡◌, ◌≢◌, ℕ, ◌+◌, ◌*◌, ◌≤◌, inl, List, [], ◌++◌, length, take, Bool, true}
use Rattle.std.proofs.Common.{false, refl, sym, ap, subst, ◌∙◌, arith, append_assoc, length-append}
use Rattle.std.specs.Prelude.{IsSomeAnd, Option, Some, None}
use Rattle.std.proofs.lemmas.Bool.{false≢true}
use Rattle.std.proofs.lemmas.List.{append-nil, length-take}
use Rattle.ts_config.specs.declared.setup.TransformLine.{TransformLine}
use Rattle.ts_link.specs.Link.{AgainsFall, Fewer, Look, NoMore, Plan, all_of}
use Rattle.ts_link.specs.LinkAnswers.{EndsWell, FillsSome, count_got, got_again, got_failed}
use Rattle.ts_link.specs.declared.link.Got.{Got}
use Rattle.ts_link.specs.declared.link.Got.TheVariants as G
use Rattle.ts_link.specs.declared.link.Link as link
use Rattle.ts_transform.specs.declared.transform.Transform as transform
use Rattle.ts_upstream.specs.Uploads.{Rose8, UploadCounts, UploadRefuses, both, taken_since, upload_failed}
use Rattle.ts_upstream.specs.Uploads.{upload_waits}
use Rattle.ts_upstream.specs.declared.upstream.Uploaded.TheVariants as U
use Rattle.ts_upstream.specs.declared.upstream.Upstream as upstream
use Rattle.ts_wire.specs.declared.body.BodyState.TheVariants as B
use Rattle.ts_wire.specs.declared.framing.Framing.{Framing}
use Rattle.ts_wire.specs.Place.{state_of}
use Rattle.ts_request.specs.Begun.{ReadsOn}
use Rattle.ts_request.specs.PassageSteps.{IsNext}
use Rattle.ts_request.specs.BodyWay.{passage_left, to_come, to_read, write_cost}
use Rattle.ts_request.specs.Carried.{UploadsStep, answer_read}
use Rattle.ts_request.specs.Carrying.{carrier_look, request_lines}
use Rattle.ts_request.specs.Front.{FrontSeen, ReadsBody, ShowsClient, body_left, body_left_by, body_most}
use Rattle.ts_request.specs.Front.{body_most_by, front_look, given_by, left_by}
use Rattle.ts_request.specs.Pairing.{CarrierPair, CarrierRefuses, IsDone, SendsBody, WayBy, carrier_left}
use Rattle.ts_request.specs.Pairing.{handed_of, left_if, source_of, way_left, work_left}
use Rattle.ts_request.specs.Sent.{RefusesUpload}
use Rattle.ts_request.specs.Text.{Text}
use Rattle.ts_request.specs.declared.passage.Next.TheVariants as N
use Rattle.ts_request.specs.declared.carrier.Carrier.{Carrier}
use Rattle.ts_request.specs.declared.carrier.HeadState.{HeadState}
use Rattle.ts_request.specs.declared.carrier.HeadState.TheVariants as H
use Rattle.ts_request.specs.declared.passage.Passage.{Passage}
use Rattle.ts_request.specs.declared.stage.Stage.{Stage}
use Rattle.ts_request.specs.declared.stage.Stage.TheVariants as S
use Rattle.ts_request.proofs.Asking.{inside_calm, inside_step}
use Rattle.ts_request.proofs.Bodies.{open_stalls, way_body}
use Rattle.ts_request.proofs.BodySteps.{goes_on}
use Rattle.ts_request.proofs.Finishing.{refused_by}
use Rattle.ts_request.proofs.Steps.{both_less_first, counted_same, counted_up, ends_if, falls_by, lacks_if}
use Rattle.ts_request.proofs.Steps.{may_same}
use Rattle.ts_link.specs.Counts.{Counted}

-- ---- the answer

counts_read : (g : Got) (c c' o o' : Look) → Counted (got_failed g) c.faults c'.faults
    → Counted (got_again g) c.waits c'.waits → UploadCounts (answer_read g) c c' o o'
counts_read (G.Bytes n) c c' o o' faults waits = tt
counts_read G.End c c' o o' faults waits = tt
counts_read G.Again c c' o o' faults waits = inl waits
counts_read G.Failed c c' o o' faults waits = faults

waits_read : (g : Got) → upload_waits (answer_read g) ≡ got_again g
waits_read (G.Bytes n) = refl
waits_read G.End = refl
waits_read G.Again = refl
waits_read G.Failed = refl

failed_read : (g : Got) → upload_failed (answer_read g) ≡ got_failed g
failed_read (G.Bytes n) = refl
failed_read G.End = refl
failed_read G.Again = refl
failed_read G.Failed = refl

never_lacks : (g : Got) → answer_read g ≡ U.NoMemory → ⊥
never_lacks (G.Bytes n) is = let wrong : U.More ≡ U.NoMemory = is in cc
never_lacks G.End is = let wrong : U.Refused ≡ U.NoMemory = is in cc
never_lacks G.Again is = let wrong : U.Again ≡ U.NoMemory = is in cc
never_lacks G.Failed is = let wrong : U.ClientFailed ≡ U.NoMemory = is in cc

never_done : (g : Got) → answer_read g ≡ U.Done → ⊥
never_done (G.Bytes n) is = let wrong : U.More ≡ U.Done = is in cc
never_done G.End is = let wrong : U.Refused ≡ U.Done = is in cc
never_done G.Again is = let wrong : U.Again ≡ U.Done = is in cc
never_done G.Failed is = let wrong : U.ClientFailed ≡ U.Done = is in cc

some_read : (g : Got) (into : List ℕ) → FillsSome g (length into) → answer_read g ≡ U.More
    → 1 ≤ length (take (count_got g) into)
some_read (G.Bytes n) into fills is =
    let len = length-take n into in
    let some : 1 ≤ n = fills.0 in
    let fits : n ≤ length into = fills.1 in omega (arith, len, some, fits)
some_read G.End into fills is = absurd (let wrong : U.Refused ≡ U.More = is in cc)
some_read G.Again into fills is = absurd (let wrong : U.Again ≡ U.More = is in cc)
some_read G.Failed into fills is = absurd (let wrong : U.ClientFailed ≡ U.More = is in cc)

refuses_read : (g : Got) (R : Type 0) → (g ≡ G.End → R) → UploadRefuses (answer_read g) R
refuses_read (G.Bytes n) R refused = tt
refuses_read G.End R refused = refused refl
refuses_read G.Again R refused = tt
refuses_read G.Failed R refused = tt

not_waits : (b : Bool) (plan : Option Plan) → (b ≡ true → IsSomeAnd plan (λ p. p.stalls ≢ []))
    → IsSomeAnd plan (λ p. p.stalls ≡ []) → b ≡ false
not_waits false plan stalls none = refl
not_waits true None stalls none = absurd none
not_waits true (Some p) stalls none = absurd (stalls refl none)

-- ---- what a front shows does not change with what is handed over

given_stays : (s : Stage) (framing : Framing) (t : Text) (behind given given' : List ℕ)
    → s ≡ S.Uploading framing
    → given_by s (record t { behind = behind }) given' ≡ given_by s t given
given_stays S.Heading framing t behind given given' is = absurd (let wrong : S.Heading ≡ S.Uploading framing
    = is in cc)
given_stays S.Passing framing t behind given given' is = absurd (let wrong : S.Passing ≡ S.Uploading framing
    = is in cc)
given_stays (S.Uploading other) framing t behind given given' is = refl

left_stays : (s : Stage) (framing : Framing) (t : Text) (behind left left' : List ℕ) → s ≡ S.Uploading framing
    → left_by s (record t { behind = behind }) left' ≡ left_by s t left
left_stays S.Heading framing t behind left left' is = absurd (let wrong : S.Heading ≡ S.Uploading framing =
    is in cc)
left_stays S.Passing framing t behind left left' is = absurd (let wrong : S.Passing ≡ S.Uploading framing =
    is in cc)
left_stays (S.Uploading other) framing t behind left left' is = refl

most_is : (s : Stage) (framing : Framing) (t : Text) (l : Look) → s ≡ S.Uploading framing → t.stage ≡ s
    → body_most_by s t l ≡ length (body_left t l)
most_is S.Heading framing t l is same = absurd (let wrong : S.Heading ≡ S.Uploading framing = is in cc)
most_is S.Passing framing t l is same = absurd (let wrong : S.Passing ≡ S.Uploading framing = is in cc)
most_is (S.Uploading other) framing t l is same =
    ap (λ (x : Stage). length (body_left_by x t l.left)) (sym same)

-- what does not rise by a byte is no more
rose_calm : (i j : Option ℕ) (n : ℕ) → n ≡ 0 → Rose8 i j n → NoMore i j
rose_calm None j n none rose = tt
rose_calm (Some k) None n none rose = rose
rose_calm (Some k) (Some m) n none rose = omega (arith, none, rose)

-- what came is less to read
read_cost : (lines : List TransformLine) (out most most' held held' n rest : ℕ) → held' ≡ held + n
    → most' + n ≡ most
    → write_cost * out + (to_read lines most' held' + rest) + n
    ≡ write_cost * out + (to_read lines most held + rest)
read_cost lines out most most' held held' n rest came left =
    let same : most' + held' ≡ most + held = omega (arith, came, left) in
    let all = ap (Rattle.ts_passing.specs.Lines.passes lines) same in
    omega (arith, all, came, left)

module _ {C O P : Type 0} (client : link.Ghosts C) (origin : link.Ghosts O) (inner : upstream.Ghosts O C)
    (stage : transform.Ghosts P TransformLine) (client_still : (c : C) → client.still c c)
    (origin_still : (o : O) → origin.still o o) (f : FrontSeen C) (c : Carrier O P) (k : C)
    (behind inbox into : List ℕ)
    (got : Got) where
  abbrev pub front_on : FrontSeen C
  front_on = record f { client = k; text = record f.text { behind = behind } }

  abbrev pub read_on : Carrier O P
  read_on = record c { inbox = inbox }

  module _ (pair : CarrierPair client origin inner stage f c) (asked : c.asked ≡ true) (p : Passage P)
      (is : c.passage ≡ Some p) (unended : p.ended ≡ false)
      (grows : inbox ≡ c.inbox ++ take (count_got got) into)
      (reads : ReadsBody client.tells f.text (record f.text { behind = behind }) (client.look f.client)
      (client.look k)
      got into) (still : client.still f.client k) (inside : inner.paired k c.origin)
      (rose : Rose8 (inner.upload_left f.client c.origin) (inner.upload_left k c.origin)
      (taken_since (origin.look c.origin) (origin.look c.origin))) where
    abbrev way : (len : ℕ) × (line : ℕ) × (c.head ≡ H.Sent len line)
        × SendsBody client origin inner stage len line p f c
    way = way_body client origin inner stage client_still origin_still f c p is pair

    uploading : f.text.stage ≡ S.Uploading way.3.framing
    uploading = way.3.uploading

    source_same : source_of client.look front_on ≡ source_of client.look f
    source_same = reads.calls.source

    sends_read : SendsBody client origin inner stage way.0 way.1 p front_on read_on
    sends_read =
        let b = way.3 in
        record {
          framing = b.framing;
          uploading = b.uploading;
          line_is = b.line_is;
          mode_is = b.mode_is;
          fed = b.fed;
          read = b.read;
          text = b.text;
          came = λ told.
              (reads.told told).given ∙ ap (λ xs. xs ++ take (count_got got) into) (b.came told)
              ∙ append_assoc b.fed c.inbox (take (count_got got) into) ∙ ap (λ xs. b.fed ++ xs) (sym grows);
          writes = b.writes;
          before = b.before;
          stands = λ told. record {
            head = (b.stands told).head;
            long = (b.stands told).long;
            text = (b.stands told).text;
          };
        }

    not_over : c.over ≡ true → ⊥
    not_over over =
        false≢true
        (sym unended ∙ subst (λ (x : Option (Passage P)). Rattle.ts_request.specs.Pairing.IsEnded x) is
        (pair.done over).ended)

    pub pair_read : CarrierPair client origin inner stage front_on read_on
    pair_read = record {
      inside = inside;
      acts = pair.acts;
      way = subst (λ (h : HeadState). WayBy client origin inner stage h c.passage front_on read_on)
          (sym way.2)
          (subst (λ (x : Option (Passage P)). WayBy client origin inner stage
          (H.Sent way.0 way.1) x front_on read_on)
          (sym is) sends_read);
      own_done = λ done told refused. pair.own_done done told
          (subst (λ (list : List ℕ). inner.refuses c.origin list) source_same refused);
      done = λ over. absurd (not_over over);
    }

    -- ---- what is left

    abbrev pub most : ℕ
    most = body_most f.text (client.look f.client)

    abbrev pub most_on : ℕ
    most_on = body_most front_on.text (client.look k)

    most_falls : client.tells ≡ true → most_on + length (take (count_got got) into) ≡ most
    most_falls told =
        let now = most_is f.text.stage way.3.framing (record f.text { behind = behind }) (client.look k)
        uploading refl in
        let was = most_is f.text.stage way.3.framing f.text (client.look f.client) uploading refl in
        let all = ap length (reads.told told).left
        ∙ length-append (take (count_got got) into)
        (body_left (record f.text { behind = behind }) (client.look k)) in
        omega (arith, now, was, all)

    work_is : (n : ℕ) (d : Carrier O P) → d.head ≡ c.head → d.passage ≡ c.passage
        → work_left stage.rest n d.head d
        ≡ write_cost * length d.out
        + (to_read (request_lines d) n (length d.inbox) + passage_left stage.rest p)
        + (to_come d.asked + to_come d.over)
    work_is n d same also =
        ap (λ h. work_left stage.rest n h d) (same ∙ way.2)
        ∙ ap (λ x. write_cost * length d.out + (to_come d.asked + to_come d.over)
        + way_left (request_lines d) stage.rest n (length d.inbox) x) (also ∙ is)
        ∙ sum (write_cost * length d.out) (to_come d.asked + to_come d.over)
        (to_read (request_lines d) n (length d.inbox) + passage_left stage.rest p)
      where
        sum : (a b c : ℕ) → a + b + c ≡ a + c + b
        sum a b c = omega arith

    work_falls : client.tells ≡ true
        → work_left stage.rest most_on c.head read_on + length (take (count_got got) into)
        ≡ work_left stage.rest most c.head c
    work_falls told =
        let came = ap length grows ∙ length-append c.inbox (take (count_got got) into) in
        let cost = read_cost (request_lines c) (length c.out) most most_on (length c.inbox) (length inbox)
        (length (take (count_got got) into)) (passage_left stage.rest p) came (most_falls told) in
        let now = work_is most_on read_on refl refl in
        let was = work_is most c refl refl in
        omega (arith, now, was, cost)

    none_since : taken_since (origin.look c.origin) (origin.look c.origin) ≡ 0
    none_since = omega arith

    calm_inside : NoMore (inner.upload_left f.client c.origin) (inner.upload_left k c.origin)
    calm_inside = rose_calm (inner.upload_left f.client c.origin) (inner.upload_left k c.origin)
        (taken_since (origin.look c.origin) (origin.look c.origin)) none_since rose

    calm_by : (t : Bool) → (t ≡ true → client.tells ≡ true)
        → NoMore
        (left_if t origin.tells (inner.upload_left f.client c.origin) (work_left stage.rest most c.head c))
        (left_if t origin.tells (inner.upload_left k c.origin) (work_left stage.rest most_on c.head read_on))
    calm_by true told =
        let fell = work_falls (told refl) in
        inside_calm true origin.tells (inner.upload_left f.client c.origin) (inner.upload_left k c.origin)
        (work_left stage.rest most c.head c) (work_left stage.rest most_on c.head read_on) calm_inside
        (omega (arith, fell))
    calm_by false told = tt

    fewer_by : (t : Bool) → (t ≡ true → client.tells ≡ true) → 1 ≤ length (take (count_got got) into)
        → Fewer (left_if t origin.tells (inner.upload_left f.client c.origin)
        (work_left stage.rest most c.head c))
        (left_if t origin.tells (inner.upload_left k c.origin) (work_left stage.rest most_on c.head read_on))
    fewer_by true told some =
        let fell = work_falls (told refl) in
        inside_step true origin.tells (inner.upload_left f.client c.origin) (inner.upload_left k c.origin)
        (work_left stage.rest most c.head c) (work_left stage.rest most_on c.head read_on) calm_inside
        (omega (arith, fell, some))
    fewer_by false told some = tt

    pub read_step : (client.tells ≡ true → got ≡ G.End
        → CarrierRefuses inner.refuses c (source_of client.look f))
        → UploadsStep client origin inner stage (answer_read got) f front_on c read_on
    read_step refused =
        let fl = front_look client.look f in
        let gl = front_look client.look front_on in
        let cl = carrier_look origin.tells origin.look c in
        let dl = carrier_look origin.tells origin.look read_on in
        record {
          paired = record {
            client = still;
            origin = record { inside = origin_still c.origin; setup = refl };
            pair = pair_read;
            refusal = record { still = λ list r. r; before = λ list r. r };
          };
          causes = record {
            refusal = λ told. refuses_read got _ (refused told);
            counts = counts_read got fl gl cl dl reads.calls.faults reads.calls.waits;
            lacks = lacks_if (answer_read got) fl gl cl dl (λ e. absurd (never_lacks got e));
            ends = ends_if (answer_read got) dl (λ e. absurd (never_done got e));
          };
          bytes = record {
            client = λ told. record {
              all = λ i. given_stays f.text.stage way.3.framing f.text behind (client.look f.client).given
                  (client.look k).given uploading i
                  ++ left_stays f.text.stage way.3.framing f.text behind (client.look f.client).left
                  (client.look k).left uploading i;
              given = given_stays f.text.stage way.3.framing f.text behind (client.look f.client).given
                  (client.look k).given uploading;
              taken = (reads.told told).taken;
            };
            origin = λ told. record {
              given = refl;
              left = may_same (origin.look c.origin).given (origin.look c.origin).left;
              more = [];
              taken = sym (append-nil cl.taken);
              carried = sym (append-nil cl.carried);
            };
          };
          keeps = record {
            client = record {
              source = reads.calls.source;
              name = reads.calls.name;
              plan = reads.calls.plan;
              before = reads.calls.before;
              faults = counted_up (got_failed got) (client.look f.client).faults
                  (client.look k).faults reads.calls.faults;
              waits = counted_up (got_again got) (client.look f.client).waits
                  (client.look k).waits reads.calls.waits;
            };
            reads = refl;
            writes = reads.writes;
            carried = reads.calls.carried;
            uploaded = reads.calls.uploaded;
            origin = record {
              source = refl;
              name = refl;
              plan = refl;
              before = refl;
              faults = omega arith;
              waits = omega arith;
            };
          };
          falls = falls_by (answer_read got) (carrier_left client origin inner stage f c)
              (carrier_left client origin inner stage front_on read_on) (both fl.agains cl.agains)
              (both gl.agains dl.agains)
              (λ e. fewer_by client.tells (λ told. told) (some_read got into reads.fills e))
              (calm_by client.tells (λ told. told))
              (subst (λ b. AgainsFall b (both fl.agains cl.agains) (both gl.agains dl.agains))
              (sym (waits_read got))
              (both_less_first (got_again got) fl.agains gl.agains cl.agains reads.calls.agains));
          sure = λ sure also.
              let went = reads.sure sure in
              record {
                faults = λ never. (
                  failed_read got ∙ went.0,
                  counted_same (got_failed got) (client.look f.client).faults
                      (client.look k).faults went.0 reads.calls.faults,
                  refl,
                );
                waits = λ none also_none. waits_read got
                    ∙ not_waits (got_again got) (client.look f.client).plan went.1 none;
              };
        }

-- ---- by what the read left of the front

module _ {C O P : Type 0} (client : link.Ghosts C) (origin : link.Ghosts O) (inner : upstream.Ghosts O C)
    (stage : transform.Ghosts P TransformLine) (client_still : (c : C) → client.still c c)
    (origin_still : (o : O) → origin.still o o) (f g : FrontSeen C) (c : Carrier O P) (inbox : List ℕ)
    (got : Got)
    (pair : CarrierPair client origin inner stage f c) (asked : c.asked ≡ true) (p : Passage P)
    (is : c.passage ≡ Some p) (next : IsNext p c.inbox N.Read)
    (r : ReadsOn client f g c.inbox inbox got) (still : client.still f.client g.client)
    (inside : inner.paired g.client c.origin)
    (rose : Rose8 (inner.upload_left f.client c.origin) (inner.upload_left g.client c.origin)
    (taken_since (origin.look c.origin) (origin.look c.origin)))
    (silent : (t : P) (w : List ℕ) → stage.soon t [] ≡ Some w → w ≡ [])
    (shows : client.tells ≡ true → ShowsClient client.look g)
    (known : client.tells ≡ true → all_of (client.look g.client) ≡ source_of client.look g) where
  abbrev front_read : FrontSeen C
  front_read = record f { client = g.client; text = record f.text { behind = g.text.behind } }

  front_is : g ≡ front_read
  front_is = r.front ∙ ap (λ (t : Text). record f { client = g.client; text = t }) r.reads.text

  reads_is : ReadsBody client.tells f.text (record f.text { behind = g.text.behind }) (client.look f.client)
      (client.look g.client) got r.into
  reads_is = subst
      (λ (t : Text). ReadsBody client.tells f.text t (client.look f.client)
      (client.look g.client) got r.into) r.reads.text r.reads

  abbrev pub carrier_read : Carrier O P
  carrier_read = record c { inbox = inbox }

  pair_is : CarrierPair client origin inner stage g carrier_read
  pair_is = subst (λ (x : FrontSeen C). CarrierPair client origin inner stage x carrier_read) (sym front_is)
      (pair_read client origin inner stage client_still origin_still f c g.client g.text.behind inbox r.into
      got pair asked
      p is next.0 r.grows reads_is still inside rose)

  none_left : client.tells ≡ true → got ≡ G.End → inbox ++ body_left g.text (client.look g.client) ≡ []
  none_left told over =
      let ends : body_left g.text (client.look g.client) ≡ [] =
      subst (λ (x : Got). EndsWell x (body_left g.text (client.look g.client))) over (r.reads.ends told) in
      let came : take (count_got got) r.into ≡ [] = ap (λ (x : Got). take (count_got x) r.into) over in
      (λ i. (r.grows ∙ (λ j. next.3 j ++ came j)) i ++ ends i)

  refused : client.tells ≡ true → got ≡ G.End → CarrierRefuses inner.refuses c (source_of client.look f)
  refused told over =
      let stalls = next.1 in
      let (len, line, head_is, b) = way_body client origin inner stage client_still origin_still g
      carrier_read p is pair_is in
      let way = b.writes.way in
      let going = open_stalls p stalls in
      let state : state_of p.body.phase ≡ B.Unfinished = goes_on (state_of p.body.phase)
      (λ e. way.goes_on going (sym (ap (λ x. state_of x.phase) (way.now stalls.kept)) ∙ e)) next.2 in
      inl (subst (λ (list : List ℕ). RefusesUpload (request_lines c) list) (r.reads.calls.source)
      (refused_by client origin inner stage client_still origin_still g carrier_read pair_is shows known p is
      stalls
      silent B.Unfinished state (λ e. let wrong : B.Unfinished ≡ B.Ended = e in cc) (λ e. λ told. none_left
      told over) told))

  pub read_by : UploadsStep client origin inner stage (answer_read got) f g c carrier_read
  read_by = subst
      (λ (x : FrontSeen C). UploadsStep client origin inner stage (answer_read got) f x c carrier_read)
      (sym front_is)
      (read_step client origin inner stage client_still origin_still f c g.client g.text.behind inbox r.into
      got pair asked
      p is next.0 r.grows reads_is still inside rose refused)
