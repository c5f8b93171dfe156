-- What a front shows, call by call, and what stays true of it.
use Rattle.std.proofs.Common.{◌≡◌, ◌≢◌, ◌⊎◌, inl, inr, ℕ, ◌+◌, ◌-◌, ◌<◌, ◌≤◌, Bool, true, false, cond, List}
use Rattle.std.proofs.Common.{[], ◌∷◌, ◌++◌, length, take, drop, refl, sym, ap, subst, ◌∙◌, arith}
use Rattle.std.proofs.Common.{append_assoc, length-append}
use Rattle.std.proofs.lemmas.List.{append-nil, drop_at, length-take, nil_from_length, take-append-drop}
use Rattle.ts_lists.proofs.Fronts.{rest_by_length}
use Rattle.httparse.specs.Grammar as grammar
use Rattle.httparse.specs.Grammar.{HasNoRequest, print_request}
use Rattle.ts_link.specs.Link.{Calls, GivesMore, Look, MayReplace, ReadsSurely, all_of}
use Rattle.ts_wire.specs.Limits.{head_limit}
use Rattle.ts_wire.specs.declared.framing.Framing.{Framing}
use Rattle.ts_request.specs.Front.{Holds, HoldsLink, HoldsText, Moves, shown_through}
use Rattle.ts_request.specs.Laws.{keeps_body, keeps_body_on}
use Rattle.ts_link.specs.declared.link.Got.TheVariants as G
use Rattle.ts_request.specs.Held.{FillsFrom}
use Rattle.ts_request.specs.Text.{Decides, Text, before_last, is_heading, with_more}
use Rattle.ts_request.specs.Upload.{HasUpload, LacksUpload, NeverHasUpload, without_body}
use Rattle.ts_request.specs.declared.stage.Stage.{Stage}
use Rattle.ts_request.specs.declared.stage.Stage.TheVariants as S
use Rattle.ts_request.proofs.LinkCalls.{calls_after, calls_none, gives_after, gives_none, replace_short}
use Rattle.ts_request.proofs.LinkCalls.{sure_after, sure_none}
use Rattle.ts_request.proofs.FoundUpload.{none_now}
use Rattle.ts_request.proofs.HeadLines.{stripped_short}
use Rattle.ts_wire.proofs.RequestLemmas.{request_some}

-- ---- one after the other

pub moves_none : (tells : Bool) (t : Text) (l : Look) → Moves tells t t l l false false []
moves_none tells t l = record {
  calls = calls_none l;
  writes = refl;
  sure = sure_none l;
  told = λ told. gives_none (shown_through t l);
  body = keeps_body tells t l;
}

pub moves_after : (tells : Bool) (t u v : Text) (l m n : Look) (failed waited : Bool) (more : List ℕ)
    → Moves tells t u l m false false [] → Moves tells u v m n failed waited more
    → Moves tells t v l n failed waited more
moves_after tells t u v l m n failed waited more p q = record {
  calls = calls_after l m n failed waited p.calls q.calls;
  writes = q.writes ∙ p.writes;
  sure = sure_after l m failed waited p.calls.plan q.sure;
  told = λ told. gives_after (shown_through t l) (shown_through u m) (shown_through v n) more
      (p.told told) (q.told told);
  body = keeps_body_on tells t u v l m n p.body q.body;
}

-- ---- parts of what is shown

-- a front and the piece behind it
pub piece_of : (list into rest : List ℕ) (count : ℕ) → take count into ≡ take count list
    → rest ≡ drop count list
    → list ≡ take count into ++ rest
piece_of list into rest count copied left =
    sym (take-append-drop count list) ∙ (λ i. sym copied i ++ sym left i)

pub moved_on : (list piece rest left : List ℕ) → list ≡ piece ++ rest → list ++ left ≡ piece ++ (rest ++ left)
moved_on list piece rest left is = ap (λ l. l ++ left) is ∙ append_assoc piece rest left

-- what follows a head and was handed over, of all that was given
pub body_is : (given head handed behind : List ℕ) (used : ℕ) → used ≡ length head
    → given ≡ head ++ (handed ++ behind) → drop used (take (length given - length behind) given) ≡ handed
body_is given head handed behind used long is =
    ap (drop used) (rest_by_length given (head ++ handed) behind (is ∙ sym (append_assoc head handed behind)))
    ∙ drop_at head handed used (sym long)

-- ---- what stays true

-- what a link gave and may still give stays
pub link_same : (t : Text) (l m : Look) → m.given ≡ l.given → m.left ≡ l.left → (s : Stage) → HoldsLink s t l
    → HoldsLink s t m
link_same t l m given left S.Heading link = given ∙ link
link_same t l m given left S.Passing link = record {
  before = link.before;
  given = given ∙ link.given;
  lacks = subst LacksUpload (sym (λ i. given i ++ left i)) link.lacks;
  some = λ none. left ∙ link.some (sym given ∙ none);
}
link_same t l m given left (S.Uploading framing) link = record {
  head = link.head;
  handed = link.handed;
  has = subst (λ c. HasUpload c link.head framing (link.handed ++ t.behind)) (sym given) link.has;
  front_is = link.front_is;
  used_is = link.used_is;
}

pub holds_same : (tells : Bool) (t : Text) (l m : Look) → (tells ≡ true → m.given ≡ l.given)
    → (tells ≡ true → m.left ≡ l.left) → Holds tells t l → Holds tells t m
holds_same tells t l m given left holds = record {
  text = holds.text;
  link = λ told. link_same t l m (given told) (left told) t.stage (holds.link told);
}

-- where some was given, or nothing is left, what is left may not be replaced
pub before_is : (given left before : List ℕ) → (given ≡ [] → left ≡ []) → MayReplace given left before
    → before ≡ left
before_is [] left before some may =
    let none = some refl in
    let long = ap length none in
    nil_from_length before (omega arith) ∙ sym none
before_is (b ∷ bs) left before some may = may

-- of an upload something was given
pub has_given : (given : List ℕ) (h : grammar.RequestHead) (framing : Framing) (rest : List ℕ)
    → HasUpload given h framing rest → 0 < length given
has_given given h framing rest has =
    omega (arith, ap length has.begins.reads.1, length-append (print_request h) rest, request_some h)

-- ---- a read of the client while the head is read

-- nothing came of the head yet but what is held
abbrev pub heading_text : List ℕ → ℕ → Text
heading_text front used =
    record { stage = S.Heading; front = front; shown = 0; used = used; behind = [] }

-- an upload whose head is known, and of which nothing was shown or handed over yet
abbrev pub uploading_text : Framing → grammar.RequestHead → List ℕ → Text
uploading_text framing h behind = record {
  stage = S.Uploading framing;
  front = print_request (without_body h);
  shown = 0;
  used = length (print_request h);
  behind = behind;
}

heading_is : (t : Text) → t.stage ≡ S.Heading → HoldsText S.Heading t → t ≡ heading_text t.front t.used
heading_is t stage text =
    λ i. record { stage = stage i; front = t.front; shown = text.0 i; used = t.used; behind = text.1 i }

-- what came is behind what was held, and nothing got longer
module _ (front : List ℕ) (l m : Look) (more : List ℕ) (given : l.given ≡ front)
    (g : GivesMore l m more) where
  came_given : m.given ≡ front ++ more
  came_given = g.given ∙ ap (λ x. x ++ more) given

  came_short : length ((front ++ more) ++ m.left) ≤ length (front ++ l.left)
  came_short =
      let short = replace_short l.given l.left g.before g.replaced in
      let moved = ap length g.moved in
      omega (
        arith,
        length-append (front ++ more) m.left,
        length-append front more,
        length-append more m.left,
        length-append front l.left,
      )

  came_most : length (all_of m) ≤ length (all_of l)
  came_most =
      let new = ap (λ x. length (x ++ m.left)) came_given in
      let old = ap (λ x. length (x ++ l.left)) given in
      let short = came_short in
      omega arith

module _ (tells : Bool) (front : List ℕ) (used : ℕ) (l m : Look) (more : List ℕ) (failed waited : Bool)
    (calls : Calls l m failed waited) (writes : m.writes ≡ l.writes) (sure : ReadsSurely l failed waited)
    (given : tells ≡ true → l.given ≡ front) (told : tells ≡ true → GivesMore l m more) where
  -- the head is not whole yet
  still_heading : HasNoRequest (front ++ more) → length (front ++ more) < head_limit
      → Moves tells (heading_text front used) (heading_text (front ++ more) used) l m failed waited []
      × Holds tells (heading_text (front ++ more) used) m
  still_heading none short = (
    record {
      calls = calls;
      writes = writes;
      sure = sure;
      told = λ tell. record {
        before = (front ++ more) ++ m.left;
        replaced = came_short front l m more (given tell) (told tell);
        moved = refl;
        given = refl;
        taken = (told tell).taken;
      };
      body = record {
        stage = tt;
        given = λ tell. refl;
        left = λ tell. tt;
        most = λ tell. came_most front l m more (given tell) (told tell);
      };
    },
    record {
      text = (refl, refl, short, none);
      link = λ tell. came_given front l m more (given tell) (told tell);
    },
  )

  -- there is no upload
  now_passing : (tells ≡ true → LacksUpload (all_of m)) → (tells ≡ true → m.given ≡ [] → m.left ≡ [])
      → Moves tells (heading_text front used) (record (heading_text
      (front ++ more) used) { stage = S.Passing })
      l m failed waited []
      × Holds tells (record (heading_text (front ++ more) used) { stage = S.Passing }) m
  now_passing lacks some = (
    record {
      calls = calls;
      writes = writes;
      sure = sure;
      told = λ tell. record {
        before = (front ++ more) ++ m.left;
        replaced = came_short front l m more (given tell) (told tell);
        moved = refl;
        given = rest_by_length m.given [] (front ++ more)
            (came_given front l m more (given tell) (told tell));
        taken = (told tell).taken;
      };
      body = record {
        stage = tt;
        given = λ tell. refl;
        left = λ tell. tt;
        most = λ tell. omega arith;
      };
    },
    record {
      text = (omega arith, refl);
      link = λ tell. record {
        before = [];
        given = came_given front l m more (given tell) (told tell);
        lacks = lacks tell;
        some = some tell;
      };
    },
  )

  -- there is one, whose head is stripped
  now_uploading : (framing : Framing) (h : grammar.RequestHead) (behind : List ℕ)
      → HasUpload (front ++ more) h framing behind
      → Moves tells (heading_text front used) (uploading_text framing h behind) l m failed waited []
      × Holds tells (uploading_text framing h behind) m
  now_uploading framing h behind has = (
    record {
      calls = calls;
      writes = writes;
      sure = sure;
      told = λ tell. record {
        before = print_request (without_body h);
        replaced = head_fits tell;
        moved = refl;
        given = refl;
        taken = (told tell).taken;
      };
      body = record {
        stage = tt;
        given = λ tell. body_is m.given (print_request h) [] behind (length (print_request h)) refl
            (has_now tell);
        left = λ tell. tt;
        most = λ tell. body_fits tell;
      };
    },
    record {
      text = omega arith;
      link = λ tell. record {
        head = h;
        handed = [];
        has = subst (λ c. HasUpload c h framing behind)
            (sym (came_given front l m more (given tell) (told tell))) has;
        front_is = refl;
        used_is = refl;
      };
    },
  )
    where
      parts : front ++ more ≡ print_request h ++ behind
      parts = has.begins.reads.1

      has_now : tells ≡ true → m.given ≡ print_request h ++ ([] ++ behind)
      has_now tell = came_given front l m more (given tell) (told tell) ∙ parts

      head_fits : tells ≡ true → length (print_request (without_body h)) ≤ length (front ++ l.left)
      head_fits tell = omega (
        arith,
        stripped_short h,
        ap length parts,
        length-append (print_request h) behind,
        length-append (front ++ more) m.left,
        came_short front l m more (given tell) (told tell),
      )

      body_fits : tells ≡ true → length (behind ++ m.left) ≤ length (all_of l)
      body_fits tell = omega (
        arith,
        ap length parts,
        length-append (print_request h) behind,
        length-append behind m.left,
        length-append m.given m.left,
        ap length (came_given front l m more (given tell) (told tell)),
        came_most front l m more (given tell) (told tell),
      )

-- ---- one read of the client for the head

-- what the front moves by, and what then holds
abbrev pub MovesTo : Bool → Text → Text → Look → Look → Bool → Bool → Type 0
MovesTo tells t t' l m failed waited = Moves tells t t' l m failed waited [] × Holds tells t' m

-- what it is known to be
module _ (tells : Bool) (t : Text) (l m : Look) (more : List ℕ) (failed waited : Bool)
    (stage : t.stage ≡ S.Heading) (holds : Holds tells t l)
    (calls : Calls l m failed waited) (writes : m.writes ≡ l.writes) (sure : ReadsSurely l failed waited)
    (told : tells ≡ true → GivesMore l m more) where
  heads : HoldsText S.Heading t
  heads = subst (λ s. HoldsText s t) stage holds.text

  from_front : tells ≡ true → l.given ≡ t.front
  from_front tell = subst (λ s. HoldsLink s t l) stage (holds.link tell)

  front_to : (t' : Text) → MovesTo tells (heading_text t.front t.used) t' l m failed waited
      → MovesTo tells t t' l m failed waited
  front_to t' moves =
      subst (λ u. MovesTo tells u t' l m failed waited) (sym (heading_is t stage heads)) moves

  more_is : with_more t more ≡ heading_text (t.front ++ more) t.used
  more_is = ap (λ u. with_more u more) (heading_is t stage heads)

  -- the client failed, or waits
  pub seeks_none : (t' : Text) → t' ≡ with_more t more → more ≡ [] → MovesTo tells t t' l m failed waited
  seeks_none t' is none =
      let front : t.front ++ more ≡ t.front = ap (λ x. t.front ++ x) none ∙ append-nil t.front in
      front_to t' (subst (λ u. MovesTo tells (heading_text t.front t.used) u l m failed waited) (sym (is
      ∙ more_is))
      (still_heading tells t.front t.used l m more failed waited calls writes sure from_front told
      (subst HasNoRequest (sym front) heads.3) (subst (λ x. length x < head_limit) (sym front) heads.2)))

  -- it has ended
  pub seeks_end : (t1 t' : Text) → t1 ≡ with_more t more → t' ≡ record t1 { stage = S.Passing } → more ≡ []
      → (tells ≡ true → m.left ≡ []) → MovesTo tells t t' l m failed waited
  seeks_end t1 t' is passes none ended =
      let passing : Text → Text = λ u. record u { stage = S.Passing } in
      let text : t' ≡ passing (heading_text (t.front ++ more) t.used) = passes ∙ ap passing (is ∙ more_is) in
      let front : t.front ++ more ≡ t.front = ap (λ x. t.front ++ x) none ∙ append-nil t.front in
      front_to t' (subst (λ u. MovesTo tells (heading_text t.front t.used) u l m failed waited) (sym text)
      (now_passing tells t.front t.used l m more failed waited calls writes sure from_front told
      (λ tell. none_now (all_of m) (subst HasNoRequest (sym (all tell front)) heads.3))
      (λ tell none. ended tell)))
    where
      all : tells ≡ true → t.front ++ more ≡ t.front → all_of m ≡ t.front
      all tell front =
          (λ i. (came_given t.front l m more (from_front tell) (told tell) ∙ front) i ++ ended tell i)
          ∙ append-nil t.front

  -- more of it came, of which it is known so much
  pub seeks_more : (t1 t' : Text) → t1 ≡ with_more t more → 0 < length more → Decides t1 t' t'.stage
      → MovesTo tells t t' l m failed waited
  seeks_more t1 t' is some decides =
      front_to t' (decide t'.stage (subst (λ u. Decides u t' t'.stage) (is ∙ more_is) decides))
    where
      base : Text
      base = heading_text t.front t.used

      never_now : NeverHasUpload (t.front ++ more) → tells ≡ true → LacksUpload (all_of m)
      never_now never tell =
          subst (λ g. LacksUpload (g ++ m.left))
          (sym (came_given t.front l m more (from_front tell) (told tell))) (never m.left)

      some_now : tells ≡ true → m.given ≡ [] → m.left ≡ []
      some_now tell none =
          let long = ap length (sym (came_given t.front l m more (from_front tell) (told tell)) ∙ none) in
          absurd (omega (arith, long, length-append t.front more, some))

      decide : (s : Stage) → Decides (heading_text (t.front ++ more) t.used) t' s
          → MovesTo tells base t' l m failed waited
      decide S.Heading d =
          subst (λ u. MovesTo tells base u l m failed waited) (sym d.0)
          (still_heading tells t.front t.used l m more failed waited calls writes sure from_front told d.1
          d.2)
      decide S.Passing d =
          subst (λ u. MovesTo tells base u l m failed waited) (sym d.0)
          (now_passing tells t.front t.used l m more failed waited calls writes sure from_front told
          (never_now d.1) some_now)
      decide (S.Uploading framing) (h, has, text) =
          subst (λ u. MovesTo tells base u l m failed waited) (sym text)
          (now_uploading tells t.front t.used l m more failed waited calls writes sure from_front told
          framing h t'.behind has)

-- ---- by what was filled in

pub heading_holds : (tells : Bool) (t : Text) (l : Look) → t.stage ≡ S.Heading → Holds tells t l
    → HoldsText S.Heading t
heading_holds tells t l stage holds = subst (λ s. HoldsText s t) stage holds.text

-- bytes came: what was held before them is what was held
pub came_last : {tells : Bool} {t t1 : Text} {l m : Look} {n : ℕ} → FillsFrom tells t t1 l m (G.Bytes n)
    → (n ≤ length t1.front) × (before_last n t1.front ≡ t.front)
came_last {t = t} {t1 = t1} {n = n} f =
    let more = take n f.into in
    let long : length more ≡ n = omega (arith, f.reads.fills.1, length-take n f.into) in
    let front : t1.front ≡ t.front ++ more = ap (λ (u : Text). u.front) f.text in (
      omega (arith, long, ap length front, length-append t.front more),
      ap (λ k. take (length t1.front - k) t1.front) (sym long) ∙ rest_by_length t1.front t.front more front,
    )

-- bytes came, and it is known by them what is shown, or not yet
pub filled_known : (tells : Bool) (t t1 t' : Text) (l m : Look) (n : ℕ) → t.stage ≡ S.Heading
    → Holds tells t l
    → FillsFrom tells t t1 l m (G.Bytes n) → Decides t1 t' t'.stage → MovesTo tells t t' l m false false
filled_known tells t t1 t' l m n stage holds f decides =
    let r = f.reads in
    seeks_more tells t l m
    (take n f.into) false false stage holds r.calls r.once.writes r.sure r.told t1 t' f.text
    (omega (arith, r.fills.0, r.fills.1, length-take n f.into)) decides

-- the client has ended
pub filled_ended : (tells : Bool) (t t1 t' : Text) (l m : Look) → t.stage ≡ S.Heading → Holds tells t l
    → FillsFrom tells t t1 l m G.End → t' ≡ record t1 { stage = S.Passing }
    → MovesTo tells t t' l m false false
filled_ended tells t t1 t' l m stage holds f passes =
    let r = f.reads in
    seeks_end tells t l m [] false false stage holds r.calls r.once.writes r.sure r.told t1 t' f.text
    passes refl r.ends

-- it waits
pub filled_waits : (tells : Bool) (t t1 : Text) (l m : Look) → t.stage ≡ S.Heading → Holds tells t l
    → FillsFrom tells t t1 l m G.Again → MovesTo tells t t1 l m false true
filled_waits tells t t1 l m stage holds f =
    let r = f.reads in
    seeks_none tells t l m [] false true stage holds r.calls r.once.writes r.sure r.told t1 f.text refl

-- it failed
pub filled_fails : (tells : Bool) (t t1 : Text) (l m : Look) → t.stage ≡ S.Heading → Holds tells t l
    → FillsFrom tells t t1 l m G.Failed → MovesTo tells t t1 l m true false
filled_fails tells t t1 l m stage holds f =
    let r = f.reads in
    seeks_none tells t l m [] true false stage holds r.calls r.once.writes r.sure r.told t1 f.text refl

-- with more bytes more is held, or it is known
pub filled_on : (tells : Bool) (t t1 t' : Text) (l m : Look) (n : ℕ) → FillsFrom tells t t1 l m (G.Bytes n)
    → Decides t1 t' t'.stage → (t'.stage ≢ S.Heading) ⊎ (length t.front < length t'.front)
filled_on tells t t1 t' l m n f decides = by_stage t'.stage decides
  where
    longer : t' ≡ t1 → length t.front < length t'.front
    longer same =
        let long = ap (λ (u : Text). length u.front) (same ∙ f.text) in
        omega (
          arith,
          long,
          length-append t.front (take n f.into),
          f.reads.fills.0,
          f.reads.fills.1,
          length-take n f.into,
        )

    by_stage : (s : Stage) → Decides t1 t' s → (s ≢ S.Heading) ⊎ (length t.front < length t'.front)
    by_stage S.Heading d = inr (longer d.0)
    by_stage S.Passing d = inl (λ wrong. absurd (cc))
    by_stage (S.Uploading framing) d = inl (λ wrong. absurd (cc))

-- a front that passes its client on knows what is shown
pub passes_known : (t1 t' : Text) → t' ≡ record t1 { stage = S.Passing } → t'.stage ≢ S.Heading
passes_known t1 t' is wrong =
    let passing : t'.stage ≡ S.Passing = ap (λ (u : Text). u.stage) is in absurd (cc)

-- ---- how long it can go on

pub is_heading_stage : (s : Stage) → is_heading s ≡ true → s ≡ S.Heading
is_heading_stage S.Heading is = refl
is_heading_stage S.Passing is = absurd (cc)
is_heading_stage (S.Uploading framing) is = absurd (cc)

pub is_known_stage : (s : Stage) → is_heading s ≡ false → s ≢ S.Heading
is_known_stage S.Heading is = absurd (cc)
is_known_stage S.Passing is = λ wrong. absurd (cc)
is_known_stage (S.Uploading framing) is = λ wrong. absurd (cc)

-- so many bytes may still come while the head is read
abbrev pub heading_left : Text → ℕ
heading_left t = cond (is_heading t.stage) ((head_limit - length t.front) + 1) 0

pub heading_falls : (t t' : Text) → t.stage ≡ S.Heading → length t.front < head_limit
    → (t'.stage ≢ S.Heading) ⊎ (length t.front < length t'.front) → heading_left t' < heading_left t
heading_falls t t' stage short on =
    subst (λ s. heading_left t' < cond (is_heading s) ((head_limit - length t.front) + 1) 0) (sym stage)
    (by_stage t'.stage on)
  where
    by_stage : (s : Stage) → (s ≢ S.Heading) ⊎ (length t.front < length t'.front)
        → cond (is_heading s) ((head_limit - length t'.front) + 1) 0 < (head_limit - length t.front) + 1
    by_stage S.Heading (inl known) = absurd (known refl)
    by_stage S.Heading (inr longer) = omega arith
    by_stage S.Passing on = omega arith
    by_stage (S.Uploading framing) on = omega arith
