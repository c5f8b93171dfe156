-- What a front shows once it is known what that is, and how it hands the body of an upload over.
use Rattle.std.proofs.Common.{◌≡◌, ◌≢◌, ℕ, ◌+◌, ◌-◌, ◌<◌, ◌≤◌, Bool, false, List, [], ◌++◌, length, take}
use Rattle.std.proofs.Common.{drop, refl, sym, ap, subst, ◌∙◌, arith, append_assoc, length-append}
use Rattle.std.proofs.lemmas.List.{append-nil, drop-drop, length-drop, nil_from_length}
use Rattle.std.proofs.Math.Seq.{take-add}
use Rattle.ts_lists.proofs.Fronts.{rest_by_length}
use Rattle.httparse.specs.Grammar.{print_request}
use Rattle.ts_link.specs.Link.{GivesMore, Look, MayReplace, Reads, all_of}
use Rattle.ts_link.specs.LinkAnswers.{EndsWell, count_got, got_again, got_failed}
use Rattle.ts_link.specs.declared.link.Got.{Got}
use Rattle.ts_link.specs.declared.link.Got.TheVariants as G
use Rattle.ts_wire.specs.declared.framing.Framing.{Framing}
use Rattle.ts_request.specs.Front.{HandsOn, Holds, Moves, PassesOn, ReadsBody, Shows, left_by}
use Rattle.ts_request.specs.Held.{Copies, GivesFront, HandsFront}
use Rattle.ts_request.specs.Text.{Text, waiting}
use Rattle.ts_request.specs.Upload.{HasUpload, LacksUpload}
use Rattle.ts_request.specs.declared.stage.Stage.{Stage}
use Rattle.ts_request.specs.declared.stage.Stage.TheVariants as S
use Rattle.ts_request.proofs.LinkCalls.{calls_none, replace_none, replace_not, sure_none}
use Rattle.ts_request.proofs.FrontMoves.{before_is, body_is, has_given, moved_on, moves_after, moves_none}
use Rattle.ts_request.proofs.FrontMoves.{piece_of}

-- a text by its parts
abbrev text_of : Stage → List ℕ → ℕ → ℕ → List ℕ → Text
text_of stage front shown used behind =
    record { stage = stage; front = front; shown = shown; used = used; behind = behind }

-- ---- what waits is shown

-- what is shown of the front of what waits, and what then waits
module _ (front into : List ℕ) (shown count : ℕ) (copied : take count into ≡ take count
    (drop shown front)) where
  waits_on : drop shown front ≡ take count into ++ drop (shown + count) front
  waits_on = piece_of (drop shown front) into (drop (shown + count) front) count copied (sym
      (drop-drop count shown front))

  shown_on : take (shown + count) front ≡ take shown front ++ take count into
  shown_on = take-add shown count front ∙ ap (λ l. take shown front ++ l) (sym copied)

  fits_on : count ≤ length (drop shown front) → shown ≤ length front → shown + count ≤ length front
  fits_on few within = omega (arith, few, within, length-drop shown front)

shows_waiting_by : (tells : Bool) (s : Stage) (front : List ℕ) (shown used : ℕ) (behind : List ℕ) (l : Look)
    (into : List ℕ) (count : ℕ) → s ≢ S.Heading → Holds tells (text_of s front shown used behind) l
    → take count into ≡ take count (drop shown front) → count ≤ length (drop shown front)
    → Moves tells (text_of s front shown used behind) (text_of s front (shown + count) used behind) l l
    false false (take count into)
    × Holds tells (text_of s front (shown + count) used behind) l
shows_waiting_by tells S.Heading front shown used behind l into count known holds copied few = absurd
    (known refl)
shows_waiting_by tells S.Passing front shown used behind l into count known holds copied few =
    let waits = waits_on front into shown count copied in (
      record {
        calls = calls_none l;
        writes = refl;
        sure = sure_none l;
        told = λ tell.
            let link = holds.link tell in
            record {
              before = drop shown front ++ l.left;
              replaced = replace_none _ _;
              moved = moved_on (drop shown front) (take count into) (drop (shown + count) front) l.left waits;
              given = rest_by_length l.given (link.before ++ take count into) (drop (shown + count) front)
                  (now link)
                  ∙ ap (λ g. g ++ take count into)
                  (sym (rest_by_length l.given link.before (drop shown front) link.given));
              taken = refl;
            };
        body = record { stage = refl; given = λ tell. refl; left = λ tell. tt; most = λ tell. omega arith };
      },
      record {
        text = (fits_on front into shown count copied few holds.text.0, holds.text.1);
        link = λ tell.
            let link = holds.link tell in
            record {
              before = link.before ++ take count into;
              given = now link;
              lacks = link.lacks;
              some = link.some;
            };
      },
    )
  where
    now : (link : PassesOn (text_of S.Passing front shown used behind) l)
        → l.given ≡ (link.before ++ take count into) ++ drop (shown + count) front
    now link =
        link.given ∙ ap (λ x. link.before ++ x) (waits_on front into shown count copied)
        ∙ sym (append_assoc link.before (take count into) (drop (shown + count) front))
shows_waiting_by tells (S.Uploading framing) front shown used behind l into count known holds copied few = (
  record {
    calls = calls_none l;
    writes = refl;
    sure = sure_none l;
    told = λ tell. record {
      before = drop shown front;
      replaced = replace_none _ _;
      moved = waits_on front into shown count copied;
      given = shown_on front into shown count copied;
      taken = refl;
    };
    body = record { stage = refl; given = λ tell. refl; left = λ tell. refl; most = λ tell. omega arith };
  },
  record {
    text = fits_on front into shown count copied few holds.text;
    link = λ tell.
        let link = holds.link tell in
        record {
          head = link.head;
          handed = link.handed;
          has = link.has;
          front_is = link.front_is;
          used_is = link.used_is;
        };
  },
)

-- some of what waits is shown
pub shows_waiting : (tells : Bool) (t t' : Text) (l : Look) (into : List ℕ) (count : ℕ) → t.stage ≢ S.Heading
    → Holds tells t l → t' ≡ record t { shown = t.shown + count } → take count into ≡ take count (waiting t)
    → count ≤ length (waiting t)
    → Moves tells t t' l l false false (take count into) × Holds tells t' l
shows_waiting tells t t' l into count known holds is copied few =
    subst (λ u. Moves tells t u l l false false (take count into) × Holds tells u l) (sym is)
    (shows_waiting_by tells t.stage t.front t.shown t.used t.behind l into count known holds copied few)

-- where nothing waits, all that the client gave was shown
pub all_shown : (t : Text) → waiting t ≡ [] → (given : List ℕ)
    → take (length given - length (waiting t)) given ≡ given
all_shown t none given = rest_by_length given given (waiting t) (sym (append-nil given)
    ∙ ap (λ x. given ++ x) (sym none))

-- ---- the client is read on

-- what was given and may still be stays, where it may not be replaced
all_same : (l m : Look) (more : List ℕ) → (l.given ≡ [] → l.left ≡ []) → GivesMore l m more
    → all_of m ≡ all_of l
all_same l m more some g =
    ap (λ x. x ++ m.left) g.given ∙ append_assoc l.given more m.left
    ∙ ap (λ x. l.given ++ x) (sym g.moved ∙ before_is l.given l.left g.before some g.replaced)

-- and what ended stays so
still_some : (l m : Look) (more : List ℕ) → (l.given ≡ [] → l.left ≡ []) → GivesMore l m more
    → m.given ≡ [] → m.left ≡ []
still_some l m more some g none =
    let none_before : length l.given ≡ 0 =
    let long = ap length (sym g.given ∙ none) in omega (arith, long, length-append l.given more) in
    let empty = nil_from_length l.given none_before in
    let whole = ap length (all_same l m more some g) in
    let left = ap length (some empty) in
    nil_from_length m.left (omega (
      arith,
      whole,
      left,
      none_before,
      length-append m.given m.left,
      length-append l.given l.left,
    ))

shows_client_by : (tells : Bool) (front : List ℕ) (shown used : ℕ) (behind : List ℕ) (l m : Look)
    (answer : Got)
    (into : List ℕ) → drop shown front ≡ [] → Holds tells (text_of S.Passing front shown used behind) l
    → Reads tells l m answer into
    → Shows tells (text_of S.Passing front shown used behind)
    (text_of S.Passing front shown used behind) l m answer into
    × Holds tells (text_of S.Passing front shown used behind) m
shows_client_by tells front shown used behind l m answer into none holds reads = (
  record {
    fills = reads.fills;
    moves = record {
      calls = reads.calls;
      writes = reads.once.writes;
      sure = reads.sure;
      told = λ tell.
          let g = reads.told tell in
          record {
            before = g.before;
            replaced = subst (λ x. MayReplace x (drop shown front ++ l.left) g.before) (sym (all l))
                (subst (λ x. MayReplace l.given x g.before) (sym (left l)) g.replaced);
            moved = g.moved ∙ ap (λ x. take (count_got answer) into ++ x) (sym (left m));
            given = all m ∙ g.given ∙ ap (λ x. x ++ take (count_got answer) into) (sym (all l));
            taken = g.taken;
          };
      body = record { stage = refl; given = λ tell. refl; left = λ tell. tt; most = λ tell. omega arith };
    };
    ends = λ tell. subst (EndsWell answer) (sym (left m)) (reads.ends tell);
  },
  record {
    text = holds.text;
    link = λ tell.
        let link = holds.link tell in
        let g = reads.told tell in
        record {
          before = m.given;
          given = sym (append-nil m.given) ∙ ap (λ x. m.given ++ x) (sym none);
          lacks = subst LacksUpload (sym (all_same l m (take
              (count_got answer) into) link.some g)) link.lacks;
          some = still_some l m (take (count_got answer) into) link.some g;
        };
  },
)
  where
    left : (k : Look) → drop shown front ++ k.left ≡ k.left
    left k = ap (λ x. x ++ k.left) none

    all : (k : Look) → take (length k.given - length (drop shown front)) k.given ≡ k.given
    all k = all_shown (text_of S.Passing front shown used behind) none k.given

-- the client is read, where nothing waits
pub shows_client : (tells : Bool) (t : Text) (l m : Look) (answer : Got) (into : List ℕ) → t.stage ≡ S.Passing
    → waiting t ≡ [] → Holds tells t l → Reads tells l m answer into
    → Shows tells t t l m answer into × Holds tells t m
shows_client tells t l m answer into stage none holds reads =
    let text : t ≡ text_of S.Passing t.front t.shown t.used t.behind =
    λ i. text_of (stage i) t.front t.shown t.used t.behind in
    subst (λ u. Shows tells u u l m answer into × Holds tells u m) (sym text)
    (shows_client_by tells t.front t.shown t.used t.behind l m answer into none
    (subst (λ u. Holds tells u l) text holds) reads)

-- the head of an upload is followed by the end
pub shows_end : (tells : Bool) (t : Text) (l : Look) (framing : Framing) (into : List ℕ)
    → t.stage ≡ S.Uploading framing → waiting t ≡ [] → Shows tells t t l l G.End into
shows_end tells t l framing into stage none = record {
  fills = tt;
  moves = moves_none tells t l;
  ends = λ tell. ap (λ s. left_by s t l.left) stage ∙ none;
}

-- ---- a read of the front

-- what was read for the head, and then what is shown
pub shows_after : (tells : Bool) (t u v : Text) (l m n : Look) (answer : Got) (into : List ℕ)
    → Moves tells t u l m false false [] → Shows tells u v m n answer into → Shows tells t v l n answer into
shows_after tells t u v l m n answer into moves shows = record {
  fills = shows.fills;
  moves = moves_after tells t u v l m n (got_failed answer) (got_again answer)
      (take (count_got answer) into) moves shows.moves;
  ends = shows.ends;
}

-- ---- the body is handed over

hands_held_by : (tells : Bool) (framing : Framing) (front : List ℕ) (shown used : ℕ) (behind : List ℕ)
    (l : Look)
    (into : List ℕ) (count : ℕ) → 1 ≤ count → count ≤ length into
    → take count into ≡ take count behind
    → Holds tells (text_of (S.Uploading framing) front shown used behind) l
    → ReadsBody tells (text_of (S.Uploading framing) front shown used behind)
    (text_of (S.Uploading framing) front shown used (drop count behind)) l l (G.Bytes count) into
    × Holds tells (text_of (S.Uploading framing) front shown used (drop count behind)) l
hands_held_by tells framing front shown used behind l into count some fits copied holds =
    let parts : behind ≡ take count into ++ drop count behind =
    piece_of behind into (drop count behind) count copied refl in (
      record {
        fills = (some, fits);
        text = refl;
        calls = calls_none l;
        writes = refl;
        sure = sure_none l;
        told = λ tell.
            let link = holds.link tell in
            record {
              given = body_is l.given (print_request link.head) (link.handed ++ take count into)
                  (drop count behind) used link.used_is (now link)
                  ∙ ap (λ x. x ++ take count into) (sym (body_is l.given (print_request link.head) link.handed
                  behind used link.used_is link.has.begins.reads.1));
              left = moved_on behind (take count into) (drop count behind) l.left parts;
              taken = refl;
            };
        ends = λ tell. tt;
      },
      record {
        text = holds.text;
        link = λ tell.
            let link = holds.link tell in
            record {
              head = link.head;
              handed = link.handed ++ take count into;
              has = subst (HasUpload l.given link.head framing) (rest link) link.has;
              front_is = link.front_is;
              used_is = link.used_is;
            };
      },
    )
  where
    rest : (link : HandsOn framing (text_of (S.Uploading framing) front shown used behind) l)
        → link.handed ++ behind ≡ (link.handed ++ take count into) ++ drop count behind
    rest link =
        ap (λ x. link.handed ++ x) (piece_of behind into (drop count behind) count copied refl)
        ∙ sym (append_assoc link.handed (take count into) (drop count behind))

    now : (link : HandsOn framing (text_of (S.Uploading framing) front shown used behind) l)
        → l.given ≡ print_request link.head ++ ((link.handed ++ take count into) ++ drop count behind)
    now link = link.has.begins.reads.1 ∙ ap (λ x. print_request link.head ++ x) (rest link)

hands_client_by : (tells : Bool) (framing : Framing) (front : List ℕ) (shown used : ℕ) (l m : Look)
    (answer : Got)
    (into : List ℕ) → Holds tells (text_of (S.Uploading framing) front shown used []) l
    → Reads tells l m answer into
    → ReadsBody tells (text_of (S.Uploading framing) front shown used [])
    (text_of (S.Uploading framing) front shown used []) l m answer into
    × Holds tells (text_of (S.Uploading framing) front shown used []) m
hands_client_by tells framing front shown used l m answer into holds reads = (
  record {
    fills = reads.fills;
    text = refl;
    calls = reads.calls;
    writes = reads.once.writes;
    sure = reads.sure;
    told = λ tell.
        let link = holds.link tell in
        let g = reads.told tell in
        record {
          given = body_is m.given (print_request link.head) (link.handed ++ take (count_got answer) into) []
              used link.used_is (now link g)
              ∙ ap (λ x. x ++ take (count_got answer) into) (sym (body_is l.given (print_request link.head)
              link.handed [] used link.used_is link.has.begins.reads.1));
          left = sym (replace_not l.given l.left g.before
              (has_given l.given link.head framing (link.handed ++ []) link.has) g.replaced) ∙ g.moved;
          taken = g.taken;
        };
    ends = reads.ends;
  },
  record {
    text = holds.text;
    link = λ tell.
        let link = holds.link tell in
        let g = reads.told tell in
        record {
          head = link.head;
          handed = link.handed ++ take (count_got answer) into;
          has = record {
            begins = record {
              reads = (link.has.begins.reads.0, now link g);
              short = link.has.begins.short;
              few = link.has.begins.few;
            };
            framed = link.has.framed;
          };
          front_is = link.front_is;
          used_is = link.used_is;
        };
  },
)
  where
    now : (link : HandsOn framing (text_of (S.Uploading framing) front shown used []) l)
        → GivesMore l m (take (count_got answer) into)
        → m.given ≡ print_request link.head ++ ((link.handed ++ take (count_got answer) into) ++ [])
    now link g =
        g.given ∙ ap (λ x. x ++ take (count_got answer) into) link.has.begins.reads.1
        ∙ simp (append_assoc, append-nil)

-- some of what came with the head is handed over
pub hands_held : (tells : Bool) (t t' : Text) (l : Look) (framing : Framing) (into : List ℕ) (count : ℕ)
    → t.stage ≡ S.Uploading framing → 1 ≤ count → count ≤ length into
    → t' ≡ record t { behind = drop count t.behind }
    → take count into ≡ take count t.behind → Holds tells t l
    → ReadsBody tells t t' l l (G.Bytes count) into × Holds tells t' l
hands_held tells t t' l framing into count stage some fits is copied holds =
    let text : t ≡ text_of (S.Uploading framing) t.front t.shown t.used t.behind =
    λ i. text_of (stage i) t.front t.shown t.used t.behind in
    let text' : t' ≡ text_of (S.Uploading framing) t.front t.shown t.used (drop count t.behind) =
    is ∙ (λ i. text_of (stage i) t.front t.shown t.used (drop count t.behind)) in
    subst (λ u. ReadsBody tells u t' l l (G.Bytes count) into × Holds tells t' l) (sym text)
    (subst (λ u. ReadsBody tells (text_of (S.Uploading framing) t.front t.shown t.used t.behind) u l l
    (G.Bytes count) into × Holds tells u l) (sym text')
    (hands_held_by tells framing t.front t.shown t.used t.behind l into count some fits copied
    (subst (λ u. Holds tells u l) text holds)))

-- the client is read for the body, where all that came with the head was handed over
pub hands_client : (tells : Bool) (t t' : Text) (l m : Look) (framing : Framing) (answer : Got)
    (into : List ℕ)
    (count : ℕ) → t.stage ≡ S.Uploading framing → t.behind ≡ []
    → t' ≡ record t { behind = drop count t.behind }
    → Holds tells t l → Reads tells l m answer into
    → ReadsBody tells t t' l m answer into × Holds tells t' m
hands_client tells t t' l m framing answer into count stage none is holds reads =
    let text : t ≡ text_of (S.Uploading framing) t.front t.shown t.used [] =
    λ i. text_of (stage i) t.front t.shown t.used (none i) in
    let dropped : drop count t.behind ≡ [] =
    nil_from_length (drop count t.behind) (let long = ap length none in omega
    (arith, length-drop count t.behind)) in
    let text' : t' ≡ text_of (S.Uploading framing) t.front t.shown t.used [] =
    is ∙ (λ i. text_of (stage i) t.front t.shown t.used (dropped i)) in
    subst (λ u. ReadsBody tells u t' l m answer into × Holds tells t' m) (sym text)
    (subst (λ u. ReadsBody tells (text_of (S.Uploading framing) t.front t.shown t.used []) u l m answer into
    × Holds tells u m) (sym text')
    (hands_client_by tells framing t.front t.shown t.used l m answer into
    (subst (λ u. Holds tells u l) text holds) reads))

-- ---- by what was copied

nothing_waits : (list into into' : List ℕ) (count : ℕ) → Copies list into into' count → 0 < length into
    → count ≤ 0
    → list ≡ []
nothing_waits list into into' count copies room none =
    nil_from_length list (omega (arith, copies.count_is))

same_text : (t t' : Text) (count : ℕ) → count ≤ 0 → t' ≡ record t { shown = t.shown + count } → t' ≡ t
same_text t t' count none is =
    let n : t.shown + count ≡ t.shown = omega arith in is ∙ (λ i. record t { shown = n i })

-- some of what waits
pub waiting_shown : (tells : Bool) (t t' : Text) (l : Look) (into into' : List ℕ) (count : ℕ)
    → GivesFront t t' into into' count → 0 < count → t.stage ≢ S.Heading → Holds tells t l
    → Shows tells t t' l l (G.Bytes count) into' × Holds tells t' l
waiting_shown tells t t' l into into' count gives some known holds =
    let copies = gives.copies in
    let moves = shows_waiting tells t t' l into' count known holds gives.text copies.bytes
    (omega (arith, copies.count_is)) in (
      record {
        fills = (omega arith, omega (arith, copies.count_is, copies.room));
        moves = moves.0;
        ends = λ tell. tt;
      },
      moves.1,
    )

-- the end behind the head of an upload
pub end_shown : (tells : Bool) (t t' : Text) (l : Look) (framing : Framing) (into into' : List ℕ) (count : ℕ)
    → GivesFront t t' into into' count → count ≤ 0 → 0 < length into → t'.stage ≡ S.Uploading framing
    → Holds tells t l
    → Shows tells t t' l l G.End into' × Holds tells t' l
end_shown tells t t' l framing into into' count gives none room stage holds =
    let same = same_text t t' count none gives.text in
    let waits : waiting t' ≡ [] =
    ap waiting same ∙ nothing_waits (waiting t) into into' count gives.copies room none in (
      subst (λ u. Shows tells u t' l l G.End into') same (shows_end tells t' l framing into' stage waits),
      subst (λ u. Holds tells u l) (sym same) holds,
    )

-- what the client gives, where there is no upload
pub client_shown : (tells : Bool) (t t' : Text) (l m : Look) (answer : Got) (into into' last : List ℕ)
    (count : ℕ)
    → GivesFront t t' into into' count → count ≤ 0 → 0 < length into → t'.stage ≡ S.Passing → Holds tells t l
    → Reads tells l m answer last
    → Shows tells t t' l m answer last × Holds tells t' m
client_shown tells t t' l m answer into into' last count gives none room stage holds reads =
    let same = same_text t t' count none gives.text in
    let waits : waiting t' ≡ [] =
    ap waiting same ∙ nothing_waits (waiting t) into into' count gives.copies room none in
    subst (λ u. Shows tells u t' l m answer last × Holds tells t' m) same
    (shows_client tells t' l m answer last stage waits (subst (λ u. Holds tells u l) (sym same) holds) reads)

-- some of the body that came with the head
pub behind_handed : (tells : Bool) (t t' : Text) (l : Look) (framing : Framing) (into into' : List ℕ)
    (count : ℕ)
    → HandsFront t t' into into' count → 0 < count → t.stage ≡ S.Uploading framing → Holds tells t l
    → ReadsBody tells t t' l l (G.Bytes count) into' × Holds tells t' l
behind_handed tells t t' l framing into into' count hands some stage holds =
    let copies = hands.copies in
    hands_held tells t t' l framing into' count stage (omega arith) (omega
    (arith, copies.count_is, copies.room))
    hands.text copies.bytes holds

-- what the client gives of it
pub client_handed : (tells : Bool) (t t' : Text) (l m : Look) (framing : Framing) (answer : Got)
    (into into' last : List ℕ) (count : ℕ)
    → HandsFront t t' into into' count → count ≤ 0 → 0 < length into → t.stage ≡ S.Uploading framing
    → Holds tells t l → Reads tells l m answer last
    → ReadsBody tells t t' l m answer last × Holds tells t' m
client_handed tells t t' l m framing answer into into' last count hands none room stage holds reads =
    hands_client tells t t' l m framing answer last count stage
    (nothing_waits t.behind into into' count hands.copies room none) hands.text holds reads
